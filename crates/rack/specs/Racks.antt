-- What each call does to a rack: the bays and the policy side by side.
use Rattle.std.specs.Prelude.{◌≡◌, ℕ, Bool, cond, not, ◌&&◌, ◌||◌, List, length, drop, replicate, is_some, Some, None, Ok, Err, Option, Result, ◌==◌, nat_le, nat_lt, slice_index_or, slice_set}
use Rattle.polls.specs.Step.{Step}
use Rattle.schedule.specs.declared.Schedule.{Ghosts}
use Rattle.schedule.specs.Entries.{first, accepts}
use Rattle.cell.specs.declared.call.Act.{Act}
use Rattle.cell.specs.declared.call.Call.{Call}
use Rattle.cell.specs.declared.call.Call.TheVariants.{Spawn, Take, At}
use Rattle.cell.specs.declared.report.Answer.TheVariants as answer
use Rattle.cell.specs.declared.report.Fault.{Fault}
use Rattle.cell.specs.declared.report.Fault.TheVariants as fault
use Rattle.cell.specs.declared.report.Report.{Report}
use Rattle.cell.specs.Steps.{says}
use Rattle.cell.specs.Acts.{acted, spawned, taken}
use Rattle.cell.specs.Keeps.{Cell}
use Rattle.cell.specs.declared.act.Move.{Move}

-- what a call does to the policy
pub data Shift : Type 0 where
  stays : Shift
  -- this bay is put, with this mark
  puts : ℕ → Bool → Shift
  takes : Shift

-- what a call says, and what it leaves
pub record After (F O : Type 0) : Type 0 where
  pub outcome : Result (Report O) Fault
  pub bays : List (Option (Cell F O))
  pub shift : Shift

abbrev pub shifted : ℕ → Option Bool → Shift
shifted b None = stays
shifted b (Some mark) = puts b mark

-- the bays number 0 or more than 64
abbrev pub crowded : ℕ → Bool
crowded n = n == 0 || nat_lt 64 n

-- how many bays there are, or the refusal
abbrev pub counted : ℕ → Result ℕ Fault
counted n = cond (crowded n) (Err fault.BayCount) (Ok n)

module _ {F O : Type 0} where
  -- what is in the bay of a number
  abbrev pub located : List (Option (Cell F O)) → ℕ → Result (Option (Cell F O)) Fault
  located bays b = cond (crowded (length bays)) (Err fault.BayCount) (cond (nat_le (length bays) b) (Err fault.NoSuchBay) (Ok (slice_index_or bays b None)))

  -- a refusal leaves the bays and the policy as they are
  abbrev pub refusal : List (Option (Cell F O)) → Fault → After F O
  refusal bays e = record { outcome = Err e; bays = bays; shift = stays }

  -- a call that must put is refused if the policy would refuse the put
  abbrev pub settled : List ℕ → ℕ → List (Option (Cell F O)) → ℕ → Result (Move F O) Fault → After F O
  settled entries places bays b (Err e) = refusal bays e
  settled entries places bays b (Ok m) =
      cond (is_some m.report.put && not (accepts b entries places))
      (refusal bays fault.PutRefused)
      (record { outcome = Ok m.report; bays = slice_set bays b m.bay; shift = shifted b m.report.put })

  -- spawn: into a vacant bay
  abbrev pub spawn_into : List (Option (Cell F O)) → ℕ → F → Result (Option (Cell F O)) Fault → After F O
  spawn_into bays b f (Err e) = refusal bays e
  spawn_into bays b f (Ok (Some c)) = refusal bays fault.Occupied
  spawn_into bays b f (Ok None) = record { outcome = Ok (says answer.Done); bays = slice_set bays b (Some (spawned f)); shift = stays }

  -- any call but spawn and take: on the cell of an occupied bay
  abbrev pub act_on : (F → ℕ → Step F O) → List ℕ → ℕ → List (Option (Cell F O)) → ℕ → Act → Result (Option (Cell F O)) Fault → After F O
  act_on step entries places bays b a (Err e) = refusal bays e
  act_on step entries places bays b a (Ok None) = refusal bays fault.Vacant
  act_on step entries places bays b a (Ok (Some c)) = settled entries places bays b (acted step c a)

  -- take: the Runnable of the first entry comes to hand
  abbrev pub hand_over : List (Option (Cell F O)) → ℕ → Option (Cell F O) → After F O
  hand_over bays b None = refusal bays fault.StrayEntry
  hand_over bays b (Some c) = record { outcome = Ok (says (answer.Found b)); bays = slice_set bays b (Some c); shift = takes }

  abbrev pub waiting_in : Option (Cell F O) → Option (Cell F O)
  waiting_in None = None
  waiting_in (Some c) = taken c

  abbrev pub waiting_at : List (Option (Cell F O)) → ℕ → Option (Cell F O)
  waiting_at bays b = waiting_in (slice_index_or bays b None)

  abbrev pub take_first : List (Option (Cell F O)) → Option ℕ → After F O
  take_first bays None = record { outcome = Ok (says answer.Nothing); bays = bays; shift = stays }
  take_first bays (Some b) = hand_over bays b (waiting_at bays b)

  -- Each call, by its tests and its step, where the policy has these entries and places.
  abbrev pub decided : (F → ℕ → Step F O) → List ℕ → ℕ → List (Option (Cell F O)) → Call F → After F O
  decided step entries places bays (Spawn b f) = spawn_into bays b f (located bays b)
  decided step entries places bays Take = cond (crowded (length bays)) (refusal bays fault.BayCount) (take_first bays (first entries))
  decided step entries places bays (At b a) = act_on step entries places bays b a (located bays b)

-- How the policy goes over from s to s'. The order after a put is the policy's own, `after`.
abbrev pub Shifted : {S : Type 0} → Ghosts S → Shift → S → S → Type 0
Shifted P stays s s' = s' ≡ s
Shifted P (puts b mark) s s' = (P.entries s' ≡ P.after s b mark) × (P.places s' ≡ P.places s) × (P.agrees s → P.agrees s')
Shifted P takes s s' = (P.entries s' ≡ drop 1 (P.entries s)) × (P.places s' ≡ P.places s) × (P.agrees s → P.agrees s')

-- a rack, what is decided, what was said, and the rack after
pub record Became {F O S : Type 0} (P : Ghosts S) (s : S) (x : After F O) (o : Result (Report O) Fault) (bays' : List (Option (Cell F O))) (s' : S) : Type 0 where
  pub outcome : o ≡ x.outcome
  pub bays : bays' ≡ x.bays
  pub policy : Shifted P x.shift s s'

-- One call on a rack: the bays and the policy s, the call, what was said, and the bays and the policy after.
abbrev pub Stepped : {F O S : Type 0} → (F → ℕ → Step F O) → Ghosts S → List (Option (Cell F O)) → S → Call F → Result (Report O) Fault → List (Option (Cell F O)) → S → Type 0
Stepped step P bays s call o bays' s' = Became P s (decided step (P.entries s) (P.places s) bays call) o bays' s'

-- Why an opening is refused, if it is: 0 bays or more than 64; a policy with an entry, or with fewer places than bays.
abbrev pub unfit : ℕ → List ℕ → ℕ → Option Fault
unfit bays entries places =
    cond (crowded bays) (Some fault.BayCount)
    (cond (is_some (first entries) || nat_lt places bays) (Some fault.PolicyUnfit) None)

-- An opening answers the number of bays, all of them vacant now; or it is refused, and changes nothing.
abbrev pub Opens : {F O : Type 0} → List (Option (Cell F O)) → Option Fault → Result ℕ Fault → List (Option (Cell F O)) → Type 0
Opens bays None o bays' = (o ≡ Ok (length bays)) × (bays' ≡ replicate (length bays) None)
Opens bays (Some e) o bays' = (o ≡ Err e) × (bays' ≡ bays)
