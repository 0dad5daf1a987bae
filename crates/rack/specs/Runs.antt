-- What an opening and a list of calls come to.
use Rattle.std.specs.Prelude.{◌≡◌, ℕ, cond, List, length, replicate, Some, None, Ok, Err, Option, Result, nat_lt}
use Rattle.polls.specs.Step.{Step}
use Rattle.schedule.specs.declared.Schedule.{Ghosts}
use Rattle.cell.specs.declared.call.Call.{Call}
use Rattle.cell.specs.declared.report.Fault.{Fault}
use Rattle.cell.specs.declared.report.Report.{Report}
use Rattle.cell.specs.Keeps.{Cell}
use Rattle.rack.specs.declared.run.Unserved.{Unserved}
use Rattle.rack.specs.declared.run.Unserved.TheVariants.{Refused, NoRoom}
use Rattle.rack.specs.History.{history}
use Rattle.rack.specs.Law.{Ran, Law}

-- The rack was opened and the calls carried out, each on what the call before left; and the law holds.
pub record Serves {F O S : Type 0} (step : F → ℕ → Step F O) (P : Ghosts S) (bays : List (Option (Cell F O))) (s : S) (calls : List (Call F)) (said : List (Result (Report O) Fault)) (bays' : List (Option (Cell F O))) (s' : S) : Type 0 where
  pub each_answered : length said ≡ length calls
  pub in_turn : Ran step P (replicate (length bays) None) s (history calls said) bays' s'
  pub law : Law step P (history calls said) bays' s'

abbrev by_opening : Option Fault → Option Unserved
by_opening None = None
by_opening (Some e) = Some (Refused e)

-- Why a list of n calls is not carried out, if it is not: there is no room for the reports, or else the opening is refused.
abbrev pub unserved : ℕ → ℕ → Option Fault → Option Unserved
unserved n room e = cond (nat_lt room n) (Some NoRoom) (by_opening e)

-- It is refused for this reason and no other, and then bays, policy and reports stay as they were.
abbrev pub Refuses : {B S V T : Type 0} → Option Unserved → Result T Unserved → B → B → S → S → V → V → Type 0
Refuses why (Ok x) b b' s s' v v' = why ≡ None
Refuses why (Err e) b b' s s' v v' = (why ≡ Some e) × (b' ≡ b) × (s' ≡ s) × (v' ≡ v)
