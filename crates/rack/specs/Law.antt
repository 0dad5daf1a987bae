-- The law: what holds of a rack after any list of calls, whatever the policy and the future.
use Rattle.std.specs.Prelude.{◌≡◌, ℕ, ◌+◌, true, false, cond, not, ◌&&◌, ◌||◌, List, [], ◌∷◌, is_some, Some, None, Ok, Err, Option, Result, slice_index_or}
use Rattle.polls.specs.Step.{Step}
use Rattle.polls.specs.Through.{through, standing, finished}
use Rattle.schedule.specs.declared.Schedule.{Ghosts}
use Rattle.schedule.specs.Entries.{is_in, distinct}
use Rattle.bits.specs.Words.{still_open}
use Rattle.cell.specs.declared.call.Call.{Call}
use Rattle.cell.specs.declared.call.Call.TheVariants.{Spawn, Take, At}
use Rattle.cell.specs.declared.raw.Content.{Content}
use Rattle.cell.specs.declared.raw.Content.TheVariants.{Future, Output, Empty}
use Rattle.cell.specs.declared.report.Fault.{Fault}
use Rattle.cell.specs.declared.report.Report.{Report}
use Rattle.cell.specs.Keeps.{exists, Cell, word}
use Rattle.cell.specs.Events.{not_for_policy, waits, to_run, weight, delivers, delivered, outputs_dropped, futures_dropped, futures_lost}
use Rattle.rack.specs.Racks.{Stepped}
use Rattle.rack.specs.History.{Event, event, acted_on, names, concerns, life, runnable, handed_out, taken_back, alive, future_of, poll_word, words, awake, asked, total}

-- a bay that an event does not concern is as it was before it
abbrev pub Alone : {F O : Type 0} → Event F O → List (Option (Cell F O)) → List (Option (Cell F O)) → Type 0
Alone e bays bays' = (k : ℕ) → concerns k e ≡ false → slice_index_or bays' k None ≡ slice_index_or bays k None

-- Each call finds the bays and the policy as the call before left them, and is refused or carried out by its tests and its step.
pub data Ran {F O S : Type 0} (step : F → ℕ → Step F O) (P : Ghosts S) (bays₀ : List (Option (Cell F O))) (s₀ : S) : List (Event F O) → List (Option (Cell F O)) → S → Type 0 where
  none : Ran step P bays₀ s₀ [] bays₀ s₀
  more : {h : List (Event F O)} {bays bays' : List (Option (Cell F O))} {s s' : S} (c : Call F) (o : Result (Report O) Fault)
      → Ran step P bays₀ s₀ h bays s → Stepped step P bays s c o bays' s' → Alone (event c o) bays bays' → Ran step P bays₀ s₀ (event c o ∷ h) bays' s'

-- What a call that was carried out tells is true of the history before it.
pub record TrueOf {F O : Type 0} (step : F → ℕ → Step F O) (h : List (Event F O)) (c : Call F) (r : Report O) : Type 0 where
  -- the waiter that is told is the one of the latest poll_task that answered pending, and it was not told before
  pub told : (k w : ℕ) → acted_on c r ≡ Some k → r.woken ≡ Some w → asked (life k h) ≡ Some w
  -- the output delivered is what the future spawned gives for the words polled: all but the last gave Pending, and the last gave Ready with it
  pub delivered : (k : ℕ) (o : O) → acted_on c r ≡ Some k → delivers r.answer ≡ Some o → (f : F) × (future_of (life k h) ≡ Some f) × (through step f (words (life k h)) ≡ finished o)
  -- a future that is polled gave Pending to every poll before
  pub polled : (k w : ℕ) → acted_on c r ≡ Some k → poll_word c ≡ Some w → (f g : F) × (future_of (life k h) ≡ Some f) × (through step f (words (life k h)) ≡ standing g)
  -- a bay is cleared exactly if a Task, a Runnable or a waker was out, and with this call none is left
  pub cleared : (k : ℕ) → (names k (acted_on c r) && r.cleared) ≡ (alive (life k h) && not (alive (life k (event c (Ok r) ∷ h))))

-- a refusal is none for the policy's sake; what is reported is true
abbrev pub TrueEvent : {F O : Type 0} → (F → ℕ → Step F O) → List (Event F O) → Event F O → Type 0
TrueEvent step h (event c (Ok r)) = TrueOf step h c r
TrueEvent step h (event c (Err e)) = not_for_policy e ≡ true

abbrev pub Each : {F O : Type 0} → (List (Event F O) → Event F O → Type 0) → List (Event F O) → Type 0
Each P [] = Unit {0}
Each P (e ∷ h) = P h e × Each P h

-- The columns of the price list: what an event adds to each.
module _ {F O : Type 0} where
  abbrev by_report : (Report O → ℕ) → Event F O → ℕ
  by_report count (event c (Ok r)) = count r
  by_report count (event c (Err e)) = 0

  -- tapes taken in: spawns carried out
  abbrev pub taken_in : Event F O → ℕ
  taken_in (event (Spawn b f) (Ok r)) = 1
  taken_in (event (Spawn b f) (Err e)) = 0
  taken_in (event Take o) = 0
  taken_in (event (At b a) o) = 0

  -- recordings delivered, and recordings discarded
  abbrev pub deliveries : Event F O → ℕ
  deliveries e = by_report delivered e

  abbrev pub discards : Event F O → ℕ
  discards e = by_report (λ r. outputs_dropped r.fate) e

  -- jobs dropped, and jobs lost
  abbrev pub drops : Event F O → ℕ
  drops e = by_report (λ r. futures_dropped r.fate) e

  abbrev pub losses : Event F O → ℕ
  losses e = by_report (λ r. futures_lost r.fate) e

  -- futures and outputs that stand in the bays
  abbrev pub in_bay : Option (Cell F O) → ℕ
  in_bay None = 0
  in_bay (Some c) = weight c.task.content

  abbrev pub standing_in : List (Option (Cell F O)) → ℕ
  standing_in [] = 0
  standing_in (b ∷ bays) = in_bay b + standing_in bays

-- a content is what the future spawned is after the words polled
abbrev pub CameOf : {F O : Type 0} → (F → ℕ → Step F O) → F → List ℕ → Content F O → Type 0
CameOf step f ws (Future g) = through step f ws ≡ standing g
CameOf step f ws (Output o) = through step f ws ≡ finished o
CameOf step f ws Empty = Unit {0}

-- The law, after a history h that left these bays and the policy s. Here l is short for the life of bay k.
pub record Law {F O S : Type 0} (step : F → ℕ → Step F O) (P : Ghosts S) (h : List (Event F O)) (bays : List (Option (Cell F O))) (s : S) : Type 0 where
  -- In every occupied bay: the count of the word is wakers handed out, less those taken back, and 1 if SCHEDULED or RUNNING is set.
  pub counts : (k : ℕ) (c : Cell F O) → slice_index_or bays k None ≡ Some c → (word c).count + taken_back (life k h) ≡ handed_out (life k h) + cond ((word c).scheduled || (word c).running) 1 0
  -- One of them is set exactly if a Runnable exists.
  pub runs : (k : ℕ) (c : Cell F O) → slice_index_or bays k None ≡ Some c → ((word c).scheduled || (word c).running) ≡ exists (runnable (life k h))
  -- The policy holds exactly the bays whose Runnable waits, each once.
  pub waiting : (k : ℕ) → is_in k (P.entries s) ≡ waits (runnable (life k h))
  pub once : distinct (P.entries s) ≡ true
  -- No wake is forgotten: an open bay that was woken, and not polled since, is to run.
  pub woken : (k : ℕ) (c : Cell F O) → slice_index_or bays k None ≡ Some c → still_open (word c) ≡ true → awake (life k h) ≡ true → to_run (runnable (life k h)) (word c).scheduled ≡ true
  -- The price list: taken in = delivered + discarded + dropped + lost + standing.
  pub price : total taken_in h ≡ total deliveries h + total discards h + total drops h + total losses h + standing_in bays
  -- What stands in a bay is what the words polled have made of the future spawned.
  pub contents : (k : ℕ) (c : Cell F O) → slice_index_or bays k None ≡ Some c → (f : F) × (future_of (life k h) ≡ Some f) × CameOf step f (words (life k h)) c.task.content
  -- A bay is occupied exactly if a Task, a Runnable or a waker of it is out.
  pub occupied : (k : ℕ) → is_some (slice_index_or bays k None) ≡ alive (life k h)
  -- No refusal came for the policy's sake, and every report was true when it was made.
  pub reports : Each (TrueEvent step) h
