-- What a call does to a cell, in terms of the call and its report.
use Rattle.std.proofs.Common.{◌≡◌, ℕ, ◌+◌, Bool, true, false, not, ◌&&◌, ◌||◌, ◌⊎◌, is_some, Some, None, Ok, Err, Option, Result}
use Rattle.std.proofs.lemmas.Bool.{cond_both}
use Rattle.polls.specs.Step.{Step, pends, gives}
use Rattle.bits.specs.Words.{still_open}
use Rattle.cell.specs.declared.call.Act.{Act}
use Rattle.cell.specs.declared.register.Stage.TheVariants.{Gone}
use Rattle.cell.specs.declared.report.Fault.{Fault}
use Rattle.cell.specs.declared.report.Report.{Report}
use Rattle.cell.specs.declared.raw.Content.{Content}
use Rattle.cell.specs.declared.raw.Content.TheVariants.{Future, Output, Empty}
use Rattle.cell.specs.Table.{act_kind}
use Rattle.cell.specs.Registers.{advanced}
use Rattle.cell.specs.Cells.{unheld}
use Rattle.cell.specs.declared.raw.Outcome.{Outcome}
use Rattle.cell.specs.Acts.{moved, has_ended}
use Rattle.cell.specs.Keeps.{Cell, word}
use Rattle.cell.specs.declared.act.Move.{Move}
use Rattle.cell.specs.Events.{not_for_policy, waits, to_run, weight, whereabouts, delivers, delivered, outputs_dropped, futures_dropped, futures_lost, hands_out, takes_back, task_after, polled_with, awake_after, asked_after}
use Rattle.cell.proofs.Phases.{Is}

-- what a report takes from the contents
abbrev pub spent : {O : Type 0} → Report O → ℕ
spent r = delivered r + outputs_dropped r.fate + futures_dropped r.fate + futures_lost r.fate

module _ {F O : Type 0} where
  -- a bay that was woken while it is open is to run
  abbrev pub alert : Bool → Cell F O → Bool
  alert b c = to_run c.register.stage (word c).scheduled || not (still_open (word c) && b)

  abbrev pub after_step : Step F O → Content F O
  after_step (pends f) = Future f
  after_step (gives o) = Output o

  -- a poll takes the future a step on; any other call leaves the content or drops it
  abbrev pub Follows : (F → ℕ → Step F O) → Option ℕ → Content F O → Content F O → Type 0
  Follows step None x x' = (x' ≡ x) ⊎ (x' ≡ Empty)
  Follows step (Some w) x x' = (f : F) × (x ≡ Future f) × (x' ≡ after_step (step f w))

  -- what is delivered was there
  abbrev pub HandsOver : Option O → Content F O → Type 0
  HandsOver None x = Unit {0}
  HandsOver (Some o) x = x ≡ Output o

  -- the bay stays occupied
  pub record Goes (step : F → ℕ → Step F O) (a : Act) (c c' : Cell F O) (r : Report O) : Type 0 where
    pub is : Is c'
    pub stays : r.cleared ≡ false
    pub stage : c'.register.stage ≡ whereabouts a r c.register.stage
    pub task : c'.register.task ≡ task_after a c.register.task
    pub wakers : c'.register.wakers + takes_back a ≡ c.register.wakers + hands_out a
    pub live : unheld (word c) ≡ false → unheld (word c') ≡ false
    pub content : Follows step (polled_with a) c.task.content c'.task.content
    pub waiter : (c'.task.header.awaiter ≡ None) ⊎ (c'.task.header.awaiter ≡ asked_after a r c.task.header.awaiter)
    pub told : (r.woken ≡ None) ⊎ (r.woken ≡ c.task.header.awaiter)
    pub woken : (b : Bool) → alert b c ≡ true → alert (awake_after a b) c' ≡ true
    pub balance : weight c.task.content ≡ weight c'.task.content + spent r
    pub hands : HandsOver (delivers r.answer) c.task.content
    pub waiting : waits c'.register.stage ≡ (is_some r.put || waits c.register.stage)
    pub put_once : (is_some r.put && waits c.register.stage) ≡ false

  -- the bay is cleared
  pub record Ends (a : Act) (c : Cell F O) (r : Report O) : Type 0 where
    pub clears : r.cleared ≡ true
    pub unput : is_some r.put ≡ false
    pub unpolled : polled_with a ≡ None
    pub stage : whereabouts a r c.register.stage ≡ Gone
    pub task : task_after a c.register.task ≡ false
    pub wakers : takes_back a ≡ c.register.wakers + hands_out a
    pub told : (r.woken ≡ None) ⊎ (r.woken ≡ c.task.header.awaiter)
    pub balance : weight c.task.content ≡ spent r
    pub hands : HandsOver (delivers r.answer) c.task.content
    pub waited : waits c.register.stage ≡ false

  -- what comes of a call on a cell
  pub data Does (step : F → ℕ → Step F O) (a : Act) (c : Cell F O) : Result (Move F O) Fault → Type 0 where
    denied : (e : Fault) → not_for_policy e ≡ true → Does step a c (Err e)
    goes : (c' : Cell F O) (r : Report O) → Goes step a c c' r → Does step a c (Ok (record { bay = Some c'; report = r }))
    ends : (r : Report O) → Ends a c r → Does step a c (Ok (record { bay = None; report = r }))

  pub settle : (step : F → ℕ → Step F O) (a : Act) (c : Cell F O) (x : Outcome F O)
      → (x.report.cleared ≡ false → Goes step a c (record { task = x.task; register = advanced c.register (act_kind a) (is_some x.report.put) (has_ended x.report.answer) }) x.report)
      → (x.report.cleared ≡ true → Ends a c x.report)
      → Does step a c (Ok (moved c.register a x))
  settle step a c x g e =
      cond_both x.report.cleared None (Some (record { task = x.task; register = advanced c.register (act_kind a) (is_some x.report.put) (has_ended x.report.answer) }))
      (λ (b : Option (Cell F O)). Does step a c (Ok (record { bay = b; report = x.report })))
      (λ h. ends x.report (e h)) (λ h. goes _ x.report (g h))
