-- The number of every refusal, answer, effect and stage.
use Rattle.std.specs.Prelude.{ℕ, ◌+◌, Bool, true, false, cond, Some, None, Option}
use Rattle.cell.specs.declared.report.Fault.{Fault}
use Rattle.cell.specs.declared.report.Fault.TheVariants.{BayCount, PolicyUnfit, NoSuchBay, Occupied, Vacant, NoTask, WrongStage, NoWaker, TooMany, PutRefused, StrayEntry}
use Rattle.cell.specs.declared.report.Answer.{Answer}
use Rattle.cell.specs.declared.report.Answer.TheVariants.{Done, Pending, Ready, Delivered, Found, Nothing, Ended, Begun, True, False}
use Rattle.cell.specs.declared.report.Fate.{Fate}
use Rattle.cell.specs.declared.report.Fate.TheVariants.{Kept, FutureDropped, FutureLost, OutputDropped}
use Rattle.cell.specs.declared.report.Report.{Report}
use Rattle.cell.specs.declared.register.Stage.{Stage}
use Rattle.cell.specs.declared.register.Stage.TheVariants as stage

abbrev pub fault_number : Fault → ℕ
fault_number BayCount = 1
fault_number PolicyUnfit = 2
fault_number NoSuchBay = 3
fault_number Occupied = 4
fault_number Vacant = 5
fault_number NoTask = 6
fault_number WrongStage = 7
fault_number NoWaker = 8
fault_number TooMany = 9
fault_number PutRefused = 10
fault_number StrayEntry = 11

abbrev pub answer_number : {O : Type 0} → Answer O → ℕ
answer_number Done = 0
answer_number Pending = 1
answer_number Ready = 2
answer_number (Delivered o) = 2
answer_number (Found b) = 2
answer_number Nothing = 3
answer_number Ended = 4
answer_number Begun = 5
answer_number True = 6
answer_number False = 7

-- a put by its mark
abbrev pub put_number : Option Bool → ℕ
put_number None = 0
put_number (Some false) = 1
put_number (Some true) = 2

abbrev pub fate_number : Fate → ℕ
fate_number Kept = 0
fate_number FutureDropped = 4
fate_number FutureLost = 8
fate_number OutputDropped = 16

abbrev pub woken_number : Option ℕ → ℕ
woken_number None = 0
woken_number (Some w) = 32

-- the effects of a call, added up
abbrev pub effects_number : {O : Type 0} → Report O → ℕ
effects_number r = put_number r.put + fate_number r.fate + woken_number r.woken + cond r.cleared 64 0

abbrev pub stage_number : Stage → ℕ
stage_number stage.Gone = 0
stage_number stage.InHand = 1
stage_number stage.Waiting = 2
stage_number stage.Begun = 3
stage_number stage.Polled = 4
