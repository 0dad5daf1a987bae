-- A call on the cell of a bay: its tests, its step, and the move of the register.
use Rattle.std.specs.Prelude.{ℕ, Bool, true, false, cond, is_some, Some, None, Ok, Err, Option, Result, ◌==◌}
use Rattle.bits.specs.Words.{read}
use Rattle.polls.specs.Step.{Step}
use Rattle.cell.specs.declared.call.Act.{Act}
use Rattle.cell.specs.declared.call.Act.TheVariants as act
use Rattle.cell.specs.declared.register.Register.{Register}
use Rattle.cell.specs.declared.call.Kind.TheVariants as kind
use Rattle.cell.specs.declared.register.Stage.{Stage}
use Rattle.cell.specs.declared.register.Stage.TheVariants.{InHand, Waiting}
use Rattle.cell.specs.declared.report.Fault.{Fault}
use Rattle.cell.specs.declared.report.Answer.{Answer}
use Rattle.cell.specs.declared.raw.Content.TheVariants.{Future}
use Rattle.cell.specs.declared.table.Row.{Row}
use Rattle.cell.specs.declared.raw.RawTask.{RawTask}
use Rattle.cell.specs.declared.raw.Outcome.{Outcome}
use Rattle.cell.specs.declared.act.Move.{Move}
use Rattle.cell.specs.Numbers.{answer_number, stage_number}
use Rattle.cell.specs.Table.{kind_code, act_kind, row_of, refused}
use Rattle.cell.specs.Registers.{advanced}
use Rattle.cell.specs.Keeps.{Cell, word}
use Rattle.cell.specs.Steps.{schedule_step, begin_step, poll_step, finish_step, drop_runnable_step, clone_step, wake_by_ref_step, wake_step, drop_waker_step, poll_task_step, cancel_step, detach_step, drop_task_step}

-- the step of each call
abbrev pub turned : {F O : Type 0} → (F → ℕ → Step F O) → Act → RawTask F O → Outcome F O
turned step act.Schedule t = schedule_step t
turned step act.Begin t = begin_step t
turned step (act.Poll w) t = poll_step step w t
turned step act.Finish t = finish_step t
turned step act.DropRunnable t = drop_runnable_step t
turned step act.Clone t = clone_step t
turned step act.WakeByRef t = wake_by_ref_step t
turned step act.Wake t = wake_step t
turned step act.DropWaker t = drop_waker_step t
turned step (act.PollTask w) t = poll_task_step w t
turned step act.Cancel t = cancel_step t
turned step act.Detach t = detach_step t
turned step act.DropTask t = drop_task_step t

-- why the call is refused by its row of the table, if it is
abbrev by_row : Option Row → Register → ℕ → Option Fault
by_row None register n = None
by_row (Some row) register n = refused row register n

abbrev pub barred : Act → Register → ℕ → Option Fault
barred a register n = by_row (row_of (kind_code (act_kind a))) register n

-- the answer is ended
abbrev pub has_ended : {O : Type 0} → Answer O → Bool
has_ended x = answer_number x == 4

-- the register moves by the call, by whether a put was made, and by whether the Runnable came to its end
abbrev pub moved : {F O : Type 0} → Register → Act → Outcome F O → Move F O
moved register a x = record {
  bay = cond x.report.cleared None
      (Some (record { task = x.task; register = advanced register (act_kind a) (is_some x.report.put) (has_ended x.report.answer) }));
  report = x.report;
}

abbrev pub carried : {F O : Type 0} → Option Fault → Move F O → Result (Move F O) Fault
carried None m = Ok m
carried (Some e) m = Err e

-- A call on a cell is refused by its row of the table, or else carried out.
abbrev pub acted : {F O : Type 0} → (F → ℕ → Step F O) → Cell F O → Act → Result (Move F O) Fault
acted step c a = carried (barred a c.register (word c).count) (moved c.register a (turned step a c.task))

-- A cell after its spawn: word 0x111, in hand, the Task out, no wakers.
abbrev pub spawned : {F O : Type 0} → F → Cell F O
spawned f = record {
  task = record { header = record { state = read 0x111; awaiter = None }; content = Future f };
  register = record { stage = InHand; task = true; wakers = 0 };
}

abbrev pub is_waiting : Stage → Bool
is_waiting s = stage_number s == stage_number Waiting

-- take: a cell whose Runnable waits, with its Runnable in hand
abbrev pub taken : {F O : Type 0} → Cell F O → Option (Cell F O)
taken c = cond (is_waiting c.register.stage) (Some (record { task = c.task; register = advanced c.register kind.Take false false })) None
