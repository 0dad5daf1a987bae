-- How the register moves, by its stage and the call together.
use Rattle.std.specs.Prelude.{ℕ, ◌+◌, ◌-◌, min, Bool, true, false, cond, ◌==◌}
use Rattle.cell.specs.declared.call.Kind.{Kind}
use Rattle.cell.specs.declared.call.Kind.TheVariants as kind
use Rattle.cell.specs.declared.register.Stage.{Stage}
use Rattle.cell.specs.declared.register.Stage.TheVariants.{Gone, InHand, Waiting, Begun, Polled}
use Rattle.cell.specs.declared.register.Register.{Register}
use Rattle.cell.specs.Numbers.{stage_number}

-- from one stage to another; a Runnable at any other stage stays there
abbrev pub from : Stage → Stage → Stage → Stage
from old new s = cond (stage_number s == stage_number old) new s

-- The stage after a call. `put`: the call put the Runnable; `ended`: its begin came to an end.
abbrev pub next_stage : Stage → Kind → Bool → Bool → Stage
next_stage s kind.Spawn put ended = from Gone InHand s
next_stage s kind.Schedule put ended = from InHand Waiting s
next_stage s kind.Take put ended = from Waiting InHand s
next_stage s kind.Begin put ended = from InHand (cond ended Gone Begun) s
next_stage s kind.Poll put ended = from Begun Polled s
next_stage s kind.Finish put ended = from Polled (cond put Waiting Gone) s
next_stage s kind.DropRunnable put ended = from InHand Gone s
next_stage s kind.Clone put ended = s
next_stage s kind.WakeByRef put ended = from Gone (cond put Waiting Gone) s
next_stage s kind.Wake put ended = from Gone (cond put Waiting Gone) s
next_stage s kind.DropWaker put ended = from Gone (cond put Waiting Gone) s
next_stage s kind.PollTask put ended = s
next_stage s kind.Cancel put ended = from Gone (cond put Waiting Gone) s
next_stage s kind.Detach put ended = from Gone (cond put Waiting Gone) s
next_stage s kind.DropTask put ended = from Gone (cond put Waiting Gone) s

-- whether the Task is out: from a spawn to detach or drop_task
abbrev pub next_task : Stage → Bool → Kind → Bool
next_task s t kind.Spawn = cond (stage_number s == 0) true t
next_task s t kind.Schedule = t
next_task s t kind.Take = t
next_task s t kind.Begin = t
next_task s t kind.Poll = t
next_task s t kind.Finish = t
next_task s t kind.DropRunnable = t
next_task s t kind.Clone = t
next_task s t kind.WakeByRef = t
next_task s t kind.Wake = t
next_task s t kind.DropWaker = t
next_task s t kind.PollTask = t
next_task s t kind.Cancel = t
next_task s t kind.Detach = false
next_task s t kind.DropTask = false

-- the wakers that are out, as far as 32 bits can tell: clone hands one out, wake and drop_waker take one back
abbrev pub next_wakers : Stage → ℕ → Kind → ℕ
next_wakers s n kind.Spawn = cond (stage_number s == 0) 0 n
next_wakers s n kind.Schedule = n
next_wakers s n kind.Take = n
next_wakers s n kind.Begin = n
next_wakers s n kind.Poll = n
next_wakers s n kind.Finish = n
next_wakers s n kind.DropRunnable = n
next_wakers s n kind.Clone = min (n + 1) 4294967295
next_wakers s n kind.WakeByRef = n
next_wakers s n kind.Wake = n - 1
next_wakers s n kind.DropWaker = n - 1
next_wakers s n kind.PollTask = n
next_wakers s n kind.Cancel = n
next_wakers s n kind.Detach = n
next_wakers s n kind.DropTask = n

abbrev pub advanced : Register → Kind → Bool → Bool → Register
advanced r k put ended = record {
  stage = next_stage r.stage k put ended;
  task = next_task r.stage r.task k;
  wakers = next_wakers r.stage r.wakers k;
}
