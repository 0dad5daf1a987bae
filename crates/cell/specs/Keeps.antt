-- What every task cell keeps.
use Rattle.std.specs.Prelude.{◌≡◌, ℕ, ◌+◌, ◌≤◌, Bool, true, false, cond, not, ◌&&◌, ◌||◌, is_some, Option}
use Rattle.bits.specs.Words.{Word}
use Rattle.cell.specs.declared.register.Stage.{Stage}
use Rattle.cell.specs.declared.register.Stage.TheVariants.{Gone, InHand, Waiting, Begun, Polled}
use Rattle.cell.specs.declared.register.Register.{Register}
use Rattle.cell.specs.declared.raw.Content.{Content}
use Rattle.cell.specs.declared.raw.Content.TheVariants.{Future, Output, Empty}
use Rattle.cell.specs.declared.raw.RawTask.{RawTask}

-- a Runnable exists
abbrev pub exists : Stage → Bool
exists Gone = false
exists InHand = true
exists Waiting = true
exists Begun = true
exists Polled = true

-- how many references the Runnable has
abbrev pub held : Stage → ℕ
held s = cond (exists s) 1 0

-- the Runnable is begun or polled
abbrev pub runs : Stage → Bool
runs Gone = false
runs InHand = false
runs Waiting = false
runs Begun = true
runs Polled = true

abbrev pub is_polled : Stage → Bool
is_polled Gone = false
is_polled InHand = false
is_polled Waiting = false
is_polled Begun = false
is_polled Polled = true

abbrev pub is_future : {F O : Type 0} → Content F O → Bool
is_future (Future f) = true
is_future (Output o) = false
is_future Empty = false

abbrev pub is_output : {F O : Type 0} → Content F O → Bool
is_output (Future f) = false
is_output (Output o) = true
is_output Empty = false

abbrev pub is_empty : {F O : Type 0} → Content F O → Bool
is_empty (Future f) = false
is_empty (Output o) = false
is_empty Empty = true

abbrev pub same : Bool → Bool → Bool
same true b = b
same false b = not b

-- TASK and AWAITER say whether the Task is out and a waiter is there; RUNNING stands at begun and polled alone;
-- RUNNING or SCHEDULED stands exactly where a Runnable exists; COMPLETED only where none does;
-- REGISTERING and NOTIFYING never.
abbrev pub flags_agree : Word → Option ℕ → Register → Bool
flags_agree w waiter r =
    same w.task r.task
    && (same w.awaiter (is_some waiter)
    && (same w.running (runs r.stage)
    && (same (w.running || w.scheduled) (exists r.stage)
    && (not (exists r.stage && w.completed)
    && (not w.registering && not w.notifying)))))

-- A completed task that is not closed has its Task; a task that is completed, or closed without a Runnable, has no waiter.
abbrev pub ends_agree : Word → Register → Bool
ends_agree w r =
    (not (w.completed && not w.closed) || w.task)
    && not ((w.completed || (not (exists r.stage) && w.closed)) && w.awaiter)

-- The content is an output if the task is completed and not closed, nothing if it is closed without a Runnable,
-- else a future, or at polled also an output.
abbrev pub content_agrees : {F O : Type 0} → Word → Stage → Content F O → Bool
content_agrees w s x =
    cond (w.completed && not w.closed) (is_output x)
    (cond (not (exists s) && w.closed) (is_empty x)
    (is_future x || (is_output x && is_polled s)))

abbrev pub agrees : {F O : Type 0} → RawTask F O → Register → Bool
agrees t r =
    flags_agree t.header.state t.header.awaiter r
    && (ends_agree t.header.state r && content_agrees t.header.state r.stage t.content)

-- a task and the register of its handles
pub record Cell (F O : Type 0) : Type 0 where
  pub task : RawTask F O
  pub register : Register

-- the cell's state word
abbrev pub word : {F O : Type 0} → Cell F O → Word
word c = c.task.header.state

-- What every cell keeps: at most 65535 wakers are out, the count is the wakers and the Runnable, and flags, waiter, content
-- and register agree.
abbrev pub Keeps : {F O : Type 0} → Cell F O → Type 0
Keeps c =
    (c.register.wakers ≤ 65535)
    × ((word c).count ≡ c.register.wakers + held c.register.stage)
    × (agrees c.task c.register ≡ true)
