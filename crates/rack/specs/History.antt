-- What happened on a rack: the calls, each with what was said of it, the newest first; and what that tells of a bay.
use Rattle.std.specs.Prelude.{ℕ, ◌+◌, Bool, true, false, cond, ◌||◌, List, [], ◌∷◌, ◌++◌, reverse, Some, None, Ok, Err, Option, Result, ◌==◌, nat_lt}
use Rattle.cell.specs.declared.call.Call.{Call}
use Rattle.cell.specs.declared.call.Call.TheVariants.{Spawn, Take, At}
use Rattle.cell.specs.declared.register.Stage.{Stage}
use Rattle.cell.specs.declared.register.Stage.TheVariants.{Gone, InHand}
use Rattle.cell.specs.declared.report.Fault.{Fault}
use Rattle.cell.specs.declared.report.Report.{Report}
use Rattle.cell.specs.Keeps.{exists}
use Rattle.cell.specs.Events.{finds, whereabouts, hands_out, takes_back, task_after, polled_with, awake_after, asked_after}

-- a call and what was said of it
pub data Event (F O : Type 0) : Type 0 where
  event : Call F → Result (Report O) Fault → Event F O

module _ {F O : Type 0} where
  -- each call beside what was said of it
  abbrev pub beside : List (Call F) → List (Result (Report O) Fault) → List (Event F O)
  beside [] said = []
  beside (c ∷ calls) [] = []
  beside (c ∷ calls) (o ∷ said) = event c o ∷ beside calls said

  -- the history of a list of calls
  abbrev pub history : List (Call F) → List (Result (Report O) Fault) → List (Event F O)
  history calls said = reverse (beside calls said)

  -- the bay that a call acted on: the one it names, or the one that a take found
  abbrev pub acted_on : Call F → Report O → Option ℕ
  acted_on (Spawn b f) r = Some b
  acted_on Take r = finds r.answer
  acted_on (At b a) r = Some b

-- the number is this one
abbrev pub names : ℕ → Option ℕ → Bool
names k None = false
names k (Some b) = b == k

module _ {F O : Type 0} where
  -- an event concerns a bay if its call was carried out and acted on it
  abbrev pub concerns : ℕ → Event F O → Bool
  concerns k (event c (Ok r)) = names k (acted_on c r)
  concerns k (event c (Err e)) = false

  abbrev pub is_spawn : Event F O → Bool
  is_spawn (event (Spawn b f) o) = true
  is_spawn (event Take o) = false
  is_spawn (event (At b a) o) = false

  -- The life of a bay: the events that concern it since its last spawn, that spawn included.
  abbrev pub life : ℕ → List (Event F O) → List (Event F O)
  life k [] = []
  life k (e ∷ h) = cond (concerns k e) (e ∷ cond (is_spawn e) [] (life k h)) (life k h)

  -- Where the Runnable is by a life: in hand after the spawn and after a take that found the bay, and then as the calls and their reports tell.
  abbrev moved_by : Event F O → Stage → Stage
  moved_by (event (Spawn b f) o) s = InHand
  moved_by (event Take o) s = InHand
  moved_by (event (At b a) (Ok r)) s = whereabouts a r s
  moved_by (event (At b a) (Err e)) s = s

  abbrev pub runnable : List (Event F O) → Stage
  runnable [] = Gone
  runnable (e ∷ l) = moved_by e (runnable l)

  -- wakers handed out: the clones
  abbrev out_by : Event F O → ℕ
  out_by (event (Spawn b f) o) = 0
  out_by (event Take o) = 0
  out_by (event (At b a) o) = hands_out a

  abbrev pub handed_out : List (Event F O) → ℕ
  handed_out [] = 0
  handed_out (e ∷ l) = out_by e + handed_out l

  -- wakers taken back: the wakes and the drop_wakers
  abbrev back_by : Event F O → ℕ
  back_by (event (Spawn b f) o) = 0
  back_by (event Take o) = 0
  back_by (event (At b a) o) = takes_back a

  abbrev pub taken_back : List (Event F O) → ℕ
  taken_back [] = 0
  taken_back (e ∷ l) = back_by e + taken_back l

  -- the Task is out from the spawn to a detach or drop_task
  abbrev task_by : Event F O → Bool → Bool
  task_by (event (Spawn b f) o) t = true
  task_by (event Take o) t = t
  task_by (event (At b a) o) t = task_after a t

  abbrev pub task_out : List (Event F O) → Bool
  task_out [] = false
  task_out (e ∷ l) = task_by e (task_out l)

  -- a Task, a Runnable or a waker is out
  abbrev pub alive : List (Event F O) → Bool
  alive l = task_out l || (exists (runnable l) || nat_lt (taken_back l) (handed_out l))

  -- the future that was spawned
  abbrev future_by : Event F O → Option F → Option F
  future_by (event (Spawn b f) o) x = Some f
  future_by (event Take o) x = x
  future_by (event (At b a) o) x = x

  abbrev pub future_of : List (Event F O) → Option F
  future_of [] = None
  future_of (e ∷ l) = future_by e (future_of l)

-- one word more
abbrev pub and_word : Option ℕ → List ℕ → List ℕ
and_word None ws = ws
and_word (Some w) ws = ws ++ w ∷ []

-- the word that a call polls with
abbrev pub poll_word : {F : Type 0} → Call F → Option ℕ
poll_word (Spawn b f) = None
poll_word Take = None
poll_word (At b a) = polled_with a

module _ {F O : Type 0} where
  -- the words polled since the spawn, one after another
  abbrev words_by : Event F O → List ℕ → List ℕ
  words_by (event (Spawn b f) o) ws = []
  words_by (event Take o) ws = ws
  words_by (event (At b a) o) ws = and_word (polled_with a) ws

  abbrev pub words : List (Event F O) → List ℕ
  words [] = []
  words (e ∷ l) = words_by e (words l)

  -- a wake or wake_by_ref, and no poll since
  abbrev awake_by : Event F O → Bool → Bool
  awake_by (event (Spawn b f) o) w = false
  awake_by (event Take o) w = w
  awake_by (event (At b a) o) w = awake_after a w

  abbrev pub awake : List (Event F O) → Bool
  awake [] = false
  awake (e ∷ l) = awake_by e (awake l)

  -- the waiter of the latest poll_task that answered pending, if none was told since
  abbrev asked_by : Event F O → Option ℕ → Option ℕ
  asked_by (event (Spawn b f) o) w = None
  asked_by (event Take o) w = w
  asked_by (event (At b a) (Ok r)) w = asked_after a r w
  asked_by (event (At b a) (Err e)) w = w

  abbrev pub asked : List (Event F O) → Option ℕ
  asked [] = None
  asked (e ∷ l) = asked_by e (asked l)

  -- how many of something there were, over a whole history
  abbrev pub total : (Event F O → ℕ) → List (Event F O) → ℕ
  total count [] = 0
  total count (e ∷ h) = count e + total count h
