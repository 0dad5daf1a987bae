-- What a list of requests does, for every policy. P gives a policy's meaning: its entries, places, what a put leaves, and agreement.
use Rattle.std.specs.Prelude.{◌≡◌, ℕ, ◌+◌, ◌<◌, ◌≤◌, true, false, cond, not, ◌&&◌, List, [], ◌∷◌, length, drop, is_some, Some, None, Ok, Err, Option, Result, nat_lt}
use Rattle.schedule.specs.declared.Schedule.{Ghosts}
use Rattle.schedule.specs.declared.requests.Request.{Request}
use Rattle.schedule.specs.declared.requests.Request.TheVariants.{Put, Take}
use Rattle.schedule.specs.declared.requests.Answer.{Answer}
use Rattle.schedule.specs.declared.requests.Answer.TheVariants.{Accepted, Gave, Empty}
use Rattle.schedule.specs.declared.requests.Unserved.{Unserved}
use Rattle.schedule.specs.declared.requests.Unserved.TheVariants.{NotEmpty, NoRoom}
use Rattle.schedule.specs.Entries.{first, accepts}
use Rattle.schedule.specs.History.{Event, event, history, ins, outs, times, inside, held, Each}

-- the answer of a take
abbrev pub given : Option ℕ → Answer
given None = Empty
given (Some b) = Gave b

-- One request: the policy was s, gave the answer, and is s'.
abbrev pub Obeys : {S : Type 0} → Ghosts S → S → Request → Answer → S → Type 0
Obeys P s (Put b m) a s' =
    (a ≡ Accepted (accepts b (P.entries s) (P.places s)))
    × (P.entries s' ≡ cond (accepts b (P.entries s) (P.places s)) (P.after s b m) (P.entries s))
    × (P.places s' ≡ P.places s)
    × (P.agrees s → P.agrees s')
    × (accepts b (P.entries s) (P.places s) ≡ false → s' ≡ s)
Obeys P s Take a s' =
    (a ≡ given (first (P.entries s)))
    × (P.entries s' ≡ drop 1 (P.entries s))
    × (P.places s' ≡ P.places s)
    × (P.agrees s → P.agrees s')

-- A list of requests: each finds the policy as the one before left it.
pub data Ran {S : Type 0} (P : Ghosts S) (start : S) : List Event → S → Type 0 where
  none : Ran P start [] start
  more : {h : List Event} {s s' : S} (r : Request) (a : Answer) → Ran P start h s → Obeys P s r a s' → Ran P start (event r a ∷ h) s'

-- Each answer follows from the history before it: a put is accepted exactly if the number is below 64 and not inside,
-- and fewer numbers are held than there are places; a take gives a number that is inside, and is Empty exactly if none is held.
abbrev pub Ruled : ℕ → List Event → Event → Type 0
Ruled places before (event (Put b m) a) =
    a ≡ Accepted (nat_lt b 64 && (not (inside b before) && nat_lt (held before) places))
Ruled places before (event Take (Accepted t)) = ⊥
Ruled places before (event Take (Gave b)) = (inside b before ≡ true) × (0 < held before)
Ruled places before (event Take Empty) = held before ≡ 0

-- What goes in comes out once.
pub record Once (places : ℕ) (h : List Event) (left : List ℕ) : Type 0 where
  pub answers : Each (Ruled places) h
  -- a number that was put in came out, or is left
  pub balance : (b : ℕ) → times b (ins h) ≡ times b (outs h) + times b left
  -- and what is left is left once
  pub single : (b : ℕ) → times b left ≤ 1

-- The requests were carried out on the policy s, which had no entry, and left s'.
pub record Serves {S : Type 0} (P : Ghosts S) (s : S) (requests : List Request) (answers : List Answer) (s' : S) : Type 0 where
  pub from_empty : P.entries s ≡ []
  pub each_answered : length answers ≡ length requests
  pub in_turn : Ran P s (history requests answers) s'
  pub once : Once (P.places s) (history requests answers) (P.entries s')

-- Why a list of n requests is not carried out, if it is not: the policy has an entry, or else there is no room for the answers.
abbrev pub refusal : List ℕ → ℕ → ℕ → Option Unserved
refusal entries n room = cond (is_some (first entries)) (Some NotEmpty) (cond (nat_lt room n) (Some NoRoom) None)

-- It is refused for this reason and for no other, and then the policy s and the place v for the answers stay as they were.
abbrev pub Refuses : {S V T : Type 0} → Ghosts S → List Request → ℕ → S → V → Result T Unserved → S → V → Type 0
Refuses P requests room s v (Ok x) s' v' = refusal (P.entries s) (length requests) room ≡ None
Refuses P requests room s v (Err why) s' v' = (refusal (P.entries s) (length requests) room ≡ Some why) × (s' ≡ s) × (v' ≡ v)
