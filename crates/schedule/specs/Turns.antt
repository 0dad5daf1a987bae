-- Who is next, by what happened before: two orders of service.
use Rattle.std.specs.Prelude.{◌≡◌, ℕ, Bool, true, List, ◌∷◌, ◌++◌}
use Rattle.schedule.specs.declared.requests.Request.TheVariants.{Put, Take}
use Rattle.schedule.specs.declared.requests.Answer.TheVariants.{Accepted, Gave, Empty}
use Rattle.schedule.specs.History.{Event, event, ins, outs, times, Each}

-- First in, first out: the numbers put in, one after another, are those taken out and then those left.
abbrev pub FirstInFirstOut : List Event → List ℕ → Type 0
FirstInFirstOut h left = ins h ≡ outs h ++ left

-- All that was put in has been taken out.
abbrev pub Settled : List Event → Type 0
Settled h = (b : ℕ) → times b (ins h) ≡ times b (outs h)

-- The number was put in, and all that was put in since has been taken out.
pub record IsLast (b : ℕ) (h : List Event) : Type 0 where
  pub mark : Bool
  pub since : List Event
  pub older : List Event
  pub put : h ≡ since ++ event (Put b mark) (Accepted true) ∷ older
  pub settled : Settled since

-- a take gives the number that was put in last, of those that are still inside
abbrev pub GivesLast : List Event → Event → Type 0
GivesLast before (event (Put b m) a) = Unit {0}
GivesLast before (event Take (Accepted t)) = Unit {0}
GivesLast before (event Take (Gave b)) = IsLast b before
GivesLast before (event Take Empty) = Unit {0}

-- Last in, first out.
abbrev pub LastInFirstOut : List Event → Type 0
LastInFirstOut h = Each GivesLast h
