-- What the end at which new bays join a line makes of it.
use Rattle.std.specs.Prelude.{ℕ, Bool, true, false, List, [], ◌∷◌, ◌++◌}
use Rattle.schedule.specs.History.{Event}
use Rattle.schedule.specs.Turns.{FirstInFirstOut, LastInFirstOut}

-- a new bay joins at the back, or else at the front
abbrev pub joined : Bool → List ℕ → ℕ → List ℕ
joined true es b = es ++ b ∷ []
joined false es b = b ∷ es

-- the order of service: from the back one waits for all others, at the front one is next
abbrev pub Order : Bool → List Event → List ℕ → Type 0
Order true h left = FirstInFirstOut h left
Order false h left = LastInFirstOut h
