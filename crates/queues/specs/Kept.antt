-- A line keeps its bays: what an accepted put leaves is those that were there, in some order, and the new one.
use Rattle.std.specs.Prelude.{ℕ, Bool, true, false, List, ◌∷◌}
use Rattle.std.specs.List.Sorted.{IsPermutation}
use Rattle.std.proofs.lemmas.List.Sorted.{IsPermutation-to_front, IsPermutation-sym, IsPermutation-refl}
use Rattle.queues.specs.Ends.{joined}

pub joined_keeps : (back : Bool) (es : List ℕ) (b : ℕ) → IsPermutation (b ∷ es) (joined back es b)
joined_keeps true es b = IsPermutation-sym _ _ (IsPermutation-to_front es b)
joined_keeps false es b = IsPermutation-refl (b ∷ es)
