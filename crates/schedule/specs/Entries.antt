-- The entries of a policy: a list of bay numbers, the next to be taken first.
use Rattle.std.specs.Prelude.{ℕ, min, Bool, true, not, ◌&&◌, List, [], ◌∷◌, length, Some, None, Option, ◌==◌, nat_lt}
use Rattle.std.specs.List.{list_any}

-- the number is an entry
abbrev pub is_in : ℕ → List ℕ → Bool
is_in b xs = list_any (λ x. x == b) xs

-- no number stands twice
abbrev pub distinct : List ℕ → Bool
distinct [] = true
distinct (x ∷ xs) = not (is_in x xs) && distinct xs

-- each number is below 64
abbrev pub below_64 : List ℕ → Bool
below_64 [] = true
below_64 (x ∷ xs) = nat_lt x 64 && below_64 xs

-- the entry that is next
abbrev pub first : List ℕ → Option ℕ
first [] = None
first (x ∷ xs) = Some x

-- a put is accepted: the number is below 64 and no entry yet, and a place is free
abbrev pub accepts : ℕ → List ℕ → ℕ → Bool
accepts b es places = nat_lt b 64 && (not (is_in b es) && nat_lt (length es) places)

-- a number as 64 bits can tell it
abbrev pub told : ℕ → ℕ
told n = min n 18446744073709551615
