-- What an accepted put tells, what a list keeps when a number joins it, and what a search of a slice says.
use Rattle.std.proofs.Common.{◌≡◌, ℕ, ◌<◌, Bool, true, false, eqb, ltb, List, [], ◌∷◌, ◌++◌, length, is_some, sym, refl, ◌∙◌, arith}
use Rattle.std.proofs.lemmas.Bool.{and_from, false≢true}
use Rattle.std.proofs.lemmas.Bool.Decides.{nat_tests, same_from_decides, Decides-by_or, Decides-eqb}
use Rattle.std.proofs.lemmas.List.Elements.{contains_decides}
use Rattle.std.specs.List.{IsAnyAnswer}
use Rattle.std.proofs.lemmas.List.Recursion.{and_push}
use Rattle.std.proofs.lemmas.List.Folds.{list_any-append}
use Rattle.schedule.specs.Entries.{is_in, distinct, below_64, first, accepts}

pub distinct_push : (b : ℕ) (xs : List ℕ) → is_in b xs ≡ false → distinct xs ≡ true → distinct (xs ++ b ∷ []) ≡ true
distinct_push b [] h k = refl
distinct_push b (y ∷ ys) h k =
    let ih : is_in b ys ≡ false → distinct ys ≡ true → distinct (ys ++ b ∷ []) ≡ true = distinct_push b ys in
    let e = list_any-append (λ x. eqb x y) ys (b ∷ []) in
    grind (arith, nat_tests)

pub below_push : (b : ℕ) (xs : List ℕ) → ltb b 64 ≡ true → below_64 xs ≡ true → below_64 (xs ++ b ∷ []) ≡ true
below_push b xs h k = and_push below_64 (λ x. ltb x 64) refl (λ _ _. refl) xs b ∙ and_from _ _ k h

-- what `contains` says of a slice
pub is_in_slice : (b : ℕ) (xs : List ℕ) (r : Bool) → IsAnyAnswer (λ y t. eqb y b ≡ t) xs r → r ≡ is_in b xs
is_in_slice b xs r h =
    same_from_decides r (is_in b xs) (contains_decides eqb Decides-eqb xs b r h)
    (Decides-by_or (λ x. eqb x b) (λ x. x ≡ b) (is_in b) (λ x. Decides-eqb x b) refl (λ _ _. refl) xs)

pub accepted : (b : ℕ) (es : List ℕ) (n : ℕ) → accepts b es n ≡ true → (b < 64) × (is_in b es ≡ false) × (length es < n)
accepted b es n e = grind (arith, nat_tests)

-- where nothing is first there is no entry
pub nothing_first : (es : List ℕ) → is_some (first es) ≡ false → es ≡ []
nothing_first [] e = refl
nothing_first (x ∷ es) e = absurd (false≢true (sym e))
