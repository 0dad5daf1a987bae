-- How often a number stands in a list.
use Rattle.std.proofs.Common.{◌≡◌, ℕ, ◌+◌, ◌≤◌, true, cond, eqb, ltb, List, [], ◌∷◌, ◌++◌, sym, refl, ap, ◌∙◌, zero-add, arith}
use Rattle.std.proofs.lemmas.Bool.{eq-eqb, ne_eqb}
use Rattle.std.proofs.lemmas.Bool.Decides.{nat_tests}
use Rattle.std.proofs.lemmas.List.Sums.{sum_by-cons, sum_by-append}
use Rattle.std.proofs.lemmas.List.Sorted.{sum_by-IsPermutation, IsPermutation-swap}
use Rattle.std.specs.List.Sorted.{IsPermutation}
use Rattle.schedule.specs.Entries.{is_in, distinct}
use Rattle.schedule.specs.History.{times}

pub times_cons : (b x : ℕ) (xs : List ℕ) → times b (x ∷ xs) ≡ cond (eqb x b) 1 0 + times b xs
times_cons b x xs = sum_by-cons (λ y. cond (eqb y b) 1 0) x xs

-- a number at the front counts for itself, and for no other
pub times_own : (b : ℕ) (xs : List ℕ) → times b (b ∷ xs) ≡ 1 + times b xs
times_own b xs = times_cons b b xs ∙ ap (λ t. cond t 1 0 + times b xs) (eq-eqb b b refl)

pub times_other : (k b : ℕ) (xs : List ℕ) → (k ≡ b → ⊥) → times k (b ∷ xs) ≡ times k xs
times_other k b xs d = times_cons k b xs ∙ ap (λ t. cond t 1 0 + times k xs) (ne_eqb b k (λ e. d (sym e))) ∙ zero-add (times k xs)

pub times_append : (b : ℕ) (xs ys : List ℕ) → times b (xs ++ ys) ≡ times b xs + times b ys
times_append b xs ys = sum_by-append (λ y. cond (eqb y b) 1 0) xs ys

pub times_shuffled : (b : ℕ) (xs ys : List ℕ) → IsPermutation xs ys → times b ys ≡ times b xs
times_shuffled b xs ys h = sum_by-IsPermutation (λ y. cond (eqb y b) 1 0) xs ys h

pub is_in_times : (b : ℕ) (xs : List ℕ) → is_in b xs ≡ ltb 0 (times b xs)
is_in_times b [] = refl
is_in_times b (x ∷ xs) = let e = times_cons b x xs in let i = is_in_times b xs in grind (arith, nat_tests)

pub distinct_times : (b : ℕ) (xs : List ℕ) → distinct xs ≡ true → times b xs ≤ 1
distinct_times b [] h = omega arith
distinct_times b (x ∷ xs) h =
    let e = times_cons b x xs in
    let i : distinct xs ≡ true → times b xs ≤ 1 = distinct_times b xs in
    let j = is_in_times x xs in
    let u : x ≡ b → times x xs ≡ times b xs = λ s. ap (λ k. times k xs) s in
    grind (arith, nat_tests)

-- two at the front change places
pub swapped : (b f : ℕ) (es : List ℕ) → IsPermutation (b ∷ f ∷ es) (f ∷ b ∷ es)
swapped b f es = IsPermutation-swap (b ∷ f ∷ es) (f ∷ b ∷ es) 0 1 (omega arith) (omega arith) refl
