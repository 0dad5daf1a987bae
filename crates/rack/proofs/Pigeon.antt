-- A list of numbers below n, each at most once and one of them never, is shorter than n.
use Rattle.std.proofs.Common.{◌≡◌, ℕ, ◌<◌, ◌≤◌, true, false, eqb, List, [], ◌∷◌, length, sym, refl, ◌∙◌, inl, inr, arith}
use Rattle.std.proofs.lemmas.Bool.{eqb-true, cases_lt, or_cases, true≢false}
use Rattle.std.proofs.lemmas.Bool.Decides.{nat_tests}
use Rattle.std.proofs.lemmas.Map.Keys.{IsDistinct-cons}
use Rattle.std.proofs.lemmas.Map.Steps.{length-le_from_distinct_below}
use Rattle.std.specs.List.{list_any, AllByRecursion, IsDistinct}
use Rattle.schedule.specs.History.{times}
use Rattle.schedule.proofs.Times.{times_cons, times_own}

-- a number that a list never has is none of its elements
apart : (x : ℕ) (xs : List ℕ) → times x xs ≡ 0 → AllByRecursion (λ y. eqb x y ≡ false) xs × (list_any (eqb x) xs ≡ false)
apart x [] z = (tt, refl)
apart x (y ∷ ys) z =
    let e = times_cons x y ys in
    let head : eqb x y ≡ false = grind (arith, nat_tests) in
    let rest = apart x ys (omega arith) in
    ((head, rest.0), rw head rest.1)

each_once : (es : List ℕ) → ((k : ℕ) → times k es ≤ 1) → IsDistinct eqb es
unfolding IsDistinct
each_once [] once = tt
each_once (x ∷ xs) once =
    let here = once x in
    let e = times_own x xs in
    ((apart x xs (omega arith)).0, each_once xs (λ k. let h = once k in let f = times_cons k x xs in omega arith))

pub pigeon : (es : List ℕ) (n b : ℕ) → ((k : ℕ) → times k es ≤ 1) → ((k : ℕ) → n ≤ k → times k es ≡ 0) → times b es ≡ 0 → b < n → length es < n
pigeon es n b once past free l =
    let all : length (b ∷ es) ≤ n = length-le_from_distinct_below (b ∷ es) n (IsDistinct-cons eqb b es (apart b es free).0 (each_once es once)) below in
    omega arith
  where
    below : (q : ℕ) → list_any (eqb q) (b ∷ es) ≡ true → q < n
    below q h = elim (or_cases (eqb q b) (list_any (eqb q) es) h) [
      | inl e ↦ (let s = eqb-true q b e in omega arith)
      | inr i ↦ elim (cases_lt q n) [ inl k ↦ k | inr g ↦ absurd (true≢false (sym i ∙ (apart q es (past q g)).1)) ]
    ]
