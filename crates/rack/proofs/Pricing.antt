-- The columns of the price list, one call and one bay more at a time.
use Rattle.std.proofs.Common.{◌≡◌, ℕ, zero, suc, ◌+◌, ◌<◌, List, [], ◌∷◌, ◌++◌, reverse, length, get_or, take, min, Option, Result, sym, refl, ap, ◌∙◌, arith}
use Rattle.std.proofs.lemmas.List.{take_more, length-take}
use Rattle.std.proofs.lemmas.List.Sums.{sum_by_more}
use Rattle.cell.specs.declared.call.Call.{Call}
use Rattle.cell.specs.declared.report.Fault.{Fault}
use Rattle.cell.specs.declared.report.Report.{Report}
use Rattle.cell.specs.Keeps.{Cell}
use Rattle.rack.specs.History.{Event, event, beside, history, total}
use Rattle.rack.specs.Law.{in_bay, standing_in}
use Rattle.rack.proofs.Kept.{standing_is}
use Rattle.rack.proofs.Running.{history_more}

module _ {F O : Type 0} where
  pub total_more : (count : Event F O → ℕ) (cs : List (Call F)) (os : List (Result (Report O) Fault)) (i : ℕ) (c : Call F) (o : Result (Report O) Fault)
      → i < length cs → i < length os → c ≡ get_or cs i c → o ≡ get_or os i o
      → total count (history (take (i + 1) cs) (take (i + 1) os)) ≡ count (event c o) + total count (history (take i cs) (take i os))
  total_more count cs os i c o l m e q =
      let k = length-take i os in
      ap (total count) (history_more cs (take i os) (take (i + 1) os) i c o l e (omega arith) (take_more os i o m ∙ ap (λ x. take i os ++ x ∷ []) (sym q)))

  -- calls without a report, and reports without a call, tell nothing
  beside_all : (cs : List (Call F)) (os : List (Result (Report O) Fault)) (i : ℕ) → i ≡ min (length cs) (length os) → beside (take i cs) (take i os) ≡ beside cs os
  beside_all [] os i e = let z : i ≡ 0 = omega arith in rw z refl
  beside_all (c ∷ cs) [] i e = let z : i ≡ 0 = omega arith in rw z refl
  beside_all (c ∷ cs) (o ∷ os) zero e = absurd (omega arith)
  beside_all (c ∷ cs) (o ∷ os) (suc i) e = ap (λ r. event c o ∷ r) (beside_all cs os i (omega arith))

  pub total_all : (count : Event F O → ℕ) (cs : List (Call F)) (os : List (Result (Report O) Fault)) (i n : ℕ) → i ≡ min (length cs) (length os)
      → n ≡ total count (history (take i cs) (take i os)) → n ≡ total count (history cs os)
  total_all count cs os i n e p = p ∙ ap (λ x. total count (reverse x)) (beside_all cs os i e)

  pub standing_more : (bays : List (Option (Cell F O))) (i : ℕ) (b : Option (Cell F O)) → i < length bays → b ≡ get_or bays i b → standing_in (take (i + 1) bays) ≡ standing_in (take i bays) + in_bay b
  standing_more bays i b l e =
      let was = standing_is (take i bays) in
      let now = standing_is (take (i + 1) bays) in
      let p = sum_by_more in_bay bays i b l in
      let q = ap in_bay e in
      omega arith
