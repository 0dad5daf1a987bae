-- What an opening and a list of calls come to, one bay and one call more at a time.
use Rattle.std.proofs.Common.{◌≡◌, ℕ, ◌+◌, ◌<◌, ◌≤◌, ◌||◌, eqb, ltb, List, [], ◌∷◌, ◌++◌, reverse, length, get_or, take, replicate, is_some, Some, None, Ok, Option, Result, sym, refl, ap, ◌∙◌, subst, arith}
use Rattle.std.proofs.lemmas.List.{length-take, take_more, reverse-append}
use Rattle.std.proofs.lemmas.Bool.{cond_both, ltb-false, eqb-false, or_parts}
use Rattle.polls.specs.Step.{Step}
use Rattle.schedule.specs.declared.Schedule.{Ghosts}
use Rattle.schedule.specs.Entries.{first}
use Rattle.schedule.proofs.Entries.{nothing_first}
use Rattle.cell.specs.declared.call.Call.{Call}
use Rattle.cell.specs.declared.report.Fault.{Fault}
use Rattle.cell.specs.declared.report.Report.{Report}
use Rattle.cell.specs.Keeps.{Cell}
use Rattle.rack.specs.Racks.{unfit, Opens, Stepped}
use Rattle.rack.specs.History.{event, beside, history}
use Rattle.rack.specs.Law.{Ran, none, more}
use Rattle.rack.proofs.Laws.{alone}

-- what an opening that is not refused has tested
pub record Fit (m : ℕ) (es : List ℕ) (n : ℕ) : Type 0 where
  pub some : 1 ≤ m
  pub few : m ≤ 64
  pub bare : es ≡ []
  pub room : m ≤ n

pub fit_from : (m : ℕ) (es : List ℕ) (n : ℕ) → unfit m es n ≡ None → Fit m es n
fit_from m es n =
    cond_both (eqb m 0 || ltb 64 m) _ _ (λ y. y ≡ None → Fit m es n) (λ _ e. absurd cc)
    (λ t. cond_both (is_some (first es) || ltb n m) _ _ (λ y. y ≡ None → Fit m es n) (λ _ e. absurd cc)
    (λ u _.
    let a = or_parts (eqb m 0) (ltb 64 m) t in
    let b = or_parts (is_some (first es)) (ltb n m) u in
    let c = eqb-false m 0 a.0 in
    record { some = omega arith; few = ltb-false 64 m a.1; bare = nothing_first es b.0; room = ltb-false n m b.1 }))

module _ {F O : Type 0} where
  -- what an opening answered tells whether it was refused
  pub opens_ok : (bays bays' : List (Option (Cell F O))) (u : Option Fault) (x : ℕ) → Opens bays u (Ok x) bays' → (u ≡ None) × (bays' ≡ replicate (length bays) None)
  opens_ok bays bays' None x h = (refl, h.1)
  opens_ok bays bays' (Some e) x h = absurd (let e = h.0 in cc)

  -- one call more at the end of a list is one event more at the head of its history
  beside_push : (cs : List (Call F)) (os : List (Result (Report O) Fault)) (c : Call F) (o : Result (Report O) Fault) → length os ≡ length cs → beside (cs ++ c ∷ []) (os ++ o ∷ []) ≡ beside cs os ++ event c o ∷ []
  beside_push [] [] c o e = refl
  beside_push [] (x ∷ os) c o e = absurd (omega arith)
  beside_push (x ∷ cs) [] c o e = absurd (omega arith)
  beside_push (x ∷ cs) (y ∷ os) c o e = ap (λ r. event x y ∷ r) (beside_push cs os c o (omega arith))

  pub history_more : (cs : List (Call F)) (os os' : List (Result (Report O) Fault)) (i : ℕ) (c : Call F) (o : Result (Report O) Fault)
      → i < length cs → c ≡ get_or cs i c → length os ≡ i → os' ≡ os ++ o ∷ [] → history (take (i + 1) cs) os' ≡ event c o ∷ history (take i cs) os
  history_more cs os os' i c o l e n q =
      let k = length-take i cs in
      ap (history (take (i + 1) cs)) q ∙ ap (λ x. history x (os ++ o ∷ [])) (take_more cs i c l ∙ ap (λ x. take i cs ++ x ∷ []) (sym e))
      ∙ ap reverse (beside_push (take i cs) os c o (omega arith)) ∙ reverse-append (beside (take i cs) os) (event c o ∷ [])

module _ {F O S : Type 0} (step : F → ℕ → Step F O) (P : Ghosts S) where
  pub started : (n : ℕ) (s : S) (bays : List (Option (Cell F O))) (said : List (Result (Report O) Fault)) → bays ≡ replicate n None → said ≡ [] → Ran step P (replicate n None) s (history [] said) bays s
  started n s bays said e q = subst (λ b. Ran step P (replicate n None) s (history [] said) b s) (sym e) (subst (λ o. Ran step P (replicate n None) s (history [] o) (replicate n None) s) (sym q) none)

  pub ran_more : (bays₀ : List (Option (Cell F O))) (s₀ : S) (cs : List (Call F)) (os os' : List (Result (Report O) Fault)) (i : ℕ) (c : Call F) (o : Result (Report O) Fault) (bays bays' : List (Option (Cell F O))) (s s' : S)
      → i < length cs → c ≡ get_or cs i c → length os ≡ i → os' ≡ os ++ o ∷ [] → Ran step P bays₀ s₀ (history (take i cs) os) bays s → Stepped step P bays s c o bays' s'
      → Ran step P bays₀ s₀ (history (take (i + 1) cs) os') bays' s'
  ran_more bays₀ s₀ cs os os' i c o bays bays' s s' l e n q ran y =
      subst (λ h. Ran step P bays₀ s₀ h bays' s') (sym (history_more cs os os' i c o l e n q)) (more c o ran y (alone step P bays s c o bays' s' y))
