-- A Slot keeps its entries: what an accepted put leaves is those that were there, in some order, and the new one.
use Rattle.std.specs.Prelude.{◌≡◌, ℕ, Bool, true, false, cond, List, ◌∷◌, Some, None, Option}
use Rattle.std.specs.List.Sorted.{IsPermutation}
use Rattle.std.proofs.Common.{sym, subst}
use Rattle.std.proofs.lemmas.List.Sorted.{IsPermutation-refl, IsPermutation-cons, IsPermutation-trans}
use Rattle.schedule.specs.declared.Schedule.{Ghosts}
use Rattle.schedule.proofs.Times.{swapped}
use Rattle.layers.specs.declared.slot.Slot.{Slot}
use Rattle.layers.specs.Slots.{slotted, slot_entries, could_go, slot_agrees, lowered, slot_after}

under_slot : (slot : Option ℕ) (b : ℕ) (es es' : List ℕ) → IsPermutation (b ∷ es) es' → IsPermutation (b ∷ slotted slot es) (slotted slot es')
under_slot None b es es' s = s
under_slot (Some f) b es es' s = IsPermutation-trans _ _ _ (swapped b f es) (IsPermutation-cons f (b ∷ es) es' s)

-- if the policy below does
module _ {X : Type 0} (P : Ghosts X) (keeps : (s : X) (b : ℕ) (m : Bool) → P.agrees s → IsPermutation (b ∷ P.entries s) (P.after s b m)) where
  -- the entries below and the slot's bay, once that has gone below
  pub lowered_keeps : (slot : Option ℕ) (below : X) → P.agrees below → could_go slot (P.entries below) (P.places below) ≡ true → IsPermutation (slotted slot (P.entries below)) (lowered P slot below)
  lowered_keeps None below g k = IsPermutation-refl (P.entries below)
  lowered_keeps (Some f) below g k =
      subst (λ (t : Bool). IsPermutation (f ∷ P.entries below) (cond t (P.after below f false) (P.entries below))) (sym k) (keeps below f false g)

  pub slot_keeps : (s : Slot X) (b : ℕ) (m : Bool) → slot_agrees P s → IsPermutation (b ∷ slot_entries P s) (slot_after P s b m)
  slot_keeps s b true a = under_slot s.slot b (P.entries s.below) (P.after s.below b true) (keeps s.below b true a.0)
  slot_keeps s b false a = IsPermutation-cons b (slot_entries P s) (lowered P s.slot s.below) (lowered_keeps s.slot s.below a.0 a.1)
