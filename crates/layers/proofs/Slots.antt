-- What a put leaves in a Slot: two bays that fit below can go there in turn.
use Rattle.std.proofs.Common.{◌≡◌, ℕ, Bool, true, cond, eqb, List, ◌∷◌, Some, None, Option, refl, sym, ap, ◌∙◌, subst, arith}
use Rattle.std.proofs.lemmas.Bool.Decides.{nat_tests}
use Rattle.std.proofs.lemmas.List.Sorted.{length_permutation, list_any-IsPermutation}
use Rattle.std.specs.List.Sorted.{IsPermutation}
use Rattle.schedule.specs.declared.Schedule.{Ghosts}
use Rattle.schedule.specs.Entries.{accepts}
use Rattle.layers.specs.Slots.{slotted, could_go}

-- what the slot's policy accepts, the policy below accepts
pub accepts_below : (slot : Option ℕ) (es : List ℕ) (n b : ℕ) → accepts b (slotted slot es) n ≡ true → accepts b es n ≡ true
accepts_below None es n b h = h
accepts_below (Some f) es n b h = grind (arith, nat_tests)

-- a bay that went below leaves the slot's bay a place there
pub could_still : (slot : Option ℕ) (es es' : List ℕ) (n b : ℕ) → accepts b (slotted slot es) n ≡ true → could_go slot es n ≡ true → IsPermutation (b ∷ es) es'
    → could_go slot es' n ≡ true
could_still None es es' n b h k s = refl
could_still (Some f) es es' n b h k s =
    let l = length_permutation (b ∷ es) es' s in
    let i = list_any-IsPermutation (λ x. eqb x f) (b ∷ es) es' s in
    grind (arith, nat_tests)

-- and the slot's bay, if it went below, a place for the new one
pub could_follow : (f b : ℕ) (es es' : List ℕ) (n : ℕ) → accepts b (f ∷ es) n ≡ true → IsPermutation (f ∷ es) es' → accepts b es' n ≡ true
could_follow f b es es' n h s =
    let l = length_permutation (f ∷ es) es' s in
    let i = list_any-IsPermutation (λ x. eqb x b) (f ∷ es) es' s in
    grind (arith, nat_tests)

-- the entries below once a bay has gone there
pub gone_below : {X : Type 0} (P : Ghosts X) → ((s : X) (b : ℕ) (m : Bool) → P.agrees s → IsPermutation (b ∷ P.entries s) (P.after s b m))
    → (below below' : X) (b : ℕ) (m : Bool) → accepts b (P.entries below) (P.places below) ≡ true → P.agrees below
    → P.entries below' ≡ cond (accepts b (P.entries below) (P.places below)) (P.after below b m) (P.entries below) → IsPermutation (b ∷ P.entries below) (P.entries below')
gone_below P keeps below below' b m ok g e =
    subst (IsPermutation (b ∷ P.entries below)) (sym (e ∙ ap (λ t. cond t (P.after below b m) (P.entries below)) ok)) (keeps below b m g)
