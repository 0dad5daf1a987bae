-- What a Slot means, over what the policy below means (P).
use Rattle.std.specs.Prelude.{◌≡◌, ℕ, Bool, true, false, cond, List, ◌∷◌, Some, None, Option}
use Rattle.schedule.specs.declared.Schedule.{Ghosts}
use Rattle.schedule.specs.Entries.{accepts}
use Rattle.layers.specs.declared.slot.Slot.{Slot}

-- an empty slot over a policy
abbrev pub empty_slot : {X : Type 0} → X → Slot X
empty_slot below = record { slot = None; below = below }

-- the slot's bay, if any, before the entries below
abbrev pub slotted : Option ℕ → List ℕ → List ℕ
slotted None es = es
slotted (Some b) es = b ∷ es

abbrev pub slot_entries : {X : Type 0} → Ghosts X → Slot X → List ℕ
slot_entries P s = slotted s.slot (P.entries s.below)

-- the places below: the slot takes one of them
abbrev pub slot_places : {X : Type 0} → Ghosts X → Slot X → ℕ
slot_places P s = P.places s.below

-- the slot's bay could go below: it is below 64, no entry there, and a place is free
abbrev pub could_go : Option ℕ → List ℕ → ℕ → Bool
could_go None es n = true
could_go (Some b) es n = accepts b es n

abbrev pub slot_agrees : {X : Type 0} → Ghosts X → Slot X → Type 0
slot_agrees P s = P.agrees s.below × (could_go s.slot (P.entries s.below) (P.places s.below) ≡ true)

-- the entries below once the slot's bay has gone there
abbrev pub lowered : {X : Type 0} → Ghosts X → Option ℕ → X → List ℕ
lowered P None below = P.entries below
lowered P (Some b) below = cond (accepts b (P.entries below) (P.places below)) (P.after below b false) (P.entries below)

-- woken while running: the new bay goes below; otherwise it fills the slot, and the bay that was there goes below
abbrev pub slot_after : {X : Type 0} → Ghosts X → Slot X → ℕ → Bool → List ℕ
slot_after P s b true = slotted s.slot (P.after s.below b true)
slot_after P s b false = b ∷ lowered P s.slot s.below
