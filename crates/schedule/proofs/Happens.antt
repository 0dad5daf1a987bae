-- The four things that can happen at a request, and what holds along a list of them.
use Rattle.std.proofs.Common.{◌≡◌, ℕ, Bool, true, false, cond, List, [], ◌∷◌, drop, sym, refl, subst}
use Rattle.schedule.specs.declared.Schedule.{Ghosts}
use Rattle.schedule.specs.declared.requests.Request.{Request}
use Rattle.schedule.specs.declared.requests.Request.TheVariants.{Put, Take}
use Rattle.schedule.specs.declared.requests.Answer.{Answer}
use Rattle.schedule.specs.declared.requests.Answer.TheVariants.{Accepted, Gave, Empty}
use Rattle.schedule.specs.Entries.{first, accepts}
use Rattle.schedule.specs.History.{Event, event}
use Rattle.schedule.specs.Requests.{given, Obeys, Ran, none, more}

-- the policy was s, and is s'
pub data Happens {S : Type 0} (P : Ghosts S) (s s' : S) : Event → Type 0 where
  goes_in : (b : ℕ) (m : Bool) → accepts b (P.entries s) (P.places s) ≡ true → P.entries s' ≡ P.after s b m → Happens P s s' (event (Put b m) (Accepted true))
  stays_out : (b : ℕ) (m : Bool) → accepts b (P.entries s) (P.places s) ≡ false → P.entries s' ≡ P.entries s → Happens P s s' (event (Put b m) (Accepted false))
  comes_out : (b : ℕ) (es : List ℕ) → P.entries s ≡ b ∷ es → P.entries s' ≡ es → Happens P s s' (event Take (Gave b))
  none_there : P.entries s ≡ [] → P.entries s' ≡ [] → Happens P s s' (event Take Empty)

module _ {S : Type 0} (P : Ghosts S) where
  put_happens : (b : ℕ) (m t : Bool) (s s' : S) (a : Answer) → accepts b (P.entries s) (P.places s) ≡ t
      → a ≡ Accepted t → P.entries s' ≡ cond t (P.after s b m) (P.entries s) → Happens P s s' (event (Put b m) a)
  put_happens b m true s s' a t e i = subst (λ x. Happens P s s' (event (Put b m) x)) (sym e) (goes_in b m t i)
  put_happens b m false s s' a t e i = subst (λ x. Happens P s s' (event (Put b m) x)) (sym e) (stays_out b m t i)

  take_happens : (es : List ℕ) (s s' : S) (a : Answer) → P.entries s ≡ es → a ≡ given (first es) → P.entries s' ≡ drop 1 es → Happens P s s' (event Take a)
  take_happens [] s s' a q e i = subst (λ x. Happens P s s' (event Take x)) (sym e) (none_there q i)
  take_happens (b ∷ es) s s' a q e i = subst (λ x. Happens P s s' (event Take x)) (sym e) (comes_out b es q i)

  pub happens : (s s' : S) (r : Request) (a : Answer) → Obeys P s r a s' → Happens P s s' (event r a)
  happens s s' (Put b m) a y = put_happens b m (accepts b (P.entries s) (P.places s)) s s' a refl y.0 y.1
  happens s s' Take a y = take_happens (P.entries s) s s' a refl y.0 y.1

  pub same_places : (s s' : S) (r : Request) (a : Answer) → Obeys P s r a s' → P.places s' ≡ P.places s
  same_places s s' (Put b m) a y = y.2
  same_places s s' Take a y = y.2

  pub still_agrees : (s s' : S) (r : Request) (a : Answer) → Obeys P s r a s' → P.agrees s → P.agrees s'
  still_agrees s s' (Put b m) a y = y.3
  still_agrees s s' Take a y = y.3

  -- what holds at the start, and is kept by every request, holds at the end
  pub along : (start : S) (I : List Event → S → Type 0) → I [] start
      → ((h : List Event) (s s' : S) (r : Request) (a : Answer) → I h s → Obeys P s r a s' → I (event r a ∷ h) s')
      → (h : List Event) (s : S) → Ran P start h s → I h s
  along start I i keep h s none = i
  along start I i keep h s (more {h = h₀} {s = s₀} r a ran y) = keep h₀ s₀ s r a (along start I i keep h₀ s₀ ran) y
