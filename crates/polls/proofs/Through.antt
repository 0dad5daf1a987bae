-- Runs of a future: one poll more, and what a run that stands or is finished has behind it.
use Rattle.std.proofs.Common.{◌≡◌, ℕ, ◌+◌, ◌<◌, List, [], ◌∷◌, ◌++◌, length, get_or, take, sym, refl, ap, ◌∙◌, subst, append_assoc, append-nil}
use Rattle.std.proofs.lemmas.List.{take_more}
use Rattle.polls.specs.Step.{Step, pends, gives, Polls}
use Rattle.polls.specs.Through.{Through, standing, finished, overrun, after_step, poll_on, polls_on, through}
use Rattle.polls.specs.declared.future.Poll.TheVariants.{Pending, Ready}

-- what a poll answered tells its step
pub pending_step : {F O : Type 0} (s : Step F O) (later : F) → Polls s later Pending → s ≡ pends later
pending_step (pends f) later h = ap pends (sym h.1)
pending_step (gives o) later h = absurd cc

pub ready_step : {F O : Type 0} (s : Step F O) (later : F) (o : O) → Polls s later (Ready o) → s ≡ gives o
ready_step (pends f) later o h = absurd (let e = h.0 in cc)
ready_step (gives p) later o h = cc

module _ {F O : Type 0} (step : F → ℕ → Step F O) where
  pub polls_push : (t : Through F O) (ws : List ℕ) (w : ℕ) → polls_on step t (ws ++ w ∷ []) ≡ poll_on step (polls_on step t ws) w
  polls_push t [] w = refl
  polls_push t (v ∷ ws) w = polls_push (poll_on step t v) ws w

  -- one word more on a future that stands
  pub through_more : (f g : F) (ws : List ℕ) (i : ℕ) → i < length ws → through step f (take i ws) ≡ standing g
      → through step f (take (i + 1) ws) ≡ after_step (step g (get_or ws i 0))
  through_more f g ws i h e =
      ap (through step f) (take_more ws i 0 h) ∙ polls_push (standing f) (take i ws) (get_or ws i 0) ∙ ap (λ t. poll_on step t (get_or ws i 0)) e

  -- behind Ready nothing stands
  overrun_stays : (ws : List ℕ) → polls_on step overrun ws ≡ overrun
  overrun_stays [] = refl
  overrun_stays (w ∷ ws) = overrun_stays ws

  finished_stands : (o : O) (g : F) (ws : List ℕ) → polls_on step (finished o) ws ≡ standing g → ⊥
  finished_stands o g [] e = cc
  finished_stands o g (w ∷ ws) e = let x = overrun_stays ws in cc

  -- what holds at the start, and after each poll that gave Pending, holds of a future that stands
  module _ (I : List ℕ → F → Type 0) (kept : (ws : List ℕ) (g : F) (w : ℕ) (h : F) → I ws g → step g w ≡ pends h → I (ws ++ w ∷ []) h) where
    one_further : (past ws : List ℕ) (f g : F) (w : ℕ) (s : Step F O) → step f w ≡ s → I past f → polls_on step (after_step s) ws ≡ standing g
        → ((p : List ℕ) (h : F) → I p h → through step h ws ≡ standing g → I (p ++ ws) g) → I (past ++ w ∷ ws) g
    one_further past ws f g w (pends h) p i e more =
        subst (λ l. I l g) (append_assoc past (w ∷ []) ws) (more (past ++ w ∷ []) h (kept past f w h i p) e)
    one_further past ws f g w (gives o) p i e more = absurd (finished_stands o g ws e)

    stands_from : (past ws : List ℕ) (f g : F) → I past f → through step f ws ≡ standing g → I (past ++ ws) g
    stands_from past [] f g i e = let x : f ≡ g = cc in subst (λ l. I l g) (sym (append-nil past)) (subst (I past) x i)
    stands_from past (w ∷ ws) f g i e =
        one_further past ws f g w (step f w) refl i e (λ p h j k. stands_from p ws h g j k)

    pub stands : (ws : List ℕ) (f g : F) → I [] f → through step f ws ≡ standing g → I ws g
    stands ws f g i e = stands_from [] ws f g i e

  -- a run that is finished stood before its last word, which gave Ready
  pub finishes : (f : F) (ws : List ℕ) (w : ℕ) (o : O) → through step f (ws ++ w ∷ []) ≡ finished o
      → (g : F) × (through step f ws ≡ standing g) × (step g w ≡ gives o)
  finishes f ws w o e = last (through step f ws) refl (sym (polls_push (standing f) ws w) ∙ e)
    where
      given : (s : Step F O) → after_step s ≡ finished o → s ≡ gives o
      given (pends g) h = absurd cc
      given (gives p) h = cc

      last : (t : Through F O) → through step f ws ≡ t → poll_on step t w ≡ finished o → (g : F) × (through step f ws ≡ standing g) × (step g w ≡ gives o)
      last (standing g) p h = (g, p, given (step g w) h)
      last (finished q) p h = absurd cc
      last overrun p h = absurd cc
