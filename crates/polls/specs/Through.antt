-- A future polled with a list of words, one after another.
use Rattle.std.specs.Prelude.{ℕ, List, [], ◌∷◌}
use Rattle.polls.specs.Step.{Step, pends, gives}

-- What becomes of it.
pub data Through (F O : Type 0) : Type 0 where
  -- each poll gave Pending, and this value is left
  standing : F → Through F O
  -- all polls but the last gave Pending, and the last gave Ready with this output
  finished : O → Through F O
  -- it was polled after it was Ready
  overrun : Through F O

-- after one poll
abbrev pub after_step : {F O : Type 0} → Step F O → Through F O
after_step (pends f) = standing f
after_step (gives o) = finished o

-- one poll more
abbrev pub poll_on : {F O : Type 0} → (F → ℕ → Step F O) → Through F O → ℕ → Through F O
poll_on step (standing f) w = after_step (step f w)
poll_on step (finished o) w = overrun
poll_on step overrun w = overrun

-- a list of polls more
abbrev pub polls_on : {F O : Type 0} → (F → ℕ → Step F O) → Through F O → List ℕ → Through F O
polls_on step t [] = t
polls_on step t (w ∷ ws) = polls_on step (poll_on step t w) ws

-- the future f, polled with these words
abbrev pub through : {F O : Type 0} → (F → ℕ → Step F O) → F → List ℕ → Through F O
through step f words = polls_on step (standing f) words
