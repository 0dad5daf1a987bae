-- Whole runs: what polling with a list of words, one after another, comes to.
use Rattle.std.specs.Prelude.{◌≡◌, ℕ, ◌+◌, ◌<◌, ◌≤◌, min, cond, List, length, take, Some, None, sum, MatchOption, nat_lt}
use Rattle.polls.specs.Step.{Step}
use Rattle.polls.specs.Through.{through, standing, finished}
use Rattle.polls.specs.declared.runs.Played.{Played}
use Rattle.polls.specs.declared.transfer.Recording.{Recording}

-- Any future: either every word was Pending, and the future stands as these words leave it;
-- or the first `pending` words were, and the next one was Ready with the output.
abbrev pub Plays : {F O : Type 0} → (F → ℕ → Step F O) → F → List ℕ → Played O → F → Type 0
Plays step f words r later =
    MatchOption r.output
    ((r.pending ≡ length words) × (through step f words ≡ standing later))
    (λ o. (r.pending < length words) × (through step f (take (r.pending + 1) words) ≡ finished o))

-- Countdown: Pending n times whatever the words, then Ready with n.
abbrev pub CountsDown : ℕ → List ℕ → Played ℕ → Type 0
CountsDown n words r =
    (r.pending ≡ min n (length words)) × (r.output ≡ cond (nat_lt n (length words)) (Some n) None)

-- The words before the one at i, and that one too, add up to the goal or more.
abbrev pub Reached : ℕ → List ℕ → ℕ → Type 0
Reached goal words i = goal ≤ sum (take (i + 1) words)

-- Transfer: Pending as long as the words so far add up to less than the goal; Ready with the first word
-- with which they reach it, with the goal's seconds and the number of polls, that one counted.
abbrev pub Transfers : ℕ → List ℕ → Played Recording → Type 0
Transfers goal words r =
    ((i : ℕ) → i < r.pending → Reached goal words i → ⊥)
    × MatchOption r.output
    (r.pending ≡ length words)
    (λ o. (r.pending < length words) × Reached goal words r.pending
    × (o ≡ record { seconds = goal; polls = min (r.pending + 1) 4294967295 }))
