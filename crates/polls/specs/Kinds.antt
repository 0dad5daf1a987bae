-- What one poll does, for each kind of future.
use Rattle.std.specs.Prelude.{ℕ, ◌+◌, ◌-◌, min, cond, ◌==◌}
use Rattle.polls.specs.Step.{Step, pends, gives}
use Rattle.polls.specs.declared.countdown.Countdown.{Countdown}
use Rattle.polls.specs.declared.transfer.Transfer.{Transfer}
use Rattle.polls.specs.declared.transfer.Recording.{Recording}

-- Countdown: one poll fewer is left, or it is Ready with the number it started from.
abbrev pub countdown_step : Countdown → ℕ → Step Countdown ℕ
countdown_step c _ = cond (c.left == 0) (gives c.from) (pends (record { from = c.from; left = c.left - 1 }))

abbrev pub countdown_start : ℕ → Countdown
countdown_start n = record { from = n; left = n }

-- Transfer: the word is added to the seconds, at most to the goal, and 1 to the polls, at most to 4294967295.
abbrev pub played_on : Transfer → ℕ → Transfer
played_on t w = record { goal = t.goal; seconds = min (t.seconds + w) t.goal; polls = min (t.polls + 1) 4294967295 }

abbrev pub recording : Transfer → Recording
recording t = record { seconds = t.seconds; polls = t.polls }

-- It is Ready once the seconds are the goal.
abbrev pub transfer_step : Transfer → ℕ → Step Transfer Recording
transfer_step t w = cond ((played_on t w).seconds == t.goal) (gives (recording (played_on t w))) (pends (played_on t w))

abbrev pub transfer_start : ℕ → Transfer
transfer_start goal = record { goal = goal; seconds = 0; polls = 0 }
