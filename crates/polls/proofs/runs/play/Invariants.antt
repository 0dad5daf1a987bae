use Rattle.std.proofs.Common.{◌≡◌, take}
use Rattle.polls.specs.Through.{through, standing}
use Rattle.polls.proofs.runs.play.Given as goal

-- each word so far was Pending, and the future stands as they leave it
abbrev pub invariant-loop-i : goal.invariant-loop-i
invariant-loop-i g l = through g.F.Future.step l.initial.future (take l.i l.words) ≡ standing l.future
