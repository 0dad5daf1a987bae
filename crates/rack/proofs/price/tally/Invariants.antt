use Rattle.std.proofs.Common.{◌≡◌, ◌≤◌, length, take}
use Rattle.rack.specs.History.{history, total}
use Rattle.rack.specs.Prices.{column}
use Rattle.rack.proofs.price.tally.Given as goal

-- the calls so far are counted
abbrev pub invariant-loop-call : goal.invariant-loop-call
invariant-loop-call g l =
    (l.sum ≤ length l.yielded)
    × (l.sum ≡ total (column l.kind) (history (take (length l.yielded) l.calls) (take (length l.yielded) l.said)))
