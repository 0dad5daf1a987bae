use Rattle.std.proofs.Common.{◌≡◌, ◌≤◌, length, take, replicate, None, vec_items, vec_len, vec_capacity}
use Rattle.rack.specs.History.{history}
use Rattle.rack.specs.Law.{Ran}
use Rattle.rack.proofs.run.run.Given as goal

-- the calls so far are carried out, each on the rack that the one before left, and there is room for the other reports
abbrev pub invariant-loop-c : goal.invariant-loop-c
invariant-loop-c g l =
    (l.c-index ≤ length l.calls)
    × (vec_len l.reports ≡ l.c-index)
    × (length l.calls ≤ vec_capacity l.reports)
    × Ran g.F.Future.step g.S.Schedule (replicate (length l.fn.bays) None) l.fn.policy (history (take l.c-index l.calls) (vec_items l.reports)) l.bays l.policy
