use Rattle.std.proofs.Common.{◌≡◌, ◌≤◌, length, take, vec_items, vec_len, vec_capacity}
use Rattle.schedule.specs.History.{history}
use Rattle.schedule.specs.Requests.{Ran}
use Rattle.schedule.proofs.requests.serve.Given as goal

-- the requests so far are answered, each on the policy that the one before left, and there is room for the other answers
abbrev pub invariant-loop-request : goal.invariant-loop-request
invariant-loop-request g l =
    (l.request-index ≤ length l.requests)
    × (vec_len l.answers ≡ l.request-index)
    × (length l.requests ≤ vec_capacity l.answers)
    × Ran g.S.Schedule l.initial.policy (history (take l.request-index l.requests) (vec_items l.answers)) l.policy
