use Rattle.std.proofs.Common.{◌≡◌, length, is_some, vec_items, sym, ap, ◌∙◌, subst, arith}
use Rattle.std.proofs.lemmas.List.{take_all}
use Rattle.schedule.specs.History.{history}
use Rattle.schedule.specs.Requests.{Ran, none}
use Rattle.schedule.proofs.Entries.{nothing_first}
use Rattle.schedule.proofs.Once.{once}
use Rattle.schedule.proofs.Serving.{ran_more}
use Rattle.schedule.proofs.requests.serve.Goals as goal

pub loop-request-init : goal.loop-request-init
loop-request-init g c = (omega arith, c.clear.ensures.len, omega arith, none)

pub loop-request-preserved : goal.loop-request-preserved
loop-request-preserved g c =
    let v = c.loop-request.answers in
    let n : length (vec_items v) ≡ c.loop-request.request-index = sym v.ok.0 ∙ c.loop-request.invariant.1 in (
      omega arith,
      omega arith,
      omega arith,
      ran_more g.S.Schedule c.args.policy.now c.args.requests.now c.loop-request.request-index _ (vec_items v) (vec_items c.push_reserved.new.self) c.obey.result
          c.loop-request.policy c.obey.new.policy c.loop-request-test.true n c.push_reserved.ensures.items c.loop-request.invariant.3 c.obey.ensures,
    )

pub returns-clause-served : goal.returns-clause-served
returns-clause-served g c =
    let P = g.S.Schedule in
    let s = c.args.policy.now in
    let v = c.loop-request.answers in
    let requests = c.args.requests.now in
    let empty = nothing_first (P.entries s) (sym (ap is_some c.peek.ensures) ∙ sym c.if-is_some.ensures) in
    let ran : Ran P s (history requests (vec_items v)) c.loop-request.policy =
    subst (λ l. Ran P s (history l (vec_items v)) c.loop-request.policy) (take_all c.loop-request.request-index requests c.loop-request-test.false) c.loop-request.invariant.3 in
    record {
      from_empty = empty;
      each_answered = sym v.ok.0 ∙ omega arith;
      in_turn = ran;
      once = once P g.met.S.Schedule.single g.met.S.Schedule.keeps s c.loop-request.policy (history requests (vec_items v)) empty (g.met.S.Schedule.fresh s empty) ran;
    }
