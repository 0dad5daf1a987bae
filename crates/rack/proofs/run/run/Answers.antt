use Rattle.std.proofs.Common.{◌≡◌, length, replicate, None, vec_items, sym, ◌∙◌, subst, arith}
use Rattle.std.proofs.lemmas.List.{take_all}
use Rattle.rack.specs.Racks.{unfit}
use Rattle.rack.specs.History.{history}
use Rattle.rack.specs.Law.{Ran}
use Rattle.rack.proofs.Laws.{law}
use Rattle.rack.proofs.Running.{fit_from, opens_ok, started, ran_more}
use Rattle.rack.proofs.run.run.Goals as goal

pub loop-c-init : goal.loop-c-init
loop-c-init g c =
    let bs = c.args.bays.now in
    let o = opens_ok bs c.open.new.bays (unfit (length bs) (g.S.Schedule.entries c.args.policy.now) (g.S.Schedule.places c.args.policy.now)) c.in_ok-open.field-0 c.in_ok-open.ensures in
    (omega arith, c.clear.ensures.len, omega arith, started g.F.Future.step g.S.Schedule (length bs) c.args.policy.now c.open.new.bays _ o.1 c.clear.ensures.items)

pub loop-c-preserved : goal.loop-c-preserved
loop-c-preserved g c =
    let v = c.loop-c.reports in
    let i = c.loop-c.c-index in
    let n : length (vec_items v) ≡ i = sym v.ok.0 ∙ c.loop-c.invariant.1 in (
      omega arith,
      omega arith,
      omega arith,
      ran_more g.F.Future.step g.S.Schedule _ _ c.args.calls.now (vec_items v) (vec_items c.push_reserved.new.self) i c.c-item.result c.call.result c.loop-c.bays c.call.new.bays c.loop-c.policy c.call.new.policy
          c.loop-c-test.true c.c-item.is n c.push_reserved.ensures.items c.loop-c.invariant.3 c.call.ensures,
    )

pub returns-clause-served : goal.returns-clause-served
returns-clause-served g c =
    let P = g.S.Schedule in
    let bs = c.args.bays.now in
    let s = c.args.policy.now in
    let v = c.loop-c.reports in
    let o = opens_ok bs c.open.new.bays (unfit (length bs) (g.S.Schedule.entries c.args.policy.now) (g.S.Schedule.places c.args.policy.now)) c.in_ok-open.field-0 c.in_ok-open.ensures in
    let f = fit_from (length bs) (P.entries s) (P.places s) o.0 in
    let ran = subst (λ l. Ran g.F.Future.step P (replicate (length bs) None) s (history l (vec_items v)) c.loop-c.bays c.loop-c.policy) (take_all c.loop-c.c-index c.args.calls.now c.loop-c-test.false) c.loop-c.invariant.3 in
    record {
      each_answered = sym v.ok.0 ∙ omega arith;
      in_turn = ran;
      law = law g.F.Future.step P g.met.S.Schedule.keeps g.met.S.Schedule.single (length bs) s (omega arith) (omega arith) (omega arith) f.bare (g.met.S.Schedule.fresh s f.bare) _ _ _ ran;
    }
