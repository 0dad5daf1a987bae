use Rattle.std.proofs.Common.{rules, length, arith}
use Rattle.std.proofs.lemmas.List.{length_push}
use Rattle.std.proofs.lemmas.Slice.Zip.{zip_turn, zip_end}
use Rattle.rack.specs.Prices.{column}
use Rattle.rack.proofs.Pricing.{total_more, total_all}
use Rattle.rack.proofs.price.tally.Goals as goal

pub loop-call-preserved : goal.loop-call-preserved
loop-call-preserved g c =
    let xs = c.loop-call.yielded in
    let t = zip_turn c.args.calls.now c.args.said.now xs _ c.loop-call.call-iterator c.next.new.self c.next.result (search rules) (search rules) c.loop-call.yielded_by (c.in-Some.call, c.in-Some.said) c.in-Some.is c.next.ensures.steps in
    let more = total_more (column c.args.kind) c.args.calls.now c.args.said.now (length xs) c.in-Some.call.now c.in-Some.said.now t.0 t.1 (t.2 _) (t.3 _) in
    let n = length_push xs (c.in-Some.call, c.in-Some.said) in
    rw n (omega arith, omega arith)

pub returns : goal.returns
returns g c =
    let xs = c.loop-call.yielded in
    let e = zip_end c.args.calls.now c.args.said.now xs _ c.loop-call.call-iterator c.next.new.self c.next.result (search rules) (search rules) c.loop-call.yielded_by c.in-None.is c.next.ensures.steps in
    total_all (column c.args.kind) c.args.calls.now c.args.said.now (length xs) c.loop-call.sum e c.loop-call.invariant.1
