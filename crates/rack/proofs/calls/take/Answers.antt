use Rattle.rack.proofs.Takes.{strays}
use Rattle.rack.proofs.calls.take.Goals as goal

pub returns-in_default-waiting : goal.returns-in_default-waiting
returns-in_default-waiting g c =
    strays g.F.Future.step g.S.Schedule c.args.policy.now c.args.bays.now c.in-Some.bay c.in_ok-counted.field-0 c.in_ok-counted.ensures c.in-Some.ensures c.in_default-waiting.ensures.value
