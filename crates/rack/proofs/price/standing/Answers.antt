use Rattle.std.proofs.Common.{arith}
use Rattle.rack.proofs.Pricing.{standing_more}
use Rattle.rack.proofs.price.standing.Goals as goal

pub loop-bay-preserved : goal.loop-bay-preserved
loop-bay-preserved g c =
    let t = standing_more c.args.bays.now c.loop-bay.bay-index c.bay-item.result c.loop-bay-test.true c.bay-item.is in
    (omega arith, omega arith)
