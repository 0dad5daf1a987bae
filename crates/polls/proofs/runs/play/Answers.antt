use Rattle.std.proofs.Common.{ap, ◌∙◌}
use Rattle.polls.specs.Through.{after_step}
use Rattle.polls.proofs.Through.{through_more, pending_step, ready_step}
use Rattle.polls.proofs.runs.play.Goals as goal

pub returns-in-Ready : goal.returns-in-Ready
returns-in-Ready g c = (
  c.loop-i-test.true,
  through_more g.F.Future.step c.args.future.now c.loop-i.future c.args.words.now c.loop-i.i c.loop-i-test.true c.loop-i.invariant
      ∙ ap after_step (ready_step _ _ _ c.in-Ready.ensures),
)

pub loop-i-preserved : goal.loop-i-preserved
loop-i-preserved g c =
    through_more g.F.Future.step c.args.future.now c.loop-i.future c.args.words.now c.loop-i.i c.loop-i-test.true c.loop-i.invariant
    ∙ ap after_step (pending_step _ _ c.in_default.ensures)
