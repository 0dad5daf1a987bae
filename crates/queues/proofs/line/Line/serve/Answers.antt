use Rattle.std.proofs.Common.{vec_items, refl}
use Rattle.std.proofs.lemmas.Result.{IfOk-weaker}
use Rattle.queues.proofs.Lines.{in_order}
use Rattle.queues.proofs.line.Line.serve.Goals as goal

pub returns-clause-order : goal.returns-clause-order
returns-clause-order g c =
    IfOk-weaker c.serve.result _ _
    (λ _ s. in_order _ g.E.End.back (λ _ _ _. refl) c.args.self.now c.serve.new.policy c.args.requests.now (vec_items c.serve.new.answers) s)
    c.serve.ensures.served
