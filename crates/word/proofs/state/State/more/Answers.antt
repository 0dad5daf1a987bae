use Rattle.std.proofs.Common.{ap, ◌∙◌, arith}
use Rattle.bits.specs.Words.{referenced}
use Rattle.bits.proofs.Words.{read_more}
use Rattle.word.proofs.state.State.more.Goals as goal

pub returns : goal.returns
returns c =
    let e = ap (λ w. w.count) c.self.view_is in
    read_more c.self.inside.bits (omega arith) ∙ ap referenced c.self.view_is
