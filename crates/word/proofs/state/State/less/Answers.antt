use Rattle.std.proofs.Common.{ap, ◌∙◌, arith}
use Rattle.bits.specs.Words.{released}
use Rattle.bits.proofs.Words.{read_less}
use Rattle.word.proofs.state.State.less.Goals as goal

pub returns : goal.returns
returns c =
    let e = ap (λ w. w.count) c.self.view_is in
    read_less c.self.inside.bits (λ z. c.if-count-eq0.false (omega arith)) ∙ ap released c.self.view_is
