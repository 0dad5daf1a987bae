use Rattle.std.proofs.Common.{ap, ◌∙◌, arith}
use Rattle.bits.specs.State.{with_flags}
use Rattle.bits.specs.Words.{setting}
use Rattle.bits.proofs.Words.{number_read, number_is, read_with}
use Rattle.word.proofs.state.State.with.Goals as goal

pub returns-clause-value : goal.returns-clause-value
returns-clause-value c = number_read _ ∙ ap (λ w. with_flags w c.args.flags) (number_is c.self.inside.bits c.args.self c.self.view_is)

pub returns-clause-parts : goal.returns-clause-parts
returns-clause-parts c h = read_with c.self.inside.bits c.args.flags (omega arith) h ∙ ap (setting c.args.flags) c.self.view_is
