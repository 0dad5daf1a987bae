use Rattle.std.proofs.Common.{ap, ◌∙◌, arith}
use Rattle.std.proofs.lemmas.Bool.Decides.{nat_tests}
use Rattle.bits.specs.State.{has}
use Rattle.bits.specs.Words.{any_of}
use Rattle.bits.proofs.Words.{number_is, has_any}
use Rattle.word.proofs.state.State.has.Goals as goal

pub returns-clause-value : goal.returns-clause-value
returns-clause-value c = grind (arith, nat_tests) ∙ ap (λ w. has w c.args.flags) (number_is c.self.inside.bits c.args.self c.self.view_is)

pub returns-clause-parts : goal.returns-clause-parts
returns-clause-parts c h = grind (arith, nat_tests) ∙ has_any c.self.inside.bits c.args.flags h ∙ ap (any_of c.args.flags) c.self.view_is
