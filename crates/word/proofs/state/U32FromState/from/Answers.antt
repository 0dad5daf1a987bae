use Rattle.bits.proofs.Words.{number_is}
use Rattle.word.proofs.state.U32FromState.from.Goals as goal

pub returns : goal.returns
returns c = number_is c.state.inside.bits c.args.state c.state.view_is
