use Rattle.bits.proofs.Bits.{sets, clears}
use Rattle.bits.proofs.Words.{number_read}
use Rattle.bits.proofs.flags_are_apart.Goals as goal

pub returns : goal.returns
returns c = record { sets = sets; clears = clears; whole = number_read }
