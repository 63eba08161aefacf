-- `bch::message::of_bits`: the remainder's coefficients are the BCH bits.
use Rattle.bch.specs.Bch.{bch_bits}
use Rattle.bch.proofs.message.of_bits.Goals as goal

pub returns : goal.returns
unfolding bch_bits
returns c = cc
