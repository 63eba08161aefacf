-- `bch::message::of_octets`: the remainder's coefficients are the BCH bits.
use Rattle.bch.specs.Bch.{bch_bits}
use Rattle.bch.proofs.message.of_octets.Goals as goal

pub returns : goal.returns
unfolding bch_bits
returns c = cc
