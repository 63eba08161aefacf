-- `bch::message::divide_octets`: the remainder of the octets passed.
use Rattle.std.proofs.Common.{◌≡◌, ◌*◌, take}
use Rattle.bits.specs.Octets.{bits_of}
use Rattle.bch.specs.Division.{remainder_of}
use Rattle.bch.specs.Bch.{generator}
use Rattle.bch.specs.Words.{worth}
use Rattle.bch.proofs.message.divide_octets.Given as goal

abbrev pub invariant-loop-octet : goal.invariant-loop-octet
invariant-loop-octet l = worth l.rest ≡ remainder_of 192 generator (take (8 * l.octet-index) (bits_of l.octets))
