-- `test_bch::bits_line`: what `expand` writes are bits.
use Rattle.std.proofs.Common.{length}
use Rattle.lists.specs.Runs.{Bits}
use Rattle.lists.specs.RunLaws.{below_part}
use Rattle.bits.specs.OctetLaws.{bits_of_bits}
use Rattle.test_bch.proofs.bits_line.Goals as goal

pub of_bits-requires : goal.of_bits-requires
of_bits-requires g c =
    let u = c.expand.new.bits in
    let z : Bits u = rw c.expand.ensures (bits_of_bits c.args.octets.now) in
    record { bits = below_part 1 c.args.from (length u) u z; area = c.requires.area }
