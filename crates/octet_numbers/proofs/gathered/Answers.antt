-- `octet_numbers::gathered`: the digits of octets are bits, and the number that they make is the octets'.
use mathlib.Core.Path.{◌∙◌}
use native.Mathlib.Omega.{arith}
use Rattle.bits.specs.OctetLaws.{length_bits_of, bits_of_bits}
use Rattle.octet_numbers.specs.Numbers.{number_of}
use Rattle.octet_numbers.proofs.gathered.Goals as goal

pub gather-requires : goal.gather-requires
gather-requires c =
    let e = c.expand.ensures in
    let n = length_bits_of c.args.octets.now in
    rw e (record { few = omega (arith, c.requires.few); bits = bits_of_bits c.args.octets.now })

pub returns : goal.returns
unfolding number_of
returns c =
    let n = length_bits_of c.args.octets.now in
    c.gather.ensures ∙ rw (c.expand.ensures, n)
