-- `octet_numbers::spread`: the digits of a number are bits, and the octets that they make are its own.
use mathlib.Core.Path.{◌∙◌}
use Rattle.bits.specs.DigitLaws.{length_digits, digits_bits}
use Rattle.octet_numbers.specs.Numbers.{big_endian}
use Rattle.octet_numbers.proofs.spread.Goals as goal

pub collect-requires : goal.collect-requires
collect-requires c =
    rw c.spread.ensures (record { eights = length_digits _ _ ∙ c.requires.eights; bits = digits_bits _ _ })

pub returns : goal.returns
unfolding big_endian
returns c =
    c.collect.ensures ∙ rw (c.spread.ensures, c.requires.eights)
