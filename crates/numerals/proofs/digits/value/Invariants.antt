-- `numerals::value`: what the digits passed make, in at most 40 bits.
use Rattle.std.proofs.Common.{◌≡◌}
use Rattle.numerals.specs.Numerals.{value_of}
use Rattle.numerals.proofs.digits.value.Given as goal

abbrev pub invariant-loop-k : goal.invariant-loop-k
invariant-loop-k l = l.made ≡ value_of l.base l.text l.at l.k
