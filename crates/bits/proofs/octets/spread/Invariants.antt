-- `bits::spread`: the digits are stored from the last; those still to come are the digits of what is left of x.
use mathlib.Core.Path.{◌≡◌}
use mathlib.Core.List.{◌++◌}
use lib.ListN.{length, drop}
use Rattle.bits.specs.Digits.{digits}
use Rattle.bits.proofs.octets.spread.Given as goal

abbrev pub invariant-loop-k : goal.invariant-loop-k
invariant-loop-k l = digits l.k l.rest ++ drop l.k l.bits ≡ digits (length l.initial.bits) l.x
