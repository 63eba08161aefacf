-- `bits::gather`: the number that the bits passed make.
use mathlib.Core.Path.{◌≡◌}
use Prim.Native.Nat.{◌^◌, ◌<◌}
use Rattle.bits.specs.Digits.{number}
use Rattle.bits.proofs.octets.gather.Given as goal

abbrev pub invariant-loop-bit : goal.invariant-loop-bit
invariant-loop-bit l = (l.made ≡ number l.bit-index l.bits) × (l.made < 2 ^ 63)
