-- `bits::expand`: the area is filled with the octets' bits, eight at a time.
use Prim.Native.Nat.{◌*◌}
use Rattle.lists.specs.Filling.{Filling}
use Rattle.bits.specs.Octets.{bits_of}
use Rattle.bits.proofs.octets.expand.Given as goal

abbrev pub invariant-loop-i : goal.invariant-loop-i
invariant-loop-i l = Filling (bits_of l.octets) l.initial.bits (8 * l.i) l.bits
