-- `bits::collect`: the area is filled with the octets that the bits make.
use mathlib.Core.Path.{◌≡◌}
use Prim.Native.Nat.{◌*◌}
use lib.ListN.{length, drop}
use Rattle.std.specs.Slice.Iter.{chunks_exact_rest, chunks_exact_size}
use Rattle.lists.specs.Filling.{Filling}
use Rattle.bits.specs.Octets.{octets_of}
use Rattle.bits.proofs.octets.collect.Given as goal

abbrev pub invariant-loop-i : goal.invariant-loop-i
invariant-loop-i l = record {
  rest : chunks_exact_rest l.i-iterator.iter ≡ drop (8 * l.i-iterator.count) l.bits;
  size : chunks_exact_size l.i-iterator.iter ≡ 8;
  filling : Filling (octets_of (length l.initial.octets) l.bits) l.initial.octets l.i-iterator.count l.octets;
}
