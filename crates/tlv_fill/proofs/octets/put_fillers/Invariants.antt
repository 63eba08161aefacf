-- `tlv_fill::octets::put_fillers`: the octets passed are those of fillers.
use Prim.Native.Nat.{◌+◌, ◌%◌}
use lib.ListN.{length, get_or}
use Rattle.lists.specs.Filling.{Filling}
use Rattle.lists.specs.Count.{table}
use Rattle.tlv.specs.Fill.{filler}
use Rattle.tlv_fill.proofs.octets.put_fillers.Given as goal

abbrev pub invariant-loop-i : goal.invariant-loop-i
invariant-loop-i l = Filling (table (length l.initial.to) (λ k. get_or filler ((l.fn.from + k) % 4) 0)) l.initial.to l.i l.to
