-- `tlv_read::Slots::read_from`: the area holds what was written, and the reading from p on is left.
use Prim.Native.Nat.{◌+◌, ◌-◌}
use lib.ListN.{length}
use Rattle.tlv_read.specs.ReadTurns.{Turn}
use Rattle.tlv_read.proofs.slots.Slots.read_from.Given as goal

abbrev pub invariant-loop-at : goal.invariant-loop-at
invariant-loop-at l = Turn l.self.size (length l.self.begins.now) l.self.lost.now l.self.begins.now l.self.octets.now l.from l.initial.packets l.p l.w l.packets

abbrev pub decreases-loop-at : goal.decreases-loop-at
decreases-loop-at l = length l.self.octets.now + 1 - l.p
