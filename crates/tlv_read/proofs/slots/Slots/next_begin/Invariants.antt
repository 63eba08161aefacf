-- `tlv_read::Slots::next_begin`: no slot passed is sound with a report.
use lib.ListN.{length}
use Rattle.tlv_read.specs.SlotTurns.{Silent}
use Rattle.tlv_read.proofs.slots.Slots.next_begin.Given as goal

abbrev pub invariant-loop-k : goal.invariant-loop-k
invariant-loop-k l = Silent l.self.size (length l.self.begins.now) l.self.lost.now l.self.begins.now l.slot l.k
