-- `tlv_read::Slots::first_lost`: no slot passed is met.
use lib.ListN.{length}
use Rattle.tlv_read.specs.SlotTurns.{Unmet}
use Rattle.tlv_read.proofs.slots.Slots.first_lost.Given as goal

abbrev pub invariant-loop-k : goal.invariant-loop-k
invariant-loop-k l = Unmet l.self.size (length l.self.begins.now) l.self.lost.now l.slot l.to l.k
