-- `frame_reader::read::read_frame`: every slot is read where nothing refuses the call.
use Rattle.std.proofs.Common.{rules, sym}
use Rattle.frame.specs.Frames.{read_frame_number}
use Rattle.frame.proofs.CallLaws.{read_lent}
use Rattle.frame_reader.proofs.read.read_frame.Goals as goal

pub read_slots-requires : goal.read_slots-requires
unfolding read_frame_number
read_slots-requires c =
    let a = c.args in
    let n = rw c.each_slot-each.ensures at c.in_ok-ends.ensures.value in
    let l = read_lent a.plan a.mask a.start a.tables.now _ _ _ _ _ (sym n) in
    record {
      framed = record { lent = l.3; ends_long = search rules; ends_are = c.in_ok-ends.ensures.ends };
      answers_long = l.0;
      stuff_long = l.1;
      positions_long = l.2;
    }
