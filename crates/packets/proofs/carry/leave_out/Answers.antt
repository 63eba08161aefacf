-- `packets::leave_out`: the area is filled with the packets' other octets, one packet at a time.
use Rattle.std.proofs.Common.{sym, ◌∙◌, ◌+◌, ◌*◌, arith}
use Rattle.lists.specs.FillingLaws.{filling_none, filling_part, filling_all}
use Rattle.packets.specs.PacketLaws.{length_packed, packed_at}
use Rattle.packets.proofs.carry.leave_out.Goals as goal

pub loop-i-init : goal.loop-i-init
loop-i-init c = filling_none _ _ (length_packed c.args.count c.args.packets.now c.requires.packets ∙ sym c.requires.octets)

pub loop-i-preserved : goal.loop-i-preserved
loop-i-preserved c =
    let i = c.loop-i.i in
    let p = packed_at c.args.count c.args.packets.now c.requires.packets i (omega arith) in
    filling_part _ _ (187 * i) _ c.loop-i.invariant (187 * (i + 1)) _ (omega arith) (omega (arith, c.requires.octets)) (c.copy.ensures ∙ sym p)

pub returns : goal.returns
returns c = filling_all _ _ _ _ c.loop-i.invariant (omega (arith, c.requires.octets))
