-- `packets::put_back`: the area is filled with the packets, each by its first octet and then the others.
use Rattle.std.proofs.Common.{sym, ◌∙◌, ◌+◌, ◌*◌, arith}
use Rattle.lists.specs.FillingLaws.{filling_none, filling_more, filling_part, filling_all}
use Rattle.packets.specs.PacketLaws.{length_unpacked, unpacked_first, unpacked_rest}
use Rattle.packets.proofs.carry.put_back.Goals as goal

pub loop-i-init : goal.loop-i-init
loop-i-init c = filling_none _ _ (length_unpacked c.args.count c.args.octets.now c.requires.octets ∙ sym c.requires.packets)

pub loop-i-preserved : goal.loop-i-preserved
loop-i-preserved c =
    let i = c.loop-i.i in
    let n = c.args.count in
    let u = c.args.octets.now in
    let f = filling_more _ _ (188 * i) _ c.loop-i.invariant 0x47 (omega (arith, c.requires.packets)) (sym (unpacked_first n u c.requires.octets i (omega arith))) in
    let r = unpacked_rest n u c.requires.octets i (omega arith) in
    filling_part _ _ (188 * i + 1) _ f (188 * (i + 1)) _ (omega arith) (omega (arith, c.requires.packets)) (c.copy.ensures ∙ sym r)

pub returns : goal.returns
returns c = filling_all _ _ _ _ c.loop-i.invariant (omega (arith, c.requires.packets))
