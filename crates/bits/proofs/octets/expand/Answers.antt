-- `bits::expand`: the area is filled with the octets' bits, eight at a time.
use Rattle.std.proofs.Common.{◌≡◌, ◌+◌, ◌*◌, ◌∙◌, arith}
use Rattle.lists.specs.FillingLaws.{filling_none, filling_part}
use Rattle.bits.specs.OctetLaws.{length_bits_of}
use Rattle.bits.proofs.Turns.{eight_part, expand_turn}
use Rattle.bits.proofs.octets.expand.Goals as goal

pub loop-i-init : goal.loop-i-init
loop-i-init c = filling_none _ _ (length_bits_of c.args.octets.now ∙ omega arith)

pub loop-i-preserved : goal.loop-i-preserved
loop-i-preserved c =
    let l = c.loop-i in
    let n = eight_part l.i l.bits (omega arith) in
    let d = expand_turn c.args.octets.now c.spread.new.bits l.i c.from.result _ (omega arith) c.from.ensures n c.spread.ensures in
    let e : 8 * (l.i + 1) ≡ 8 * l.i + 8 = omega arith in
    rw e (filling_part _ _ (8 * l.i) l.bits l.invariant (8 * l.i + 8) _ (omega arith) (omega arith) d)
