-- `tlv_fill::octets::lay`: three pieces are put one behind the other.
use native.Mathlib.Omega.{arith}
use Rattle.tlv_fill.specs.OctetTurns.{pieces_filled}
use Rattle.tlv_fill.proofs.octets.lay.Goals as goal

pub returns : goal.returns
returns c =
    let a = c.args in
    pieces_filled a.packets.now a.taken a.owed c.min-carried.result a.slots.now c.requires c.min-carried.ensures _ _ _ _ _
    c.put_fillers.ensures (omega (arith, c.split_at_mut-front.ensures.front_len))
    c.copy.ensures
    c.put_fillers-2.ensures (omega (arith, c.split_at_mut-front.ensures.back_len, c.split_at_mut-middle.ensures.back_len))
