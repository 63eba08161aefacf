-- `packets::unpack`: an accepted call's lengths are those of its packets.
use Rattle.std.proofs.Common.{sym, arith}
use Rattle.packets.specs.PacketLaws.{sized}
use Rattle.packets.proofs.calls.unpack.Goals as goal

pub put_back-requires : goal.put_back-requires
put_back-requires c =
    let s = sized _ _ _ (sym c.in_ok-check_size.ensures) in
    record { packets = omega (arith, s.packets, c.packets.ensures); octets = omega (arith, s.octets, c.packets.ensures) }
