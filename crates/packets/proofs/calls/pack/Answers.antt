-- `packets::pack`: an accepted call's lengths are those of its packets.
use Rattle.std.proofs.Common.{sym, arith}
use Rattle.packets.specs.PacketLaws.{pack_ready}
use Rattle.packets.proofs.calls.pack.Goals as goal

pub leave_out-requires : goal.leave_out-requires
leave_out-requires c =
    let s = (pack_ready _ _ _ (sym c.in_ok-check_pack.ensures)).sized in
    record { packets = omega (arith, s.packets, c.packets.ensures); octets = omega (arith, s.octets, c.packets.ensures) }
