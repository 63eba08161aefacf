-- `packets::check_pack`: the packets are read only where their length is right.
use Rattle.std.proofs.Common.{sym, arith}
use Rattle.packets.specs.PacketLaws.{sized}
use Rattle.packets.proofs.calls.check_pack.Goals as goal

pub syncs_ok-requires : goal.syncs_ok-requires
syncs_ok-requires c = let s = sized _ _ _ (sym c.in_ok-check_size.ensures) in omega (arith, s.packets, c.packets.ensures)
