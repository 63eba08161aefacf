-- `packets::leave_out`: the area is filled with the packets' other octets, one packet at a time.
use Rattle.std.proofs.Common.{◌*◌}
use Rattle.lists.specs.Filling.{Filling}
use Rattle.packets.specs.Packets.{packed}
use Rattle.packets.proofs.carry.leave_out.Given as goal

abbrev pub invariant-loop-i : goal.invariant-loop-i
invariant-loop-i l = Filling (packed l.count l.packets) l.initial.octets (187 * l.i) l.octets
