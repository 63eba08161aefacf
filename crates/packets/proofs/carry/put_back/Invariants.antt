-- `packets::put_back`: the area is filled with the packets, each by its first octet and then the others.
use Rattle.std.proofs.Common.{◌*◌}
use Rattle.lists.specs.Filling.{Filling}
use Rattle.packets.specs.Packets.{unpacked}
use Rattle.packets.proofs.carry.put_back.Given as goal

abbrev pub invariant-loop-i : goal.invariant-loop-i
invariant-loop-i l = Filling (unpacked l.count l.octets) l.initial.packets (188 * l.i) l.packets
