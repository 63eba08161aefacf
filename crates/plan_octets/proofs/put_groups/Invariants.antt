-- `plan_octets::put_groups`: the area is filled group by group.
use Rattle.std.proofs.Common.{◌*◌}
use Rattle.lists.specs.Filling.{Filling}
use Rattle.plan_octets.specs.Groups.{groups_of}
use Rattle.plan_octets.proofs.put_groups.Given as goal

abbrev pub invariant-loop-g : goal.invariant-loop-g
invariant-loop-g l = Filling (groups_of l.plan) l.initial.octets (3 * l.g) l.octets
