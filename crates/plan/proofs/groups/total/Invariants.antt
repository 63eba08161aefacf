-- `plan::total`: the slots of the groups passed.
use Rattle.std.proofs.Common.{◌≡◌, ◌*◌, ◌≤◌}
use Rattle.plan.specs.Plans.{slots_before}
use Rattle.plan.proofs.groups.total.Given as goal

abbrev pub invariant-loop-g : goal.invariant-loop-g
invariant-loop-g l = (l.sum ≤ 65536 * l.g) × (l.sum ≡ slots_before l.plan l.g)
