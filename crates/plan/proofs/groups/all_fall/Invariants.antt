-- `plan::all_fall`: the groups passed fall.
use Rattle.std.proofs.Common.{◌≡◌, ◌-◌, ◌≤◌, true}
use Rattle.lists.specs.Count.{every}
use Rattle.plan.specs.Plans.{falls_after}
use Rattle.plan.proofs.groups.all_fall.Given as goal

abbrev pub invariant-loop-g : goal.invariant-loop-g
invariant-loop-g l = (l.g - 1 ≤ l.plan.count - 1) × (every (l.g - 1) (falls_after l.plan) ≡ true)
