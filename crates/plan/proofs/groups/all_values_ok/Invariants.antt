-- `plan::all_values_ok`: the values of the groups passed are right.
use Rattle.std.proofs.Common.{◌≡◌, true}
use Rattle.lists.specs.Count.{every}
use Rattle.plan.specs.Plans.{values_ok}
use Rattle.plan.proofs.groups.all_values_ok.Given as goal

abbrev pub invariant-loop-g : goal.invariant-loop-g
invariant-loop-g l = every l.g (values_ok l.plan) ≡ true
