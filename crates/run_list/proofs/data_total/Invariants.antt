-- `run_list::data_total`: the data slots of the groups passed.
use Rattle.std.proofs.Common.{◌≡◌, ◌*◌, ◌≤◌}
use Rattle.lists.specs.Count.{sum}
use Rattle.plan.specs.Plans.{data_slots_of}
use Rattle.run_list.proofs.data_total.Given as goal

abbrev pub invariant-loop-g : goal.invariant-loop-g
invariant-loop-g l = record { few : l.sum ≤ 120 * l.g; passed : l.sum ≡ Rattle.lists.specs.Count.sum l.g (data_slots_of l.plan) }
