-- `plan::place_of`: the groups passed end before the slot, so the group at which the loop stops is the first that reaches it.
use mathlib.Core.Path.{◌≡◌}
use Prim.Native.Nat.{ℕ, ◌+◌, ◌-◌, ◌≤◌, ◌<◌}
use Rattle.plan.specs.declared.Plan.{Plan}
use Rattle.plan.specs.Plans.{slots_before}
use Rattle.plan.proofs.places.place_of.Given as goal

pub record Inv (plan : Plan) (slot g passed end : ℕ) : Type 0 where
  pub group : g < plan.count
  pub few : plan.count ≤ 8
  pub begins : passed ≡ slots_before plan g
  pub ends : end ≡ slots_before plan (g + 1)
  pub ahead : passed < slot
  pub long : passed ≤ end
  pub small : end ≤ 120

abbrev pub invariant-loop-end : goal.invariant-loop-end
invariant-loop-end l = Inv l.plan l.slot l.g l.passed l.end

abbrev pub decreases-loop-end : goal.decreases-loop-end
decreases-loop-end l = l.plan.count - l.g
