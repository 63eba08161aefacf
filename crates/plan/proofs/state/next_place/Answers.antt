-- `plan::next_place`: the plan and the slot of a state that is ready are a slot of an accepted plan.
use Rattle.std.proofs.Common.{ap, arith, ◌∙◌}
use Rattle.plan.specs.Plans.{plan_number}
use Rattle.plan.proofs.StateLaws.{ready}
use Rattle.plan.proofs.state.next_place.Goals as goal

pub place_of-requires : goal.place_of-requires
place_of-requires c =
    let r = ready c.args.state c.requires in
    record {
      plan = ap plan_number c.plan_in.ensures ∙ r.sound.plan;
      low = omega (arith, r.sound.numbered);
      high = omega (arith, r.left);
    }
