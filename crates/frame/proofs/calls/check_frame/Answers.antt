-- `frame::check_frame`: an opening that is not refused has an accepted plan.
use Rattle.std.proofs.Common.{sym}
use Rattle.lists.specs.ChoiceLaws.{then_zero}
use Rattle.plan.specs.Plans.{plan_number}
use Rattle.plan.specs.States.{open_number}
use Rattle.frame.proofs.calls.check_frame.Goals as goal

pub source_length-requires : goal.source_length-requires
unfolding open_number
source_length-requires c = (then_zero (plan_number c.args.plan) _ (sym c.in_ok-check_opening.ensures)).0

pub find_tables-requires : goal.find_tables-requires
unfolding open_number
find_tables-requires c = (then_zero (plan_number c.args.plan) _ (sym c.in_ok-check_opening.ensures)).0
