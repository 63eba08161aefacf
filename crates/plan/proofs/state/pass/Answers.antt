-- `plan::pass`: a state that can be passed is not past slot 120.
use Rattle.std.proofs.Common.{sym}
use Rattle.plan.proofs.StateLaws.{pass_ready}
use Rattle.plan.proofs.state.pass.Goals as goal

pub advanced-requires : goal.advanced-requires
advanced-requires c = (pass_ready c.args.state (sym c.in_ok-check_pass.ensures)).0.left
