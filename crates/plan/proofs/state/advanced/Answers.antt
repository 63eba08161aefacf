-- `plan::advanced`: the state's own plan and settings, one slot on.
use Rattle.plan.proofs.state.advanced.Goals as goal

pub returns : goal.returns
returns c = rw (c.state_at.ensures, c.plan_in.ensures)
