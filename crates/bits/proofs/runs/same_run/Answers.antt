-- `bits::same_run`: `==` of two lists compares them as `same` does.
use Rattle.std.proofs.Common.{◌∙◌}
use Rattle.bits.proofs.Turns.{pointwise_same}
use Rattle.bits.proofs.runs.same_run.Goals as goal

pub returns : goal.returns
returns c = c.eq.ensures ∙ pointwise_same _ _
