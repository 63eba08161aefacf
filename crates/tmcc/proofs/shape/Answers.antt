-- `tmcc::shape`: every size is the definition's.
use mathlib.Core.Path.{refl}
use Rattle.tmcc.proofs.shape.Goals as goal

pub returns : goal.returns
returns c = refl
