-- `dispersal::stepped`: shifting, joining and masking are doubling, adding and the remainder by 2 ^ width.
use native.Mathlib.Omega.{arith}
use lib.Pow.{pow_pos}
use Rattle.dispersal.specs.Register.{step}
use Rattle.dispersal.proofs.Shift.{weight, masked}
use Rattle.dispersal.proofs.register.stepped.Goals as goal

pub overflow_sub-low : goal.overflow_sub-low
overflow_sub-low c = omega (arith, weight c.args.width (omega arith), pow_pos c.args.width)

pub returns : goal.returns
unfolding step
returns c = masked c.args.width 1 c.args.register _ (omega arith) (omega arith) (omega arith)
