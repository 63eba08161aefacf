-- `dispersal::register_ok`: the range is that of the definition, with the shift as a power.
use Rattle.std.proofs.Common.{◌^◌, ◌∙◌, arith}
use Rattle.dispersal.specs.Register.{register_ok}
use Rattle.dispersal.proofs.Shift.{weight, in_range}
use Rattle.dispersal.proofs.register.register_ok.Goals as goal

pub returns : goal.returns
unfolding register_ok
returns c = let w = c.args.width in c.contains.ensures.value ∙ rw (weight w (omega arith)) (in_range 1 c.args.register (2 ^ w))
