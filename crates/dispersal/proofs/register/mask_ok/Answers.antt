-- `dispersal::mask_ok`: the range is that of the definition, with the shifts as powers.
use Rattle.std.proofs.Common.{◌-◌, ◌^◌, ◌∙◌, arith}
use Rattle.dispersal.specs.Register.{mask_ok}
use Rattle.dispersal.proofs.Shift.{weight, in_range}
use Rattle.dispersal.proofs.register.mask_ok.Goals as goal

pub returns : goal.returns
unfolding mask_ok
returns c =
    let w = c.args.width in
    c.contains.ensures.value ∙ rw (weight (w - 1) (omega arith), weight w (omega arith)) (in_range (2 ^ (w - 1)) c.args.mask (2 ^ w))
