-- `points::arranged_step`: settings that are allowed hold the register.
use mathlib.Core.Path.{sym, ◌∙◌}
use native.Mathlib.Omega.{arith}
use Rattle.lists.specs.ChoiceLaws.{and_right}
use Rattle.dispersal.specs.Register.{mask_ok}
use Rattle.dispersal.specs.RegisterLaws.{register_is}
use Rattle.points.specs.Points.{arranged_width}
use Rattle.points.proofs.calls.arranged_step.Goals as goal

pub stepped-requires : goal.stepped-requires
stepped-requires c =
    let s = c.args in
    let h = register_is arranged_width s.register (and_right (mask_ok arranged_width s.mask) _ (sym c.settings_ok.ensures ∙ c.if-not-settings_ok.false)) in
    record { low = omega arith; high = omega arith; small = h.high }
