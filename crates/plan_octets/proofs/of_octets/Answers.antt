-- `plan_octets::of_octets`: the plan of the three columns.
use mathlib.Core.Path.{◌∙◌}
use Rattle.plan_octets.specs.Groups.{of_octets}
use Rattle.plan_octets.proofs.of_octets.Goals as goal

pub returns : goal.returns
unfolding of_octets
returns c =
    let b = c in
    c.of_columns.ensures ∙ rw (b.column_of-modulation.ensures, b.column_of-rate.ensures, b.column_of-slots.ensures)
