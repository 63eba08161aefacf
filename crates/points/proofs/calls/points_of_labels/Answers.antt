-- `points::points_of_labels`: labels that are accepted have their entries, and areas with room for their points.
use mathlib.Core.Path.{sym}
use Rattle.points.proofs.NumberLaws.{areas}
use Rattle.points.proofs.calls.points_of_labels.Goals as goal

pub put_points-requires : goal.put_points-requires
put_points-requires c = areas _ _ _ _ _ _ _ (sym c.in_ok-check_points.ensures)
