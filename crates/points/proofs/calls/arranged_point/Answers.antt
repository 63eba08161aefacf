-- `points::arranged_point`: the point of the symbol, turned.
use Rattle.points.proofs.AnswerLaws.{point_turned}
use Rattle.points.proofs.calls.arranged_point.Goals as goal

pub returns : goal.returns
returns c = rw (c.turned.ensures, ← c.settings_ok-sound.ensures) (point_turned _ _ _ _ c.in_ok-point.ensures)
