-- `points::check_used`: the labels passed use finite entries alone.
use mathlib.Core.Path.{◌≡◌}
use mathlib.Core.Bool.{true}
use lib.ListN.{get_or}
use Rattle.lists.specs.Count.{every}
use Rattle.points.specs.Points.{used_ok}
use Rattle.points.proofs.numbers.check_used.Given as goal

abbrev pub invariant-loop-label : goal.invariant-loop-label
invariant-loop-label l = every l.label-index (λ r. used_ok l.entries.in_phase.now l.entries.quadrature.now (get_or l.labels r 0)) ≡ true
