-- `symbols::put_place`: of the labels passed the bits are put.
use mathlib.Core.Path.{◌≡◌}
use mathlib.Core.List.{List}
use Prim.Native.Nat.{ℕ, ◌+◌, ◌*◌, ◌≤◌}
use lib.ListN.{length}
use Rattle.symbols.specs.Needs.{Put, weighed}
use Rattle.symbols.proofs.places.put_place.Given as goal

pub record Inv (labels : List ℕ) (shift start step : ℕ) (found bits : List ℕ) (r at : ℕ) : Type 0 where
  pub passed : r ≤ length labels
  pub place : at ≡ start + step * r
  pub same : length bits ≡ length found
  pub done : Put r (weighed labels shift) start step found bits

abbrev pub invariant-loop-label : goal.invariant-loop-label
invariant-loop-label l = Inv l.labels l.shift l.start l.step l.initial.bits l.bits l.label-index l.at
