-- `symbols::label_bits`: the labels have the bits at the places passed.
use mathlib.Core.Path.{◌≡◌}
use mathlib.Core.Bool.{Bool}
use mathlib.Core.List.{List}
use Prim.Native.Nat.{ℕ, ◌≤◌}
use lib.ListN.{length}
use Rattle.symbols.specs.Index.{stride_of}
use Rattle.symbols.proofs.Turns.{labels_to}
use Rattle.symbols.proofs.runs.label_bits.Given as goal

pub record Inv (m : ℕ) (leftward : Bool) (run found : List ℕ) (step : ℕ) (labels : List ℕ) (place : ℕ) : Type 0 where
  pub passed : place ≤ m
  pub stride : step ≡ stride_of m
  pub same : length labels ≡ length found
  pub done : labels ≡ labels_to m (length found) leftward run place

abbrev pub invariant-loop-place : goal.invariant-loop-place
invariant-loop-place l = Inv l.modulation l.leftward l.run l.initial.labels l.step l.labels l.place
