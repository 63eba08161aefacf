-- `symbols::unlabel_bits`: the bits at the places passed stand where they belong.
use mathlib.Core.Path.{◌≡◌}
use mathlib.Core.Bool.{Bool}
use mathlib.Core.List.{List}
use Prim.Native.Nat.{ℕ, ◌≤◌}
use lib.ListN.{length}
use Rattle.symbols.specs.Index.{stride_of}
use Rattle.symbols.proofs.Turns.{Placed}
use Rattle.symbols.proofs.runs.unlabel_bits.Given as goal

pub record Inv (m : ℕ) (leftward : Bool) (labels : List ℕ) (step : ℕ) (run : List ℕ) (place : ℕ) : Type 0 where
  pub passed : place ≤ m
  pub stride : step ≡ stride_of m
  pub done : Placed m (length labels) leftward labels place run

abbrev pub invariant-loop-place : goal.invariant-loop-place
invariant-loop-place l = Inv l.modulation l.leftward l.labels l.step l.run l.place
