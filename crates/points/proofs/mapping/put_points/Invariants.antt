-- `points::put_points`: both areas are filled from the front.
use mathlib.Core.List.{List}
use Prim.Native.Nat.{ℕ}
use lib.Ieee.{Float}
use Rattle.lists.specs.Filling.{Filling}
use Rattle.points.specs.Points.{in_phase_of, quadrature_of}
use Rattle.points.proofs.mapping.put_points.Given as goal

pub record Putting (is qs i₀ q₀ i q : List Float) (r : ℕ) : Type 0 where
  pub in_phase : Filling is i₀ r i
  pub quadrature : Filling qs q₀ r q

abbrev pub invariant-loop-r : goal.invariant-loop-r
invariant-loop-r l =
    let ins = l.entries.in_phase.now in
    let quads = l.entries.quadrature.now in
    Putting (in_phase_of l.modulation l.symbol l.labels ins quads) (quadrature_of l.modulation l.symbol l.labels ins quads) l.initial.i l.initial.q l.i l.q l.r
