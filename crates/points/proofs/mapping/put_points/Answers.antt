-- `points::put_points`: both areas are filled from the front.
use mathlib.Core.Path.{◌∙◌, ap, sym}
use native.Mathlib.Omega.{arith}
use lib.Ieee.{nan}
use Rattle.lists.specs.FillingLaws.{filling_none, filling_set}
use Rattle.points.specs.declared.Point.{Point}
use Rattle.points.proofs.PointLaws.{length_in_phase, length_quadrature, in_phase_at, quadrature_at}
use Rattle.points.proofs.mapping.put_points.Goals as goal

pub loop-r-init : goal.loop-r-init
loop-r-init c =
    record {
      in_phase = filling_none _ _ (length_in_phase _ _ _ _ _ ∙ sym c.requires.i_long);
      quadrature = filling_none _ _ (length_quadrature _ _ _ _ _ ∙ sym c.requires.q_long);
    }

pub loop-r-preserved : goal.loop-r-preserved
loop-r-preserved c =
    let a = c.args in
    let ins = a.entries.in_phase.now in
    let quads = a.entries.quadrature.now in
    let r = c.loop-r.r in
    let h = c.loop-r-test.true in
    let v = c.loop-r.invariant in
    let e = rw c.from.ensures at c.point_of-p.ensures in
    record {
      in_phase =
          filling_set _ _ r _ v.in_phase nan _ (omega (arith, c.requires.i_long))
          (ap (λ (p : Point). p.i) e ∙ sym (in_phase_at a.modulation a.symbol a.labels.now ins quads r h));
      quadrature =
          filling_set _ _ r _ v.quadrature nan _ (omega (arith, c.requires.q_long))
          (ap (λ (p : Point). p.q) e ∙ sym (quadrature_at a.modulation a.symbol a.labels.now ins quads r h));
    }
