-- Laws of points: the test of a finite value, what comparing with the infinities says, and the coordinates of a run.
use Rattle.std.specs.Prelude.{◌≡◌, refl, true, false, List, ℕ, ◌+◌, ◌<◌, Float, length, get_or}
use Rattle.std.proofs.Common.{sym}
use Rattle.std.proofs.lemmas.Bool.{false≢true}
use Rattle.std.specs.Float.Ieee.{nan, of_bits, neg, lt}
use Rattle.std.specs.Float.{inf, fin, binary32, float_is_finite}
use Rattle.std.specs.Float.Ieee.Scale.{finite}
use Rattle.lists.specs.CountLaws.{length_table, table_at}
use Rattle.points.specs.Points.{point_of, in_phase_of, quadrature_of}

-- the library's test of a finite value
pub is_finite : (x : Float) → float_is_finite x ≡ finite x
unfolding float_is_finite
is_finite nan = refl
is_finite (inf s) = refl
is_finite (fin s m e) = refl

pub infinity : of_bits binary32 0x7f80_0000 ≡ inf false
unfolding of_bits
infinity = refl

-- between both infinities lie the finite values, and nothing else
pub below_infinity : (x : Float) → lt x (inf false) ≡ true → lt (neg (inf false)) x ≡ finite x
unfolding lt neg
below_infinity nan h = refl
below_infinity (inf true) h = refl
below_infinity (inf false) h = absurd (false≢true h)
below_infinity (fin s m e) h = refl

pub not_below_infinity : (x : Float) → lt x (inf false) ≡ false → false ≡ finite x
unfolding lt
not_below_infinity nan h = refl
not_below_infinity (inf s) h = refl
not_below_infinity (fin s m e) h = absurd (false≢true (sym h))

module _ (m symbol : ℕ) (labels : List ℕ) (ins quads : List Float) where
  pub length_in_phase : length (in_phase_of m symbol labels ins quads) ≡ length labels
  unfolding in_phase_of
  length_in_phase = length_table (length labels) (λ r. (point_of m (symbol + r) ins quads (get_or labels r 0)).i)

  pub length_quadrature : length (quadrature_of m symbol labels ins quads) ≡ length labels
  unfolding quadrature_of
  length_quadrature = length_table (length labels) (λ r. (point_of m (symbol + r) ins quads (get_or labels r 0)).q)

  pub in_phase_at : (r : ℕ) → r < length labels → get_or (in_phase_of m symbol labels ins quads) r nan ≡ (point_of m (symbol + r) ins quads (get_or labels r 0)).i
  unfolding in_phase_of
  in_phase_at = table_at nan (length labels) (λ r. (point_of m (symbol + r) ins quads (get_or labels r 0)).i)

  pub quadrature_at : (r : ℕ) → r < length labels → get_or (quadrature_of m symbol labels ins quads) r nan ≡ (point_of m (symbol + r) ins quads (get_or labels r 0)).q
  unfolding quadrature_of
  quadrature_at = table_at nan (length labels) (λ r. (point_of m (symbol + r) ins quads (get_or labels r 0)).q)
