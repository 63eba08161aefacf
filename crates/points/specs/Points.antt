-- Signal points of labels (document 02, N6). A coordinate is a float as the library's account of IEEE 754 has it, where a zero
-- has a sign and `neg` turns the sign over and nothing else.
use Rattle.std.specs.Prelude.{Bool, ◌&&◌, List, ℕ, ◌+◌, ◌%◌, eqb, Float, length, get_or}
use Rattle.std.specs.Float.{nan}
use Rattle.std.specs.Float.Ieee.{neg}
use Rattle.std.specs.Float.Ieee.Scale.{finite}
use Rattle.lists.specs.Choice.{pick}
use Rattle.lists.specs.Count.{table}
use Rattle.dispersal.specs.Register.{top}
use Rattle.points.specs.declared.Point.{Point}

-- "turn by 90 degrees anticlockwise, which makes (I, Q) into (−Q, I)"
abbrev pub quarter_turn : Point → Point
quarter_turn p = record { i = neg p.q; q = p.i }

-- "turn by 180 degrees"
abbrev pub half_turn : Point → Point
half_turn p = record { i = neg p.i; q = neg p.q }

-- "two lists of 32-bit floats, in-phase and quadrature, with one entry for each label"
abbrev pub lent_point : List Float → List Float → ℕ → Point
lent_point ins quads label = record { i = get_or ins label nan; q = get_or quads label nan }

-- document 01, "Plan and place": "1 π/2-shift BPSK"
abbrev pub bpsk : ℕ
bpsk = 1

-- "For BPSK the caller gives the symbol number .., and even symbols turn by 90 degrees anticlockwise"
unfoldable pub shifted : ℕ → ℕ → Point → Point
shifted m symbol p = pick (eqb m bpsk && eqb (symbol % 2) 0) (quarter_turn p) p

-- "The modulator wants points, not labels": the point of a label under modulation m, as symbol number `symbol`
unfoldable pub point_of : ℕ → ℕ → List Float → List Float → ℕ → Point
point_of m symbol ins quads label = shifted m symbol (lent_point ins quads label)

-- "a 15-bit register"
abbrev pub arranged_width : ℕ
arranged_width = 15

-- "Symbols of the signal point arrangement signal turn by 180 degrees where a 15-bit register gives 1": it gives its bit of
-- weight 2^14
unfoldable pub arranged_of : ℕ → Point → Point
arranged_of register p = pick (eqb (top arranged_width register) 1) (half_turn p) p

-- the coordinates of a run of labels, the first of which is symbol number `symbol`: "Symbol numbers go on as whole numbers"
unfoldable pub in_phase_of : ℕ → ℕ → List ℕ → List Float → List Float → List Float
in_phase_of m symbol labels ins quads = table (length labels) (λ r. (point_of m (symbol + r) ins quads (get_or labels r 0)).i)

unfoldable pub quadrature_of : ℕ → ℕ → List ℕ → List Float → List Float → List Float
quadrature_of m symbol labels ins quads = table (length labels) (λ r. (point_of m (symbol + r) ins quads (get_or labels r 0)).q)

-- both entries that a label uses are finite
unfoldable pub used_ok : List Float → List Float → ℕ → Bool
used_ok ins quads label = finite (get_or ins label nan) && finite (get_or quads label nan)
