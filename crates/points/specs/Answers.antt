-- What the calls on points answer.
use Rattle.std.specs.Prelude.{◌≡◌, List, [], ◌∷◌, ℕ, eqb, Float, Result, Ok, Err, length, get_or}
use Rattle.std.specs.Float.{binary32}
use Rattle.std.specs.Float.Ieee.{of_bits}
use Rattle.lists.specs.Choice.{pick}
use Rattle.refusal.specs.Answers.{Answered, number}
use Rattle.refusal.specs.declared.Refusal.{Refusal}
use Rattle.points.specs.declared.Point.{Point}
use Rattle.points.specs.declared.PointValues.{PointValues}
use Rattle.points.specs.Points.{arranged_of, in_phase_of, quadrature_of}
use Rattle.points.specs.Numbers.{points_number}

-- "a point with both coordinates": I, then Q
abbrev pub coordinates : Point → List Float
coordinates p = p.i ∷ p.q ∷ []

-- document 01, "Each place and its form": "Where an answer is an enum, there is a definition that gives this paper's number and
-- values for each of its cases": the number is that of the refusal's words, and these are the values
abbrev pub values_of : Result Point Refusal → List Float
values_of (Ok p) = coordinates p
values_of (Err r) = []

-- "Every other number returned with a refusal is 0" (document 01, "Refusal list"): the float of 32 zeros, which is +0
abbrev pub no_coordinate : Float
no_coordinate = of_bits binary32 0

-- number and values side by side, for a caller that takes no Result
abbrev pub valued : ℕ → List Float → PointValues
valued n values = record { number = n; i = get_or values 0 no_coordinate; q = get_or values 1 no_coordinate }

-- an answer, by its number and its values
abbrev pub as_values : Result Point Refusal → PointValues
as_values r = valued (number r) (values_of r)

-- "a point with both coordinates, or the refusal": of the number n, and of the point p where n is 0
abbrev pub point_values : ℕ → Point → PointValues
point_values n p = valued n (pick (eqb n 0) (coordinates p) [])

-- "The answer is a point with both coordinates, or the refusal": the number is n, and the point p where n is 0
pub record Answers (n : ℕ) (p : Point) (r : Result Point Refusal) : Type 0 where
  pub number : number r ≡ n
  pub values : values_of r ≡ pick (eqb n 0) (coordinates p) []

-- an answer in the signal point arrangement signal: its point "turn[s] by 180 degrees" by the register
abbrev pub turned_answer : ℕ → Result Point Refusal → Result Point Refusal
turned_answer register (Ok p) = Ok (arranged_of register p)
turned_answer register (Err e) = Err e

-- the points of a run of labels: the call's number r, and both areas, left as found by a refusal
pub record PointsMade (m symbol : ℕ) (labels : List ℕ) (ins quads is qs : List Float) (r : ℕ) (i-left q-left : List Float) : Type 0 where
  pub in_phase : Answered (points_number m symbol labels ins quads (length is) (length qs)) (in_phase_of m symbol labels ins quads) is r i-left
  pub quadrature : Answered (points_number m symbol labels ins quads (length is) (length qs)) (quadrature_of m symbol labels ins quads) qs r q-left
