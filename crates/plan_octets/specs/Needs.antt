-- What the functions ask of their arguments.
use Rattle.std.specs.Prelude.{◌≡◌, List, ℕ, ◌<◌, length}
use Rattle.plan.specs.declared.Plan.{Plan}
use Rattle.plan.specs.Plans.{modulation_of, rate_of, slots_of}

-- a plan whose groups fit their octets
pub record Fits (p : Plan) : Type 0 where
  pub modulation : (g : ℕ) → g < p.count → modulation_of p g < 256
  pub rate : (g : ℕ) → g < p.count → rate_of p g < 256
  pub slots : (g : ℕ) → g < p.count → slots_of p g < 256

-- such a plan, and an area for group g
pub record GroupRoom (p : Plan) (g : ℕ) (area : List ℕ) : Type 0 where
  pub fits : Fits p
  pub group : g < 8
  pub long : length area ≡ 3

-- and an area for eight groups
pub record Room (p : Plan) (area : List ℕ) : Type 0 where
  pub fits : Fits p
  pub long : length area ≡ 24
