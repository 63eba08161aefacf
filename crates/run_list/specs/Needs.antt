-- What the functions ask of their arguments, and say of their answers besides its equation.
use Rattle.std.specs.Prelude.{◌≡◌, List, ℕ, ◌+◌, ◌≤◌, ◌<◌, length, take}
use Rattle.plan.specs.declared.Plan.{Plan}
use Rattle.plan.specs.Plans.{plan_number, slots_before}

-- the first n octets of an area are n
pub record Taken (n : ℕ) (area : List ℕ) : Type 0 where
  pub within : n ≤ length area
  pub counted : n ≡ length (take n area)

-- numbers of at most three digits for a run's line, with room for the line
pub record RunLine (from to modulation rate at : ℕ) (word area : List ℕ) : Type 0 where
  pub begins : from ≤ 999
  pub ends : to ≤ 999
  pub modulation_small : modulation ≤ 999
  pub rate_small : rate ≤ 999
  pub room : at + 16 + length word ≤ length area

-- a group of an accepted plan, the slots before it, and room for its lines
pub record GroupLines (p : Plan) (g passed at : ℕ) (area : List ℕ) : Type 0 where
  pub plan : plan_number p ≡ 0
  pub group : g < p.count
  pub before : passed ≡ slots_before p g
  pub room : at + 44 ≤ length area

-- an accepted plan, and room for the lines of all groups
pub record PlanLines (p : Plan) (at : ℕ) (area : List ℕ) : Type 0 where
  pub plan : plan_number p ≡ 0
  pub room : at + 352 ≤ length area

-- two sums of slots, and room for their line
pub record Totals (d u at : ℕ) (area : List ℕ) : Type 0 where
  pub data_small : d ≤ 999
  pub dummy_small : u ≤ 999
  pub room : at + 25 ≤ length area

-- an accepted plan, and the area for its list
pub record ListArea (p : Plan) (area : List ℕ) : Type 0 where
  pub plan : plan_number p ≡ 0
  pub long : length area ≡ 512
