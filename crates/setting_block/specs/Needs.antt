-- What the functions ask of their arguments.
use Rattle.std.specs.Prelude.{◌≡◌, List, ℕ, length}
use Rattle.plan.specs.declared.Plan.{Plan}
use Rattle.plan_octets.specs.Needs.{Fits}
use Rattle.setting_block.specs.Layout.{setting_octets}

-- a whole block
abbrev pub Block : List ℕ → Type 0
Block octets = length octets ≡ setting_octets

-- a plan that fits its octets, and an area of so many
pub record Room (p : Plan) (n : ℕ) (area : List ℕ) : Type 0 where
  pub fits : Fits p
  pub long : length area ≡ n
