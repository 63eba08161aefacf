-- What the functions ask of their arguments.
use Rattle.std.specs.Prelude.{◌≡◌, ℕ, ◌≤◌, true, ◌%◌}
use Rattle.plan.specs.declared.Plan.{Plan}
use Rattle.plan.specs.Plans.{plan_number}
use Rattle.dispersal.specs.Register.{mask_ok, register_ok}
use Rattle.plan.specs.declared.FrameState.{FrameState}
use Rattle.plan.specs.Sizes.{slot_width}
use Rattle.plan.specs.Records.{plan_in}

-- the row count of a known rate
pub record Rows (rows : ℕ) : Type 0 where
  pub low : 41 ≤ rows
  pub high : rows ≤ 109
  pub fours : rows % 4 ≡ 1

-- a number between bounds, as the tests for rates and modulations have it
pub record Between (a b n : ℕ) : Type 0 where
  pub low : a ≤ n
  pub high : n ≤ b

-- a state that is refused neither for its plan nor for its register
pub record Sound (s : FrameState) : Type 0 where
  pub numbered : 1 ≤ s.slot
  pub plan : plan_number (plan_in s) ≡ 0
  pub mask : mask_ok slot_width s.mask ≡ true
  pub start : register_ok slot_width s.start ≡ true
  pub register : register_ok slot_width s.register ≡ true

-- a state whose next slot can be worked on
pub record Ready (s : FrameState) : Type 0 where
  pub sound : Sound s
  pub left : s.slot ≤ 120

-- a slot of an accepted plan
pub record SlotOf (p : Plan) (s : ℕ) : Type 0 where
  pub plan : plan_number p ≡ 0
  pub low : 1 ≤ s
  pub high : s ≤ 120
