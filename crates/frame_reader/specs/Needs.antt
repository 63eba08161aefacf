-- What the functions ask of their arguments.
use Rattle.std.specs.Prelude.{◌≡◌, List, length, ℕ}
use Rattle.plan.specs.declared.Plan.{Plan}
use Rattle.plan.specs.declared.FrameState.{FrameState}
use Rattle.plan.specs.Sizes.{slot_octets}
use Rattle.frame.specs.Needs.{Placed, Framed}

-- a slot's place, with its 5,610 octets as received
pub record Reading (s : FrameState) (ts ends received source : List ℕ) : Type 0 where
  pub placed : Placed s ts ends source
  pub received_long : length received ≡ slot_octets

-- all that reading a frame's slots is lent
pub record Answering (p : Plan) (mask start : ℕ) (ts ends source frame answers stuff positions : List ℕ) : Type 0 where
  pub framed : Framed p mask start ts ends source frame
  pub answers_long : length answers ≡ 120
  pub stuff_long : length stuff ≡ 120
  pub positions_long : length positions ≡ 120
