-- What the functions ask of their arguments.
use Rattle.std.specs.Prelude.{◌≡◌, List, length, ℕ}
use Rattle.plan.specs.declared.FrameState.{FrameState}
use Rattle.plan.specs.Sizes.{slot_octets}
use Rattle.frame.specs.Needs.{Placed}

-- a slot's place, with its 5,610 octets
pub record Coding (s : FrameState) (ts ends source coded : List ℕ) : Type 0 where
  pub placed : Placed s ts ends source
  pub coded_long : length coded ≡ slot_octets
