-- What the functions ask of their arguments, and what they leave.
use Rattle.std.specs.Prelude.{◌≡◌, true, List, ℕ, ◌+◌, ◌<◌, ◌≤◌, length, get_or}
use Rattle.plan.specs.Records.{plan_in}
use Rattle.plan.specs.declared.Plan.{Plan}
use Rattle.plan.specs.declared.FrameState.{FrameState}
use Rattle.plan.specs.Needs.{Ready}
use Rattle.frame.specs.Tables.{table_from, tables_ok}
use Rattle.frame.specs.Frames.{octets_of_slot, source_from}
use Rattle.plan.specs.Sizes.{frame_octets}
use Rattle.plan.specs.States.{open_number}

-- an accepted plan with its settings and tables, and areas of these lengths
pub record Lent (p : Plan) (mask start : ℕ) (ts : List ℕ) (source frame : ℕ) : Type 0 where
  pub opened : open_number p mask start ≡ 0
  pub source_long : source ≡ source_from p 120
  pub frame_long : frame ≡ frame_octets
  pub tables : tables_ok p ts ≡ true

-- where each group's table begins, and where the last one ends
abbrev pub Ends : Plan → List ℕ → List ℕ → Type 0
Ends p ts ends = (g : ℕ) → g ≤ p.count → get_or ends g 0 ≡ table_from p ts g

-- two ends between which the table of group g lies
pub record Within (ts ends : List ℕ) (g : ℕ) : Type 0 where
  pub few : g + 1 < length ends
  pub begins : get_or ends g 0 ≤ get_or ends (g + 1) 0
  pub ended : get_or ends (g + 1) 0 ≤ length ts

-- a state that can be worked on, the groups' accepted tables with their ends, and a place for header and data octets
pub record Placed (s : FrameState) (ts ends source : List ℕ) : Type 0 where
  pub ready : Ready s
  pub tables : tables_ok (plan_in s) ts ≡ true
  pub ends_long : length ends ≡ 9
  pub ends_are : Ends (plan_in s) ts ends
  pub source_long : length source ≡ octets_of_slot (plan_in s) s.slot

-- all that the work on a frame's slots is lent
pub record Framed (p : Plan) (mask start : ℕ) (ts ends source frame : List ℕ) : Type 0 where
  pub lent : Lent p mask start ts (length source) (length frame)
  pub ends_long : length ends ≡ 9
  pub ends_are : Ends p ts ends
