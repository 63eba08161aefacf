-- `frame_coder::code_slots`: the frame is filled slot by slot, with the state and the place in the source that belong to each.
use mathlib.Core.Path.{◌≡◌}
use mathlib.Core.List.{List}
use Prim.Native.Nat.{ℕ, ◌*◌, ◌≤◌}
use Rattle.lists.specs.Filling.{Filling}
use Rattle.plan.specs.declared.Plan.{Plan}
use Rattle.plan.specs.declared.FrameState.{FrameState}
use Rattle.plan.specs.Sizes.{slot_octets}
use Rattle.frame.specs.Frames.{state_before, source_from, frame_of}
use Rattle.frame_coder.proofs.code.code_slots.Given as goal

-- the first k slots are coded
pub record Inv (p : Plan) (mask start : ℕ) (ts source found area : List ℕ) (s : FrameState) (from k : ℕ) : Type 0 where
  pub few : k ≤ 120
  pub state_is : s ≡ state_before p mask start k
  pub from_is : from ≡ source_from p k
  pub filling : Filling (frame_of p ts mask start source found) found (slot_octets * k) area

abbrev pub invariant-loop-k : goal.invariant-loop-k
invariant-loop-k l = Inv l.plan l.mask l.start l.tables l.source l.initial.frame l.frame l.state l.from l.k
