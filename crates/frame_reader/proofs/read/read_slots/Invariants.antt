-- `frame_reader::read::read_slots`: the areas are filled with what the slots passed were read to.
use mathlib.Core.Path.{◌≡◌}
use mathlib.Core.List.{List}
use Prim.Native.Nat.{ℕ, ◌≤◌}
use Rattle.lists.specs.Filling.{Filling}
use Rattle.plan.specs.declared.Plan.{Plan}
use Rattle.plan.specs.declared.FrameState.{FrameState}
use Rattle.frame.specs.Frames.{state_before, source_from, answers_of, stuffs_of, positions_of, sources_of}
use Rattle.frame_reader.proofs.read.read_slots.Given as goal

-- the first k slots are read
pub record Passed (p : Plan) (mask start : ℕ) (ts frame found asked told named source answers stuff positions : List ℕ) (s : FrameState) (from k : ℕ) : Type 0 where
  pub some : k ≤ 120
  pub state_is : s ≡ state_before p mask start k
  pub from_is : from ≡ source_from p k
  pub sources : Filling (sources_of p ts mask start frame found) found from source
  pub answered : Filling (answers_of p ts mask start frame) asked k answers
  pub stuffed : Filling (stuffs_of p ts mask start frame) told k stuff
  pub positioned : Filling (positions_of p ts mask start frame) named k positions

abbrev pub invariant-loop-k : goal.invariant-loop-k
invariant-loop-k l =
    Passed l.plan l.mask l.start l.tables l.frame l.initial.source l.initial.answers l.initial.stuff l.initial.positions l.source l.answers l.stuff l.positions l.state l.from l.k
