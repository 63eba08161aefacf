-- A whole frame, coded and read (document 01, "Plan and place" and "Refusal list"): the plan p, the settings, the groups'
-- tables ts. Slots are counted from 0 here: slot k + 1 stands behind k others.
use Rattle.std.specs.Prelude.{Bool, true, ◌&&◌, List, ℕ, zero, suc, ◌+◌, ◌*◌, eqb}
use Rattle.lists.specs.Choice.{pick, and_then}
use Rattle.lists.specs.Count.{sum, table, joined}
use Rattle.lists.specs.Parts.{part}
use Rattle.refusal.specs.Numbers.{LENGTH, TABLE}
use Rattle.plan.specs.declared.Plan.{Plan}
use Rattle.plan.specs.declared.FrameState.{FrameState}
use Rattle.plan.specs.Sizes.{slot_octets, frame_octets}
use Rattle.plan.specs.Records.{state_at}
use Rattle.plan.specs.Rates.{rows_of}
use Rattle.plan.specs.Plans.{rate_of}
use Rattle.plan.specs.Places.{group_at, carries}
use Rattle.plan.specs.States.{open_number}
use Rattle.slot.specs.Slots.{source_octets, register_after}
use Rattle.frame.specs.Tables.{tables_ok}
use Rattle.frame.specs.Steps.{coded_at, answer_at, stuff_at, position_at, read_at}

-- the rows of slot s's parity table
abbrev pub rows_of_slot : Plan → ℕ → ℕ
rows_of_slot p s = rows_of (rate_of p (group_at p s))

-- the register before slot k + 1: each data slot before it stepped it, and it "stands still over parity and dummies"
unfoldable pub register_before : Plan → ℕ → ℕ → ℕ → ℕ
register_before p mask start zero = start
register_before p mask start (suc k) =
    pick (carries p (k + 1)) (register_after (rows_of_slot p (k + 1)) mask (register_before p mask start k)) (register_before p mask start k)

-- the state before slot k + 1: "It starts from plan and settings at slot 1"
abbrev pub state_before : Plan → ℕ → ℕ → ℕ → FrameState
state_before p mask start k = state_at p mask start (k + 1) (register_before p mask start k)

-- "slot s in its own part starting at octet 5,610 × (s − 1)"
abbrev pub slot_in : List ℕ → ℕ → List ℕ
slot_in area k = part (slot_octets * k) (slot_octets * (k + 1)) area

-- the header and data octets of slot s; a dummy has none
unfoldable pub octets_of_slot : Plan → ℕ → ℕ
octets_of_slot p s = pick (carries p s) (source_octets (rows_of_slot p s)) 0

-- "In the other area the data slots lie end to end": where the header and data octets of slot k + 1 begin
unfoldable pub source_from : Plan → ℕ → ℕ
source_from p k = sum k (λ i. octets_of_slot p (i + 1))

abbrev pub source_in : Plan → List ℕ → ℕ → List ℕ
source_in p area k = part (source_from p k) (source_from p (k + 1)) area

-- the coded frame, from all header and data octets, in an area with what was found in it
unfoldable pub frame_of : Plan → List ℕ → ℕ → ℕ → List ℕ → List ℕ → List ℕ
frame_of p ts mask start source found =
    joined 120 (λ k. coded_at (state_before p mask start k) ts (source_in p source k) (slot_in found k))

-- the 120 answer octets of a received frame: "one for each slot"
unfoldable pub answers_of : Plan → List ℕ → ℕ → ℕ → List ℕ → List ℕ
answers_of p ts mask start frame = table 120 (λ k. answer_at (state_before p mask start k) ts (slot_in frame k))

-- "a whole-frame read puts them in 120 further octets" (document 02, N5): the stuff bits of each slot
unfoldable pub stuffs_of : Plan → List ℕ → ℕ → ℕ → List ℕ → List ℕ
stuffs_of p ts mask start frame = table 120 (λ k. stuff_at (state_before p mask start k) ts (slot_in frame k))

-- "Another lent list of 120 numbers of 16 bits takes them in the whole-frame call" (document 02, N7): the failing positions
unfoldable pub positions_of : Plan → List ℕ → ℕ → ℕ → List ℕ → List ℕ
positions_of p ts mask start frame = table 120 (λ k. position_at (state_before p mask start k) ts (slot_in frame k))

-- all header and data octets of a received frame, in an area with what was found in it
unfoldable pub sources_of : Plan → List ℕ → ℕ → ℕ → List ℕ → List ℕ → List ℕ
sources_of p ts mask start frame found =
    joined 120 (λ k. read_at (state_before p mask start k) ts (slot_in frame k) (source_in p found k))

-- "Whole frame: 1, 6, 4, 5", 1 and 6 as in opening, with the lengths of the two areas, and whether the areas that have an entry
-- for each slot are of 120
unfoldable pub whole_number : Plan → ℕ → ℕ → List ℕ → ℕ → ℕ → Bool → ℕ
whole_number p mask start ts source frame each =
    and_then (open_number p mask start)
    (and_then (pick (each && (eqb source (source_from p 120) && eqb frame frame_octets)) 0 LENGTH)
    (pick (tables_ok p ts) 0 TABLE))

-- coding has none of these
unfoldable pub frame_number : Plan → ℕ → ℕ → List ℕ → ℕ → ℕ → ℕ
frame_number p mask start ts source frame = whole_number p mask start ts source frame true

-- reading has the answers, the stuff bits and the failing positions
unfoldable pub read_frame_number : Plan → ℕ → ℕ → List ℕ → ℕ → ℕ → ℕ → ℕ → ℕ → ℕ
read_frame_number p mask start ts source frame answers stuff positions =
    whole_number p mask start ts source frame (eqb answers 120 && eqb stuff 120 && eqb positions 120)
