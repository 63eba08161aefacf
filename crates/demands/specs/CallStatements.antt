-- What holds of every call: which numbers it answers (document 01, "Refusal list", as document 02 amends it), and where the calls
-- on a state lead (document 01, "Plan and place").
use Rattle.std.specs.Prelude.{◌≡◌, Bool, true, false, ◌||◌, List, [], ◌∷◌, ◌++◌, ℕ, ◌+◌, ◌<◌, ◌≤◌, eqb, Float, get_or}
use Rattle.refusal.specs.Numbers.{PLAN, DUMMY, FULL, LENGTH, TABLE, REGISTER, SYNC, PARITY, BCH, TAIL, LABEL, VALUE, ORDER, TOTAL, PACKET, BLOCK, COORDINATE}
use Rattle.plan.specs.declared.Plan.{Plan}
use Rattle.plan.specs.declared.FrameState.{FrameState}
use Rattle.plan.specs.States.{opened, passed}
use Rattle.plan_text.specs.Reading.{plan_read}
use Rattle.run_list.specs.Listing.{listed}
use Rattle.published.specs.Published.{copy_number}
use Rattle.packets.specs.Packets.{pack_number, unpack_number}
use Rattle.symbols.specs.Labels.{slot_number as labelsNumber, slot_of_labels_number, block_number as blockLabelsNumber, block_of_labels_number}
use Rattle.points.specs.Numbers.{point_number, arranged_number, points_number, step_answer}
use Rattle.tlv.specs.Calls.{fill_number, read_number as readTlvNumber}
use Rattle.setting_block.specs.declared.Registers.{Registers}
use Rattle.settings.specs.Cards.{read_number as readSettingsNumber, replace_number}
use Rattle.slot.specs.Slots.{slot_of}
use Rattle.slot.specs.Reading.{MovesOn}
use Rattle.slot.specs.Calls.{code_answer, code_area, read_answer, check_number}
use Rattle.tmcc.specs.Calls.{code_number, read_number as readBlockNumber}
use Rattle.frame.specs.Frames.{rows_of_slot, register_before, state_before, answers_of, frame_number, read_frame_number}
use Rattle.lookup.specs.Lookups.{placed, tables_number}

-- n stands in a list
abbrev pub among : List ℕ → ℕ → Bool
among [] n = false
among (x ∷ xs) n = eqb n x || among xs n

-- document 02, N1: those of a plan, "tested after 1 in that order"
abbrev pub plan_numbers : List ℕ
plan_numbers = PLAN ∷ VALUE ∷ ORDER ∷ TOTAL ∷ []

-- those of a state: "1, 6 .., 3, 2"
abbrev pub state_numbers : List ℕ
state_numbers = plan_numbers ++ (REGISTER ∷ FULL ∷ DUMMY ∷ [])

-- that P holds of every call: of the refusals that are listed for it, and of the number that it answers
pub record EveryCall (P : List ℕ → ℕ → Type 0) : Type 0 where
  -- "Opening: 1, 6"
  pub opening : (p : Plan) (mask start : ℕ) → P (plan_numbers ++ (REGISTER ∷ [])) (opened p mask start).number
  -- "Slot calls: 1, 6 .., 3, 2, 4, 5, and in reading 8, 9"; passing is lent nothing
  pub pass : (s : FrameState) → P state_numbers (passed s).number
  pub code_slot : (s : FrameState) (t source coded : List ℕ) → P (state_numbers ++ (LENGTH ∷ TABLE ∷ [])) (code_answer s t source coded).number
  pub read_slot : (s : FrameState) (t coded source : List ℕ) → P (state_numbers ++ (LENGTH ∷ TABLE ∷ PARITY ∷ BCH ∷ [])) (read_answer s t coded source).number
  -- "Packing: 1, 4, 7. Unpacking: 1, 4."
  pub pack : (rate : ℕ) (packets : List ℕ) (room : ℕ) → P (PLAN ∷ LENGTH ∷ SYNC ∷ []) (pack_number rate packets room)
  pub unpack : (rate : ℕ) (octets : List ℕ) (room : ℕ) → P (PLAN ∷ LENGTH ∷ []) (unpack_number rate octets room)
  -- "Lone parity check: 1, 4, 5, 8."
  pub check_parity : (rate : ℕ) (t coded : List ℕ) → P (PLAN ∷ LENGTH ∷ TABLE ∷ PARITY ∷ []) (check_number rate t coded)
  -- "Whole frame: 1, 6, 4, 5; 8 to 10 go into the answer octets only", with 2 for a dummy
  pub code_frame : (p : Plan) (mask start : ℕ) (ts : List ℕ) (source frame : ℕ) → P (plan_numbers ++ (REGISTER ∷ LENGTH ∷ TABLE ∷ [])) (frame_number p mask start ts source frame)
  pub read_frame : (p : Plan) (mask start : ℕ) (ts : List ℕ) (source frame answers stuff positions : ℕ)
      → P (plan_numbers ++ (REGISTER ∷ LENGTH ∷ TABLE ∷ [])) (read_frame_number p mask start ts source frame answers stuff positions)
  pub answer_octet : (p : Plan) (ts : List ℕ) (mask start : ℕ) (frame : List ℕ) (k : ℕ) → k < 120
      → P (DUMMY ∷ PARITY ∷ BCH ∷ []) (get_or (answers_of p ts mask start frame) k 0)
  -- "TMCC: 6, 4, 5, then 11, or 8, 9."
  pub code_block : (mask start : ℕ) (t source block : List ℕ) → P (REGISTER ∷ LENGTH ∷ TABLE ∷ TAIL ∷ []) (code_number mask start t source block)
  pub read_block : (mask start : ℕ) (t block source : List ℕ) → P (REGISTER ∷ LENGTH ∷ TABLE ∷ PARITY ∷ BCH ∷ []) (readBlockNumber mask start t block source)
  -- "Symbols: 1, 4, 12."; of a block "calls of their own both ways that refuse 4, then 12"
  pub labels : (m rate octets room : ℕ) → P (PLAN ∷ LENGTH ∷ []) (labelsNumber m rate octets room)
  pub slot_of_labels_law : (m rate : ℕ) (labels : List ℕ) (room : ℕ) → P (PLAN ∷ LENGTH ∷ LABEL ∷ []) (slot_of_labels_number m rate labels room)
  pub block_labels_law : (octets room : ℕ) → P (LENGTH ∷ []) (blockLabelsNumber octets room)
  pub block_of_labels_law : (labels : List ℕ) (room : ℕ) → P (LENGTH ∷ LABEL ∷ []) (block_of_labels_number labels room)
  -- what is asked of a plan or a rate alone, and plan-list's text
  pub place : (p : Plan) (slot : ℕ) → P (plan_numbers ++ (FULL ∷ [])) (placed p slot).number
  pub tables : (p : Plan) (area : List ℕ) → P (plan_numbers ++ (LENGTH ∷ [])) (tables_number p area)
  pub table : (rate : ℕ) (area : List ℕ) → P (PLAN ∷ LENGTH ∷ []) (copy_number rate area)
  pub text : (t : List ℕ) → P plan_numbers (plan_read t).number
  pub list : (p : Plan) → P plan_numbers (listed p).number
  -- document 02, N2: "Refused: 16 packet ..; tested after 4"; "reading never gives 16"
  pub fill : (rate : ℕ) (packets : List ℕ) (taken owed : ℕ) (slots begins : List ℕ) → P (PLAN ∷ LENGTH ∷ PACKET ∷ []) (fill_number rate packets taken owed slots begins)
  pub read_tlv : (rate : ℕ) (slots begins lost : List ℕ) (first area : ℕ) → P (PLAN ∷ LENGTH ∷ []) (readTlvNumber rate slots begins lost first area)
  -- N4: "17 block .., tested after 4 and before the plan and register checks"
  pub read_settings : (card : List ℕ) (n : ℕ) → P (LENGTH ∷ BLOCK ∷ (plan_numbers ++ (REGISTER ∷ []))) (readSettingsNumber card n)
  pub replace_settings : (octets n : ℕ) (p : Plan) (r : Registers) → P (LENGTH ∷ BLOCK ∷ (plan_numbers ++ (REGISTER ∷ []))) (replace_number octets n p r)
  -- N6: "the order is 1, 6, 4, 12, 18"; 6 where there is a register, and stepping it is "refusing only 6"
  pub point : (m label symbol : ℕ) (ins quads : List Float) → P (PLAN ∷ LENGTH ∷ LABEL ∷ COORDINATE ∷ []) (point_number m label symbol ins quads)
  pub arranged_point : (m label symbol : ℕ) (ins quads : List Float) (mask register : ℕ)
      → P (PLAN ∷ REGISTER ∷ LENGTH ∷ LABEL ∷ COORDINATE ∷ []) (arranged_number m label symbol ins quads mask register)
  pub arranged_step : (mask register : ℕ) → P (REGISTER ∷ []) (step_answer mask register).number
  pub points : (m symbol : ℕ) (labels : List ℕ) (ins quads : List Float) (i q : ℕ) → P (PLAN ∷ LENGTH ∷ LABEL ∷ COORDINATE ∷ []) (points_number m symbol labels ins quads i q)

-- the number is 0 or one of these
abbrev pub Own : List ℕ → ℕ → Type 0
Own ns n = among (0 ∷ ns) n ≡ true

-- "0 is accepted, and is the result whenever no condition listed for that call holds": every call answers 0 or a number that is
-- listed for it, and no other
abbrev pub OwnNumbers : Type 0
OwnNumbers = EveryCall Own

-- "Coding or reading a data slot, or passing a dummy, moves on by one": from the state s to the state `next`, whatever table and
-- areas are lent; a reading with 0 and, as for a good slot, with 8 or 9
pub record MovesTo (s next : FrameState) : Type 0 where
  pub coding : (t source area : List ℕ) → (code_answer s t source area).number ≡ 0 → (code_answer s t source area).state ≡ next
  pub reading : (t received area : List ℕ) → MovesOn (read_answer s t received area).number → (read_answer s t received area).state ≡ next
  pub passing : (passed s).number ≡ 0 → (passed s).state ≡ next

-- "A refusal changes .. no state handed in, save that 8, 9 .. move the slot reader on one place"
pub record Stays (s : FrameState) : Type 0 where
  pub coding : (t source area : List ℕ) → ((code_answer s t source area).number ≡ 0 → ⊥) → (code_answer s t source area).state ≡ s
  pub reading : (t received area : List ℕ) → (MovesOn (read_answer s t received area).number → ⊥) → (read_answer s t received area).state ≡ s
  pub passing : ((passed s).number ≡ 0 → ⊥) → (passed s).state ≡ s

-- a state that no call refuses for its plan or its register: of a state's numbers, 3 and 2 alone
pub record NotRefused (s : FrameState) : Type 0 where
  pub coding : (t source area : List ℕ) → Own (FULL ∷ DUMMY ∷ LENGTH ∷ TABLE ∷ []) (code_answer s t source area).number
  pub reading : (t received area : List ℕ) → Own (FULL ∷ DUMMY ∷ LENGTH ∷ TABLE ∷ PARITY ∷ BCH ∷ []) (read_answer s t received area).number
  pub passing : Own (FULL ∷ DUMMY ∷ []) (passed s).number

-- "states that came from opening and the calls since give the Ministry's frame": opening gives the state before slot 1; from the
-- state before slot k + 1 the calls lead to the one before slot k + 2, or leave it; what is coded there is slot k + 1 of the frame;
-- and no such state, nor the full one, is refused for its plan or its register
pub record Walk (p : Plan) (mask start : ℕ) : Type 0 where
  pub begins : (opened p mask start).state ≡ state_before p mask start 0
  pub moves : (k : ℕ) → k < 120 → MovesTo (state_before p mask start k) (state_before p mask start (k + 1))
  pub stays : (k : ℕ) → k ≤ 120 → Stays (state_before p mask start k)
  pub codes : (k : ℕ) → k < 120 → (t source area : List ℕ) → (code_answer (state_before p mask start k) t source area).number ≡ 0
      → code_area (state_before p mask start k) t source area ≡ slot_of (rows_of_slot p (k + 1)) t mask (register_before p mask start k) source
  pub sound : (k : ℕ) → k ≤ 120 → NotRefused (state_before p mask start k)

abbrev pub AnyWalk : Type 0
AnyWalk = (p : Plan) (mask start : ℕ) → (opened p mask start).number ≡ 0 → Walk p mask start
