-- What the change requests of document 02 ask, as statements over the definitions that the contracts of the public entries
-- cite.
use Rattle.std.specs.Prelude.{◌≡◌, true, false, not, ◌&&◌, List, [], ◌∷◌, ◌++◌, ◌↔◌, ℕ, ◌+◌, ◌*◌, ◌-◌, ◌%◌, ◌/◌, ◌<◌, ◌≤◌, eqb, length, get_or, replicate}
use Rattle.lists.specs.Count.{first, table, joined}
use Rattle.refusal.specs.Numbers.{PLAN, LENGTH, VALUE, ORDER, TOTAL, PACKET}
use Rattle.parity_table.specs.Tables.{positions, row_start, table_ok}
use Rattle.ldpc.specs.Parity.{spacing, position, times}
use Rattle.ldpc.specs.Stepping.{stepped, parity_stepped}
use Rattle.ldpc.specs.Columns.{across, sum_at}
use Rattle.ldpc.specs.Needs.{AddedThrough, AddedBySteps}
use Rattle.plan.specs.declared.Plan.{Plan}
use Rattle.plan.specs.declared.FrameState.{FrameState}
use Rattle.plan.specs.Records.{of_columns, plan_in}
use Rattle.plan.specs.Rates.{rate_ok, rows_of, modulation_ok, data_octets_of}
use Rattle.plan.specs.Plans.{groups_ok, all_values_ok, all_fall, total_ok, plan_ok, plan_number}
use Rattle.plan.specs.States.{opened, passed}
use Rattle.plan_octets.specs.Groups.{of_octets}
use Rattle.plan_text.specs.Reading.{text_number, plan_of as planOfText}
use Rattle.run_list.specs.Listing.{refused_text, answer_text}
use Rattle.published.specs.Published.{copy_number}
use Rattle.packets.specs.Packets.{pack_number, unpack_number}
use Rattle.symbols.specs.Labels.{slot_number as labelsNumber, slot_of_labels_number}
use Rattle.codeword.specs.declared.Shape.{Shape}
use Rattle.codeword.specs.Words.{parity_input, with_parity}
use Rattle.codeword.specs.Reading.{run_in, parity_in, wrong_position}
use Rattle.slot.specs.Slots.{slot_shape}
use Rattle.slot.specs.Calls.{code_answer, read_answer as readSlotAnswer, check_number}
use Rattle.tmcc.specs.Blocks.{block_rows, block_shape}
use Rattle.frame.specs.Frames.{frame_number, read_frame_number}
use Rattle.lookup.specs.Lookups.{tables_number, placed}
use Rattle.tlv.specs.Packets.{packets_ok}
use Rattle.tlv.specs.Fill.{filler, none, filled, stream_begins, report, taken_after, owed_after}
use Rattle.tlv.specs.Read.{lost_slot}
use Rattle.tlv.specs.Sent.{sent_packets, sent_cut, plain_packet}
use Rattle.tlv.specs.Calls.{slots_of, slots_ok, taken_ok, fill_number, fill_answer, fill_slots, fill_begins, mark_ok, all_hold, read_ok, read_number, read_answer, read_packets, laid}

-- N1, "Every plan refused before is still refused, and no other": a plan is accepted exactly when it keeps all four rules
abbrev pub PlanAccepted : Type 0
PlanAccepted = (p : Plan) → (plan_number p ≡ 0) ↔ (plan_ok p ≡ true)

-- "Keep 1 for a wrong number of groups", and "13 value .., 14 order .., 15 total .., tested after 1 in that order over the
-- whole plan": the number of the first rule that is broken
pub record FirstBroken (p : Plan) : Type 0 where
  pub groups : groups_ok p ≡ false → plan_number p ≡ PLAN
  pub value : groups_ok p ≡ true → all_values_ok p ≡ false → plan_number p ≡ VALUE
  pub order : groups_ok p ≡ true → all_values_ok p ≡ true → all_fall p ≡ false → plan_number p ≡ ORDER
  pub total : groups_ok p ≡ true → all_values_ok p ≡ true → all_fall p ≡ true → total_ok p ≡ false → plan_number p ≡ TOTAL

abbrev pub PlanRefused : Type 0
PlanRefused = (p : Plan) → FirstBroken p

-- that every call which is handed a plan answers n: opening, whole frames, the groups' tables, and the place of a slot
pub record PlanAnswers (p : Plan) (n : ℕ) : Type 0 where
  pub opening : (mask start : ℕ) → (opened p mask start).number ≡ n
  pub code : (mask start : ℕ) (ts : List ℕ) (source frame : ℕ) → frame_number p mask start ts source frame ≡ n
  pub read : (mask start : ℕ) (ts : List ℕ) (source frame answers stuff positions : ℕ) → read_frame_number p mask start ts source frame answers stuff positions ≡ n
  pub tables : (area : List ℕ) → tables_number p area ≡ n
  pub place : (slot : ℕ) → (placed p (slot + 1)).number ≡ n

-- and every call which is handed a state
pub record StateAnswers (s : FrameState) (n : ℕ) : Type 0 where
  pub pass : (passed s).number ≡ n
  pub code : (t source coded : List ℕ) → (code_answer s t source coded).number ≡ n
  pub read : (t coded source : List ℕ) → (readSlotAnswer s t coded source).number ≡ n

-- a refused plan's number is the answer of each, whatever else is wrong
abbrev pub RefusedPlanAnswered : Type 0
RefusedPlanAnswered = (p : Plan) → (plan_number p ≡ 0 → ⊥) → PlanAnswers p (plan_number p)

abbrev pub RefusedStateAnswered : Type 0
RefusedStateAnswered = (s : FrameState) → (s.slot ≡ 0 → ⊥) → (plan_number (plan_in s) ≡ 0 → ⊥) → StateAnswers s (plan_number (plan_in s))

-- "Keep 1 for .. slot number 0"
abbrev pub SlotZeroAnswered : Type 0
SlotZeroAnswered = ((s : FrameState) → s.slot ≡ 0 → StateAnswers s PLAN) × ((p : Plan) → (placed p 0).number ≡ PLAN)

-- "or unreadable text"; "plan-list prints them too"
pub record TextAnswered (t : List ℕ) : Type 0 where
  pub unreadable : (text_number t ≡ 0 → ⊥) → answer_text t ≡ refused_text PLAN
  pub refused : text_number t ≡ 0 → (plan_number (planOfText t) ≡ 0 → ⊥) → answer_text t ≡ refused_text (plan_number (planOfText t))

abbrev pub RefusedTextPrinted : Type 0
RefusedTextPrinted = (t : List ℕ) → TextAnswered t

-- "and in lone calls": "modulation or rate unknown"
pub record LoneAnswered (m rate : ℕ) : Type 0 where
  pub table : rate_ok rate ≡ false → (area : List ℕ) → copy_number rate area ≡ PLAN
  pub pack : rate_ok rate ≡ false → (packets : List ℕ) (room : ℕ) → pack_number rate packets room ≡ PLAN
  pub unpack : rate_ok rate ≡ false → (octets : List ℕ) (room : ℕ) → unpack_number rate octets room ≡ PLAN
  pub parity : rate_ok rate ≡ false → (t coded : List ℕ) → check_number rate t coded ≡ PLAN
  pub labels : (modulation_ok m && rate_ok rate) ≡ false → (octets room : ℕ) → labelsNumber m rate octets room ≡ PLAN
  pub slot : (modulation_ok m && rate_ok rate) ≡ false → (labels : List ℕ) (room : ℕ) → slot_of_labels_number m rate labels room ≡ PLAN

abbrev pub UnknownRefused : Type 0
UnknownRefused = (m rate : ℕ) → LoneAnswered m rate

-- the number of a plan of so many groups, whose modulations, rates and slots are said one group behind the other
abbrev pub groups_number : ℕ → List ℕ → ℕ
groups_number count groups = plan_number (of_octets count groups)

-- a plan of nine groups of modulation 1, each with its rate: eight of 10 slots, and the last of so many
abbrev pub nine_groups : (ℕ → ℕ) → ℕ → Plan
nine_groups rate last = of_columns 9 (replicate 9 1) (table 9 rate) (replicate 8 10 ++ (last ∷ []))

-- THE CASES WORKED BY HAND, and plans that break each of the rules and each pair of them
pub record WorkedPlans : Type 0 where
  -- "Counts 115 + 5 accepted"
  pub accepted : groups_number 2 (4 ∷ 7 ∷ 115 ∷ 2 ∷ 3 ∷ 5 ∷ []) ≡ 0
  -- "So 115 alone is now 15, and 116 + 4 is 13"
  pub alone : groups_number 1 (4 ∷ 7 ∷ 115 ∷ []) ≡ TOTAL
  pub no_fives : groups_number 2 (4 ∷ 7 ∷ 116 ∷ 2 ∷ 3 ∷ 4 ∷ []) ≡ VALUE
  -- groups that rise
  pub rising : groups_number 2 (2 ∷ 3 ∷ 5 ∷ 4 ∷ 7 ∷ 115 ∷ []) ≡ ORDER
  -- "Nine groups 1", as columns of nine, and as a count above columns of eight
  pub nine : plan_number (nine_groups (λ g. 9 - g) 40) ≡ PLAN
  pub nine_lent : groups_number 9 (joined 8 (λ g. 1 ∷ (9 - g) ∷ 15 ∷ [])) ≡ PLAN
  -- nine groups with rate 12, that rise, of 125 slots
  pub nine_value : plan_number (nine_groups (λ g. 12 - g) 40) ≡ PLAN
  pub nine_order : plan_number (nine_groups (λ g. 1 + g) 40) ≡ PLAN
  pub nine_total : plan_number (nine_groups (λ g. 9 - g) 45) ≡ PLAN
  -- 4 + 116 that rise, rate 12 in 115 slots, groups that rise to 115 slots
  pub value_order : groups_number 2 (2 ∷ 3 ∷ 4 ∷ 4 ∷ 7 ∷ 116 ∷ []) ≡ VALUE
  pub value_total : groups_number 1 (4 ∷ 12 ∷ 115 ∷ []) ≡ VALUE
  pub order_total : groups_number 2 (2 ∷ 3 ∷ 5 ∷ 4 ∷ 7 ∷ 110 ∷ []) ≡ ORDER

-- N2, the numbers of filling in their order: "none is 4", "Taken above the length, owed above 3, or any owed unless taken is 0 or
-- the whole length, is 4", "Refused: 16 packet ..; tested after 4"
pub record FillRefused (rate : ℕ) (packets : List ℕ) (taken owed : ℕ) (slots begins : List ℕ) : Type 0 where
  pub unknown : rate_ok rate ≡ false → fill_number rate packets taken owed slots begins ≡ PLAN
  pub lent :
      rate_ok rate ≡ true
      → (slots_ok (data_octets_of rate) (length slots) (length begins) && taken_ok (length packets) taken owed) ≡ false
      → fill_number rate packets taken owed slots begins ≡ LENGTH
  pub packet :
      rate_ok rate ≡ true
      → (slots_ok (data_octets_of rate) (length slots) (length begins) && taken_ok (length packets) taken owed) ≡ true
      → packets_ok packets ≡ false
      → fill_number rate packets taken owed slots begins ≡ PACKET

-- those of reading: "none is 4, in reading too", "A report or first octet past its slot and not 65535, or another mark, is 4",
-- "reading never gives 16"
pub record ReadRefused (rate : ℕ) (slots begins lost : List ℕ) (f area : ℕ) : Type 0 where
  pub unknown : rate_ok rate ≡ false → read_number rate slots begins lost f area ≡ PLAN
  pub lent : rate_ok rate ≡ true → read_ok (data_octets_of rate) (length slots) begins lost f area ≡ false → read_number rate slots begins lost f area ≡ LENGTH
  pub never : read_number rate slots begins lost f area ≡ PACKET → ⊥

abbrev pub TlvRefused : Type 0
TlvRefused =
    ((rate : ℕ) (packets : List ℕ) (taken owed : ℕ) (slots begins : List ℕ) → FillRefused rate packets taken owed slots begins)
    × ((rate : ℕ) (slots begins lost : List ℕ) (f area : ℕ) → ReadRefused rate slots begins lost f area)

-- "One stream fills all data slots of one group, packets end to end across slots and frames", "the last one carried on into the
-- next slot", "how many octets were taken in all and how many of a cut filler are owed": a second call that is given what the
-- first told is never refused, and both fill as one call does
pub record OneFilling (rate : ℕ) (packets : List ℕ) (taken owed : ℕ) (slots begins further reports : List ℕ) (t w : ℕ) : Type 0 where
  pub second : fill_number rate packets t w further reports ≡ 0
  pub once : fill_number rate packets taken owed (slots ++ further) (begins ++ reports) ≡ 0
  pub octets :
      fill_slots rate packets taken owed (slots ++ further) (begins ++ reports)
      ≡ fill_slots rate packets taken owed slots begins ++ fill_slots rate packets t w further reports
  pub places :
      fill_begins rate packets taken owed (slots ++ further) (begins ++ reports)
      ≡ fill_begins rate packets taken owed slots begins ++ fill_begins rate packets t w further reports
  pub numbers : fill_answer rate packets taken owed (slots ++ further) (begins ++ reports) ≡ fill_answer rate packets t w further reports

abbrev pub FilledInTwo : Type 0
FilledInTwo =
    (rate : ℕ) (packets : List ℕ) (taken owed : ℕ) (slots begins further reports : List ℕ)
    → fill_number rate packets taken owed slots begins ≡ 0
    → slots_ok (data_octets_of rate) (length further) (length reports) ≡ true
    → OneFilling rate packets taken owed slots begins further reports
    (fill_answer rate packets taken owed slots begins).taken (fill_answer rate packets taken owed slots begins).owed

-- what a monitor has of slots that were filled: a mark for each, the filled octets in those that are not lost, any in the
-- others, and 65535 or slot 0's report as the first octet to read
pub record Monitored (rate : ℕ) (packets : List ℕ) (taken owed : ℕ) (slots begins lost received : List ℕ) (f : ℕ) (area : List ℕ) : Type 0 where
  pub filled : fill_number rate packets taken owed slots begins ≡ 0
  pub marks : length lost ≡ length begins
  pub marked : all_hold mark_ok lost ≡ true
  pub long : length received ≡ length slots
  pub sound :
      (i : ℕ) → i < length slots → lost_slot lost (i / data_octets_of rate) ≡ false
      → get_or received i 0 ≡ get_or (fill_slots rate packets taken owed slots begins) i 0
  pub from : (f ≡ none → ⊥) → f ≡ get_or (fill_begins rate packets taken owed slots begins) 0 0
  pub room : length area ≡ length slots

-- "Reading returns the packets in order without empty nulls, the caller's own included", "whole ones only, the rest left as found",
-- "After a lost slot it drops the broken packet and goes on at the next reported beginning", "it says how many octets it wrote and
-- where .. an unfinished last packet or null begins": exactly the packets that touch no lost slot, and the one that is cut
pub record Arrived (rate : ℕ) (packets : List ℕ) (taken owed : ℕ) (slots begins lost received : List ℕ) (f : ℕ) (area : List ℕ) : Type 0 where
  pub answer :
      read_answer rate received (fill_begins rate packets taken owed slots begins) lost f area
      ≡ record {
        number = 0;
        written = length (sent_packets (data_octets_of rate) (slots_of rate slots) lost packets taken owed);
        unfinished = sent_cut (data_octets_of rate) (slots_of rate slots) lost packets taken owed;
      }
  pub packets_area :
      read_packets rate received (fill_begins rate packets taken owed slots begins) lost f area
      ≡ laid (sent_packets (data_octets_of rate) (slots_of rate slots) lost packets taken owed) area

abbrev pub FilledRead : Type 0
FilledRead =
    (rate : ℕ) (packets : List ℕ) (taken owed : ℕ) (slots begins lost received : List ℕ) (f : ℕ) (area : List ℕ)
    → Monitored rate packets taken owed slots begins lost received f area
    → Arrived rate packets taken owed slots begins lost received f area

-- without a lost slot, and with room for all of them, these are all packets that were not taken before and are no empty nulls
abbrev pub AllArrive : Type 0
AllArrive =
    (rate : ℕ) (packets : List ℕ) (taken owed : ℕ) (slots begins lost : List ℕ)
    → fill_number rate packets taken owed slots begins ≡ 0
    → ((k : ℕ) → k < length begins → lost_slot lost k ≡ false)
    → owed + (length packets - taken) ≤ length slots
    → sent_packets (data_octets_of rate) (slots_of rate slots) lost packets taken owed ≡ joined (length packets) (plain_packet packets taken)

-- a lost slot is never looked at: octets and reports that differ in lost slots alone change no answer
abbrev pub LostUnseen : Type 0
LostUnseen =
    (rate : ℕ) (slots others begins told lost : List ℕ) (f : ℕ) (area : List ℕ)
    → read_number rate slots begins lost f (length area) ≡ 0
    → read_number rate others told lost f (length area) ≡ 0
    → ((i : ℕ) → i < length slots → lost_slot lost (i / data_octets_of rate) ≡ false → get_or slots i 0 ≡ get_or others i 0)
    → ((k : ℕ) → k < length begins → lost_slot lost k ≡ false → get_or begins k 0 ≡ get_or told k 0)
    → (read_answer rate slots begins lost f area ≡ read_answer rate others told lost f area)
    × (read_packets rate slots begins lost f area ≡ read_packets rate others told lost f area)

-- fillers by hand, in slots of six octets: "7F FF 00 00", cut behind two octets and carried on, which is no beginning; and an
-- empty null that is lent, which is one
pub record WorkedFillers : Type 0 where
  pub fillers : filled [] 0 0 6 ≡ 0x7F ∷ 0xFF ∷ 0x00 ∷ 0x00 ∷ 0x7F ∷ 0xFF ∷ []
  pub owed : owed_after [] 0 0 6 ≡ 2
  pub carried : filled [] 0 2 6 ≡ 0x00 ∷ 0x00 ∷ 0x7F ∷ 0xFF ∷ 0x00 ∷ 0x00 ∷ []
  pub carried_report : report 6 (stream_begins [] 0 2) 0 ≡ 2
  pub lent_report : report 6 (stream_begins filler 0 0) 0 ≡ 0
  pub taken : taken_after filler 0 0 6 ≡ 4

-- N3, what a row's bits that are added through an address do to the sums: bit n is added at document 01's position, and nothing
-- is anywhere else
pub record AddedWhere (rows a : ℕ) (row found columns : List ℕ) : Type 0 where
  pub there :
      (n : ℕ) → n < 374
      → sum_at (spacing rows) columns (position rows a n) % 2 ≡ (sum_at (spacing rows) found (position rows a n) + get_or row n 0) % 2
  pub elsewhere :
      (p : ℕ) → p < positions rows → ((n : ℕ) → n < 374 → position rows a n ≡ p → ⊥)
      → sum_at (spacing rows) columns p % 2 ≡ sum_at (spacing rows) found p % 2

-- "Show that each position stepped to is document 01's": through an address, and what is added there
pub record SteppedThrough (rows a : ℕ) : Type 0 where
  pub each : (n : ℕ) → stepped (spacing rows) (positions rows) a n ≡ position rows a n
  pub adds :
      (row found columns : List ℕ) → length found ≡ positions rows → AddedThrough (spacing rows) a row found columns
      → AddedWhere rows a row found columns
  -- in the columns a step is to the place behind, and behind the last place of the column to its first
  pub place : (n : ℕ) → across 374 (spacing rows) (stepped (spacing rows) (positions rows) a n) ≡ 374 * (a % spacing rows) + stepped 1 374 (a / spacing rows) n
  -- a step for each of a row's 374 bits leads back to the address
  pub round : stepped (spacing rows) (positions rows) a 374 ≡ a

-- "step by q and subtract M when it is reached, in coding and checking": of words of one shape, under a table
pub record WordStepped (F : Shape) (t : List ℕ) : Type 0 where
  -- every address of every row
  pub addresses : (r i : ℕ) → r < F.rows → i < get_or t (row_start t r) 0 → SteppedThrough F.rows (get_or t (row_start t r + 1 + i) 0)
  -- what the coder and the check leave in the columns: the sum of each position has what document 01 adds there
  pub sums :
      (u found columns : List ℕ) → length found ≡ positions F.rows → AddedBySteps F.rows t u found columns
      → (p : ℕ) → p < positions F.rows
      → sum_at (spacing F.rows) columns p % 2 ≡ (sum_at (spacing F.rows) found p + times F.rows t u p) % 2
  -- the parity that is sent, and the position that the check answers
  pub coded : (d : List ℕ) → with_parity F t d ≡ d ++ parity_stepped F.rows t (parity_input F d)
  pub checked :
      (c : List ℕ)
      → wrong_position F t c
      ≡ first (positions F.rows) (λ j. not (eqb (get_or (parity_stepped F.rows t (parity_input F (run_in F c))) j 0) (get_or (parity_in F c) j 0)))

-- "for every accepted table", "TMCC too": slots of every rate, and TMCC blocks
abbrev pub PositionsStepped : Type 0
PositionsStepped =
    ((rate : ℕ) (t : List ℕ) → table_ok (rows_of rate) t ≡ true → WordStepped (slot_shape (rows_of rate)) t)
    × ((t : List ℕ) → table_ok block_rows t ≡ true → WordStepped block_shape t)
