-- The numbers that calls answer, proved: each under any property of the numbers listed for it.
use Rattle.std.specs.Prelude.{◌≡◌, Bool, ◌&&◌, leb, Float, length, get_or}
use Rattle.std.proofs.Math.Path.{refl}
use Rattle.std.proofs.Math.Bool.{true, false}
use mathlib.Core.List.{List, [], ◌∷◌, ◌++◌}
use Prim.Native.Nat.{ℕ, ◌+◌, ◌*◌, ◌/◌, ◌^◌, ◌<◌}
use Rattle.std.proofs.Math.Dec.{eqb, ltb}
use Rattle.lists.specs.Choice.{pick}
use Rattle.lists.specs.Count.{every}
use Rattle.lists.specs.ChoiceLaws.{pick_each, then_each, clash}
use Rattle.refusal.specs.Numbers.{PLAN, DUMMY, FULL, LENGTH, TABLE, REGISTER, SYNC, PARITY, BCH, TAIL, LABEL, VALUE, ORDER, TOTAL, PACKET, BLOCK, COORDINATE}
use Rattle.dispersal.specs.Register.{step, register_ok, settings_ok}
use Rattle.parity_table.specs.Tables.{positions, table_ok}
use Rattle.plan.specs.declared.Plan.{Plan}
use Rattle.plan.specs.declared.FrameState.{FrameState}
use Rattle.plan.specs.Sizes.{slot_width, slot_octets, frame_octets, block_width, block_octets}
use Rattle.plan.specs.Records.{plan_in}
use Rattle.plan.specs.Rates.{rate_ok, modulation_ok, rows_of, packets_of, data_octets_of, symbols_of}
use Rattle.plan.specs.Plans.{plan_number}
use Rattle.plan.proofs.PlanLaws.{plan_each}
use Rattle.plan.specs.Places.{carries}
use Rattle.plan.specs.States.{open_number, opened, sound_number, state_number, pass_number, passed}
use Rattle.plan_text.specs.Reading.{line_start, lines_of, text_number, plan_of, plan_read, read_number as readTextNumber}
use Rattle.run_list.specs.Listing.{listed}
use Rattle.published.specs.Published.{table_of, copy_number}
use Rattle.packets.specs.Packets.{begins_sync, size_number, pack_number, unpack_number}
use Rattle.symbols.specs.Labels.{block_labels, length_number, label_number, slot_number as labelsNumber, slot_of_labels_number, block_number as blockLabelsNumber, block_of_labels_number}
use Rattle.points.specs.declared.StepAnswer.{StepAnswer}
use Rattle.points.specs.Points.{arranged_width, used_ok}
use Rattle.points.specs.Numbers.{lent_ok, lent_number as pointsLentNumber, mapped_number, used_number, point_number, arranged_number, room_ok, points_number, step_answer}
use Rattle.tlv.specs.Packets.{packets_ok}
use Rattle.tlv.specs.Calls.{slots_ok, taken_ok, fill_lent, fill_number, read_ok, read_number as readTlvNumber}
use Rattle.setting_block.specs.declared.Registers.{Registers}
use Rattle.setting_block.specs.Layout.{setting_octets, edition}
use Rattle.setting_block.specs.Blocks.{plan_in as settingPlan, registers_in, block_ok, registers_ok, setting_number, block_number}
use Rattle.settings.specs.Cards.{card_ok, card_number, block_at, read_number as readSettingsNumber, replace_number}
use Rattle.codeword.specs.declared.Shape.{Shape}
use Rattle.codeword.specs.Calls.{lent_number as wordLentNumber}
use Rattle.codeword.specs.Reading.{taken_off, wrong_position, parity_number, bch_right, checks_number, word_number}
use Rattle.slot.specs.Slots.{source_octets, slot_shape}
use Rattle.slot.specs.Reading.{received_number, checked_number}
use Rattle.slot.specs.Calls.{rows_at, data_number, slot_number, code_answer, read_number as readSlotNumber, read_answer, form_number, check_number}
use Rattle.tmcc.specs.Blocks.{source_octets as tmccOctets, block_shape}
use Rattle.tmcc.specs.Calls.{tail_ok, lent_number as blockLentNumber, code_number, read_number as readBlockNumber}
use Rattle.frame.specs.Tables.{tables_ok}
use Rattle.frame.specs.Steps.{table_at, answer_at}
use Rattle.frame.specs.Frames.{state_before, slot_in, source_from, answers_of, whole_number, frame_number, read_frame_number}
use Rattle.frame.proofs.FrameLaws.{answer_at_law}
use Rattle.lookup.specs.Lookups.{tables_of, place_number, placed, tables_number}
use Rattle.demands.specs.CallStatements.{among, plan_numbers, state_numbers, EveryCall, Own, OwnNumbers}

-- the numbers of which calls are made up, under any property Q that holds of 0 and of their refusals
module _ (Q : ℕ → Type 0) (z : Q 0) where
  pub test : (b : Bool) (n : ℕ) → Q n → Q (pick b 0 n)
  test b n h = pick_each Q b z h

  pub lent_each : Q LENGTH → Q TABLE → (F : Shape) (n : ℕ) (t source coded : List ℕ) → Q (wordLentNumber F n t source coded)
  unfolding wordLentNumber
  lent_each l e F n t source coded =
      then_each Q (test (eqb (length source) n && eqb (length coded) F.octets) LENGTH l) (test (table_ok F.rows t) TABLE e)

  parity_each : Q PARITY → (F : Shape) (wrong : ℕ) → Q (parity_number F wrong)
  unfolding parity_number
  parity_each h F wrong = test (eqb wrong (positions F.rows)) PARITY h

  pub word_each : Q PARITY → Q BCH → (F : Shape) (t : List ℕ) (mask r : ℕ) (c : List ℕ) → Q (word_number F t mask r c)
  unfolding word_number checks_number
  word_each h b F t mask r c = then_each Q (parity_each h F (wrong_position F t c)) (test (bch_right F (taken_off F mask r c)) BCH b)

  size_each : Q PLAN → Q LENGTH → (rate packets octets : ℕ) → Q (size_number rate packets octets)
  unfolding size_number
  size_each p l rate packets octets =
      then_each Q (test (rate_ok rate) PLAN p) (test (eqb packets (188 * packets_of rate) && eqb octets (data_octets_of rate)) LENGTH l)

  long_each : Q LENGTH → (n s octets labels : ℕ) → Q (length_number n s octets labels)
  unfolding length_number
  long_each l n s octets labels = test (eqb octets n && eqb labels s) LENGTH l

  label_each : Q LABEL → (m : ℕ) (labels : List ℕ) → Q (label_number m labels)
  unfolding label_number
  label_each l m labels = test (every (length labels) (λ r. ltb (get_or labels r 0) (2 ^ m))) LABEL l

  points_each : Q PLAN → Q REGISTER → Q LENGTH → (m : ℕ) (register lent : Bool) → Q (pointsLentNumber m register lent)
  unfolding pointsLentNumber
  points_each p r l m register lent = then_each Q (test (modulation_ok m) PLAN p) (then_each Q (test register REGISTER r) (test lent LENGTH l))

  points_lent : Q PLAN → Q LENGTH → (m : ℕ) (lent : Bool) → Q (pointsLentNumber m true lent)
  unfolding pointsLentNumber
  points_lent p l m lent = then_each Q (test (modulation_ok m) PLAN p) (test lent LENGTH l)

-- those of a plan, whatever else is listed for the call
plan_own : (Q : ℕ → Type 0) (rest : List ℕ) → ((n : ℕ) → among (0 ∷ (plan_numbers ++ rest)) n ≡ true → Q n) → (p : Plan) → Q (plan_number p)
plan_own Q rest y = plan_each Q (y 0 refl) (y PLAN refl) (y VALUE refl) (y ORDER refl) (y TOTAL refl)

-- opening's
open_own : (Q : ℕ → Type 0) (rest : List ℕ) → ((n : ℕ) → among (0 ∷ (plan_numbers ++ (REGISTER ∷ rest))) n ≡ true → Q n) → (p : Plan) (mask start : ℕ) → Q (open_number p mask start)
unfolding open_number
open_own Q rest y p mask start = then_each Q (plan_own Q (REGISTER ∷ rest) y p) (test Q (y 0 refl) (settings_ok slot_width mask start) REGISTER (y REGISTER refl))

-- and those of a state: "1, 6 .., 3"
state_own : (Q : ℕ → Type 0) (rest : List ℕ) → ((n : ℕ) → among (0 ∷ (state_numbers ++ rest)) n ≡ true → Q n) → (s : FrameState) → Q (state_number s)
unfolding state_number sound_number
state_own Q rest y s =
    then_each Q
    (then_each Q (pick_each Q (eqb s.slot 0) (y PLAN refl) (y 0 refl))
    (then_each Q (plan_own Q (REGISTER ∷ FULL ∷ DUMMY ∷ rest) y (plan_in s)) (test Q (y 0 refl) (settings_ok slot_width s.mask s.start && register_ok slot_width s.register) REGISTER (y REGISTER refl))))
    (test Q (y 0 refl) (leb s.slot 120) FULL (y FULL refl))

-- of a slot call: ", 2, 4, 5"
slot_own : (Q : ℕ → Type 0) (rest : List ℕ) → ((n : ℕ) → among (0 ∷ (state_numbers ++ (LENGTH ∷ TABLE ∷ rest))) n ≡ true → Q n)
    → (s : FrameState) (t source coded : List ℕ) → Q (slot_number s t source coded)
unfolding slot_number data_number
slot_own Q rest y s t source coded =
    then_each Q
    (then_each Q (state_own Q (LENGTH ∷ TABLE ∷ rest) y s) (test Q (y 0 refl) (carries (plan_in s) s.slot) DUMMY (y DUMMY refl)))
    (lent_each Q (y 0 refl) (y LENGTH refl) (y TABLE refl) (slot_shape (rows_at s)) (source_octets (rows_at s)) t source coded)

-- every call has a property that holds of each number listed for it: the numbers listed do not have 10
module _ (P : List ℕ → ℕ → Type 0) (own : (ns : List ℕ) (n : ℕ) → among (0 ∷ ns) n ≡ true → among ns 10 ≡ false → P ns n) where
  whole_each : (p : Plan) (mask start : ℕ) (ts : List ℕ) (source frame : ℕ) (each : Bool)
      → (let ns = plan_numbers ++ (REGISTER ∷ LENGTH ∷ TABLE ∷ []) in P ns (whole_number p mask start ts source frame each))
  unfolding whole_number
  whole_each p mask start ts source frame each =
      let ns : List ℕ = plan_numbers ++ (REGISTER ∷ LENGTH ∷ TABLE ∷ []) in
      let y : (n : ℕ) → among (0 ∷ ns) n ≡ true → P ns n = λ n e. own ns n e refl in
      then_each (P ns) (open_own (P ns) (LENGTH ∷ TABLE ∷ []) y p mask start)
      (then_each (P ns) (test (P ns) (y 0 refl) (each && (eqb source (source_from p 120) && eqb frame frame_octets)) LENGTH (y LENGTH refl))
      (test (P ns) (y 0 refl) (tables_ok p ts) TABLE (y TABLE refl)))

  pass_each : (s : FrameState) → P state_numbers (passed s).number
  unfolding passed pass_number
  pass_each s =
      let ns : List ℕ = state_numbers in
      let y : (n : ℕ) → among (0 ∷ ns) n ≡ true → P ns n = λ n e. own ns n e refl in
      then_each (P ns) (state_own (P ns) [] y s) (pick_each (P ns) (carries (plan_in s) s.slot) (y DUMMY refl) (y 0 refl))

  read_each : (s : FrameState) (t coded source : List ℕ) → P (state_numbers ++ (LENGTH ∷ TABLE ∷ PARITY ∷ BCH ∷ [])) (read_answer s t coded source).number
  unfolding read_answer readSlotNumber received_number
  read_each s t coded source =
      let ns : List ℕ = state_numbers ++ (LENGTH ∷ TABLE ∷ PARITY ∷ BCH ∷ []) in
      let y : (n : ℕ) → among (0 ∷ ns) n ≡ true → P ns n = λ n e. own ns n e refl in
      then_each (P ns) (slot_own (P ns) (PARITY ∷ BCH ∷ []) y s t source coded)
      (word_each (P ns) (y 0 refl) (y PARITY refl) (y BCH refl) (slot_shape (rows_at s)) t s.mask s.register coded)

  answer_each : (p : Plan) (ts : List ℕ) (mask start : ℕ) (frame : List ℕ) (k : ℕ) → k < 120 → P (DUMMY ∷ PARITY ∷ BCH ∷ []) (get_or (answers_of p ts mask start frame) k 0)
  unfolding answer_at received_number
  answer_each p ts mask start frame k h =
      let ns : List ℕ = DUMMY ∷ PARITY ∷ BCH ∷ [] in
      let y : (n : ℕ) → among (0 ∷ ns) n ≡ true → P ns n = λ n e. own ns n e refl in
      let s = state_before p mask start k in
      rw (answer_at_law p ts mask start frame k h)
      (pick_each (P ns) (carries p (k + 1)) (word_each (P ns) (y 0 refl) (y PARITY refl) (y BCH refl) (slot_shape (rows_at s)) (table_at s ts) mask s.register (slot_in frame k)) (y DUMMY refl))

  check_each : (rate : ℕ) (t coded : List ℕ) → P (PLAN ∷ LENGTH ∷ TABLE ∷ PARITY ∷ []) (check_number rate t coded)
  unfolding check_number form_number checked_number
  check_each rate t coded =
      let ns : List ℕ = PLAN ∷ LENGTH ∷ TABLE ∷ PARITY ∷ [] in
      let y : (n : ℕ) → among (0 ∷ ns) n ≡ true → P ns n = λ n e. own ns n e refl in
      let F = slot_shape (rows_of rate) in
      then_each (P ns)
      (then_each (P ns) (test (P ns) (y 0 refl) (rate_ok rate) PLAN (y PLAN refl))
      (then_each (P ns) (test (P ns) (y 0 refl) (eqb (length coded) slot_octets) LENGTH (y LENGTH refl)) (test (P ns) (y 0 refl) (table_ok (rows_of rate) t) TABLE (y TABLE refl))))
      (parity_each (P ns) (y 0 refl) (y PARITY refl) F (wrong_position F t coded))

  code_block_each : (mask start : ℕ) (t source block : List ℕ) → P (REGISTER ∷ LENGTH ∷ TABLE ∷ TAIL ∷ []) (code_number mask start t source block)
  unfolding code_number blockLentNumber
  code_block_each mask start t source block =
      let ns : List ℕ = REGISTER ∷ LENGTH ∷ TABLE ∷ TAIL ∷ [] in
      let y : (n : ℕ) → among (0 ∷ ns) n ≡ true → P ns n = λ n e. own ns n e refl in
      then_each (P ns)
      (then_each (P ns) (test (P ns) (y 0 refl) (settings_ok block_width mask start) REGISTER (y REGISTER refl)) (lent_each (P ns) (y 0 refl) (y LENGTH refl) (y TABLE refl) block_shape tmccOctets t source block))
      (test (P ns) (y 0 refl) (tail_ok source) TAIL (y TAIL refl))

  read_block_each : (mask start : ℕ) (t block source : List ℕ) → P (REGISTER ∷ LENGTH ∷ TABLE ∷ PARITY ∷ BCH ∷ []) (readBlockNumber mask start t block source)
  unfolding readBlockNumber blockLentNumber
  read_block_each mask start t block source =
      let ns : List ℕ = REGISTER ∷ LENGTH ∷ TABLE ∷ PARITY ∷ BCH ∷ [] in
      let y : (n : ℕ) → among (0 ∷ ns) n ≡ true → P ns n = λ n e. own ns n e refl in
      then_each (P ns)
      (then_each (P ns) (test (P ns) (y 0 refl) (settings_ok block_width mask start) REGISTER (y REGISTER refl)) (lent_each (P ns) (y 0 refl) (y LENGTH refl) (y TABLE refl) block_shape tmccOctets t source block))
      (word_each (P ns) (y 0 refl) (y PARITY refl) (y BCH refl) block_shape t mask start block)

  slot_of_labels_each : (m rate : ℕ) (labels : List ℕ) (room : ℕ) → P (PLAN ∷ LENGTH ∷ LABEL ∷ []) (slot_of_labels_number m rate labels room)
  unfolding slot_of_labels_number labelsNumber
  slot_of_labels_each m rate labels room =
      let ns : List ℕ = PLAN ∷ LENGTH ∷ LABEL ∷ [] in
      let y : (n : ℕ) → among (0 ∷ ns) n ≡ true → P ns n = λ n e. own ns n e refl in
      then_each (P ns)
      (then_each (P ns) (test (P ns) (y 0 refl) (modulation_ok m && rate_ok rate) PLAN (y PLAN refl)) (long_each (P ns) (y 0 refl) (y LENGTH refl) slot_octets (symbols_of m) room (length labels)))
      (label_each (P ns) (y 0 refl) (y LABEL refl) m labels)

  read_settings_each : (card : List ℕ) (n : ℕ) → P (LENGTH ∷ BLOCK ∷ (plan_numbers ++ (REGISTER ∷ []))) (readSettingsNumber card n)
  unfolding readSettingsNumber card_number block_number setting_number
  read_settings_each card n =
      let ns : List ℕ = LENGTH ∷ BLOCK ∷ (plan_numbers ++ (REGISTER ∷ [])) in
      let y : (n : ℕ) → among (0 ∷ ns) n ≡ true → P ns n = λ n e. own ns n e refl in
      let block = block_at n card in
      then_each (P ns)
      (then_each (P ns) (test (P ns) (y 0 refl) (card_ok (length card)) LENGTH (y LENGTH refl)) (test (P ns) (y 0 refl) (ltb n (length card / setting_octets)) BLOCK (y BLOCK refl)))
      (then_each (P ns) (test (P ns) (y 0 refl) (block_ok edition block) BLOCK (y BLOCK refl))
      (then_each (P ns) (plan_each (P ns) (y 0 refl) (y PLAN refl) (y VALUE refl) (y ORDER refl) (y TOTAL refl) (settingPlan edition block))
      (test (P ns) (y 0 refl) (registers_ok (registers_in edition block)) REGISTER (y REGISTER refl))))

  replace_settings_each : (octets n : ℕ) (p : Plan) (r : Registers) → P (LENGTH ∷ BLOCK ∷ (plan_numbers ++ (REGISTER ∷ []))) (replace_number octets n p r)
  unfolding replace_number card_number setting_number
  replace_settings_each octets n p r =
      let ns : List ℕ = LENGTH ∷ BLOCK ∷ (plan_numbers ++ (REGISTER ∷ [])) in
      let y : (n : ℕ) → among (0 ∷ ns) n ≡ true → P ns n = λ n e. own ns n e refl in
      then_each (P ns)
      (then_each (P ns) (test (P ns) (y 0 refl) (card_ok octets) LENGTH (y LENGTH refl)) (test (P ns) (y 0 refl) (ltb n (octets / setting_octets)) BLOCK (y BLOCK refl)))
      (then_each (P ns) (plan_each (P ns) (y 0 refl) (y PLAN refl) (y VALUE refl) (y ORDER refl) (y TOTAL refl) p)
      (test (P ns) (y 0 refl) (registers_ok r) REGISTER (y REGISTER refl)))

  arranged_each : (m label symbol : ℕ) (ins quads : List Float) (mask register : ℕ)
      → P (PLAN ∷ REGISTER ∷ LENGTH ∷ LABEL ∷ COORDINATE ∷ []) (arranged_number m label symbol ins quads mask register)
  unfolding mapped_number
  arranged_each m label symbol ins quads mask register =
      let ns : List ℕ = PLAN ∷ REGISTER ∷ LENGTH ∷ LABEL ∷ COORDINATE ∷ [] in
      let y : (n : ℕ) → among (0 ∷ ns) n ≡ true → P ns n = λ n e. own ns n e refl in
      then_each (P ns)
      (points_each (P ns) (y 0 refl) (y PLAN refl) (y REGISTER refl) (y LENGTH refl) m (settings_ok arranged_width mask register) (lent_ok m symbol (length ins) (length quads)))
      (then_each (P ns) (test (P ns) (y 0 refl) (ltb label (2 ^ m)) LABEL (y LABEL refl)) (test (P ns) (y 0 refl) (used_ok ins quads label) COORDINATE (y COORDINATE refl)))

  point_each : (m label symbol : ℕ) (ins quads : List Float) → P (PLAN ∷ LENGTH ∷ LABEL ∷ COORDINATE ∷ []) (point_number m label symbol ins quads)
  unfolding mapped_number
  point_each m label symbol ins quads =
      let ns : List ℕ = PLAN ∷ LENGTH ∷ LABEL ∷ COORDINATE ∷ [] in
      let y : (n : ℕ) → among (0 ∷ ns) n ≡ true → P ns n = λ n e. own ns n e refl in
      then_each (P ns)
      (points_lent (P ns) (y 0 refl) (y PLAN refl) (y LENGTH refl) m (lent_ok m symbol (length ins) (length quads)))
      (then_each (P ns) (test (P ns) (y 0 refl) (ltb label (2 ^ m)) LABEL (y LABEL refl)) (test (P ns) (y 0 refl) (used_ok ins quads label) COORDINATE (y COORDINATE refl)))

  points_run_each : (m symbol : ℕ) (labels : List ℕ) (ins quads : List Float) (i q : ℕ) → P (PLAN ∷ LENGTH ∷ LABEL ∷ COORDINATE ∷ []) (points_number m symbol labels ins quads i q)
  unfolding points_number used_number
  points_run_each m symbol labels ins quads i q =
      let ns : List ℕ = PLAN ∷ LENGTH ∷ LABEL ∷ COORDINATE ∷ [] in
      let y : (n : ℕ) → among (0 ∷ ns) n ≡ true → P ns n = λ n e. own ns n e refl in
      then_each (P ns)
      (points_lent (P ns) (y 0 refl) (y PLAN refl) (y LENGTH refl) m (lent_ok m symbol (length ins) (length quads) && room_ok (length labels) i q))
      (then_each (P ns) (label_each (P ns) (y 0 refl) (y LABEL refl) m labels) (test (P ns) (y 0 refl) (every (length labels) (λ r. used_ok ins quads (get_or labels r 0))) COORDINATE (y COORDINATE refl)))

  step_each : (mask register : ℕ) → P (REGISTER ∷ []) (step_answer mask register).number
  unfolding step_answer
  step_each mask register =
      go (settings_ok arranged_width mask register)
    where
      go : (b : Bool) → P (REGISTER ∷ []) (pick {A = StepAnswer} b (record { number = 0; register = step arranged_width mask register }) (record { number = REGISTER; register = 0 })).number
      go true = own (REGISTER ∷ []) 0 refl refl
      go false = own (REGISTER ∷ []) REGISTER refl refl

  pack_each : (rate : ℕ) (packets : List ℕ) (room : ℕ) → P (PLAN ∷ LENGTH ∷ SYNC ∷ []) (pack_number rate packets room)
  unfolding pack_number
  pack_each rate packets room =
      let ns : List ℕ = PLAN ∷ LENGTH ∷ SYNC ∷ [] in
      let y : (n : ℕ) → among (0 ∷ ns) n ≡ true → P ns n = λ n e. own ns n e refl in
      then_each (P ns) (size_each (P ns) (y 0 refl) (y PLAN refl) (y LENGTH refl) rate (length packets) room) (test (P ns) (y 0 refl) (every (packets_of rate) (begins_sync packets)) SYNC (y SYNC refl))

  unpack_each : (rate : ℕ) (octets : List ℕ) (room : ℕ) → P (PLAN ∷ LENGTH ∷ []) (unpack_number rate octets room)
  unfolding unpack_number
  unpack_each rate octets room =
      let ns : List ℕ = PLAN ∷ LENGTH ∷ [] in
      let y : (n : ℕ) → among (0 ∷ ns) n ≡ true → P ns n = λ n e. own ns n e refl in
      size_each (P ns) (y 0 refl) (y PLAN refl) (y LENGTH refl) rate room (length octets)

  labels_each : (m rate octets room : ℕ) → P (PLAN ∷ LENGTH ∷ []) (labelsNumber m rate octets room)
  unfolding labelsNumber
  labels_each m rate octets room =
      let ns : List ℕ = PLAN ∷ LENGTH ∷ [] in
      let y : (n : ℕ) → among (0 ∷ ns) n ≡ true → P ns n = λ n e. own ns n e refl in
      then_each (P ns) (test (P ns) (y 0 refl) (modulation_ok m && rate_ok rate) PLAN (y PLAN refl)) (long_each (P ns) (y 0 refl) (y LENGTH refl) slot_octets (symbols_of m) octets room)

  block_labels_each : (octets room : ℕ) → P (LENGTH ∷ []) (blockLabelsNumber octets room)
  unfolding blockLabelsNumber
  block_labels_each octets room =
      let ns : List ℕ = LENGTH ∷ [] in
      let y : (n : ℕ) → among (0 ∷ ns) n ≡ true → P ns n = λ n e. own ns n e refl in
      long_each (P ns) (y 0 refl) (y LENGTH refl) block_octets block_labels octets room

  block_of_labels_each : (labels : List ℕ) (room : ℕ) → P (LENGTH ∷ LABEL ∷ []) (block_of_labels_number labels room)
  unfolding block_of_labels_number blockLabelsNumber
  block_of_labels_each labels room =
      let ns : List ℕ = LENGTH ∷ LABEL ∷ [] in
      let y : (n : ℕ) → among (0 ∷ ns) n ≡ true → P ns n = λ n e. own ns n e refl in
      then_each (P ns) (long_each (P ns) (y 0 refl) (y LENGTH refl) block_octets block_labels room (length labels)) (label_each (P ns) (y 0 refl) (y LABEL refl) 1 labels)

  place_each : (p : Plan) (slot : ℕ) → P (plan_numbers ++ (FULL ∷ [])) (placed p slot).number
  unfolding placed place_number
  place_each p slot =
      let ns : List ℕ = plan_numbers ++ (FULL ∷ []) in
      let y : (n : ℕ) → among (0 ∷ ns) n ≡ true → P ns n = λ n e. own ns n e refl in
      then_each (P ns) (pick_each (P ns) (eqb slot 0) (y PLAN refl) (y 0 refl))
      (then_each (P ns) (plan_own (P ns) (FULL ∷ []) y p) (test (P ns) (y 0 refl) (leb slot 120) FULL (y FULL refl)))

  tables_each : (p : Plan) (area : List ℕ) → P (plan_numbers ++ (LENGTH ∷ [])) (tables_number p area)
  unfolding tables_number
  tables_each p area =
      let ns : List ℕ = plan_numbers ++ (LENGTH ∷ []) in
      let y : (n : ℕ) → among (0 ∷ ns) n ≡ true → P ns n = λ n e. own ns n e refl in
      then_each (P ns) (plan_own (P ns) (LENGTH ∷ []) y p) (test (P ns) (y 0 refl) (eqb (length area) (length (tables_of p))) LENGTH (y LENGTH refl))

  table_each : (rate : ℕ) (area : List ℕ) → P (PLAN ∷ LENGTH ∷ []) (copy_number rate area)
  unfolding copy_number
  table_each rate area =
      let ns : List ℕ = PLAN ∷ LENGTH ∷ [] in
      let y : (n : ℕ) → among (0 ∷ ns) n ≡ true → P ns n = λ n e. own ns n e refl in
      then_each (P ns) (test (P ns) (y 0 refl) (rate_ok rate) PLAN (y PLAN refl)) (test (P ns) (y 0 refl) (eqb (length area) (length (table_of rate))) LENGTH (y LENGTH refl))

  text_each : (t : List ℕ) → P (plan_numbers) (plan_read t).number
  unfolding plan_read readTextNumber text_number
  text_each t =
      let ns : List ℕ = plan_numbers in
      let y : (n : ℕ) → among (0 ∷ ns) n ≡ true → P ns n = λ n e. own ns n e refl in
      then_each (P ns) (test (P ns) (y 0 refl) (leb (length t) 128 && eqb (line_start t (lines_of t)) (length t)) PLAN (y PLAN refl)) (plan_own (P ns) [] y (plan_of t))

  list_each : (p : Plan) → P (plan_numbers) (listed p).number
  unfolding listed
  list_each p =
      let ns : List ℕ = plan_numbers in
      let y : (n : ℕ) → among (0 ∷ ns) n ≡ true → P ns n = λ n e. own ns n e refl in
      plan_own (P ns) [] y p

  fill_each : (rate : ℕ) (packets : List ℕ) (taken owed : ℕ) (slots begins : List ℕ) → P (PLAN ∷ LENGTH ∷ PACKET ∷ []) (fill_number rate packets taken owed slots begins)
  unfolding fill_number fill_lent
  fill_each rate packets taken owed slots begins =
      let ns : List ℕ = PLAN ∷ LENGTH ∷ PACKET ∷ [] in
      let y : (n : ℕ) → among (0 ∷ ns) n ≡ true → P ns n = λ n e. own ns n e refl in
      then_each (P ns)
      (then_each (P ns) (test (P ns) (y 0 refl) (rate_ok rate) PLAN (y PLAN refl))
      (test (P ns) (y 0 refl) (slots_ok (data_octets_of rate) (length slots) (length begins) && taken_ok (length packets) taken owed) LENGTH (y LENGTH refl)))
      (test (P ns) (y 0 refl) (packets_ok packets) PACKET (y PACKET refl))

  read_tlv_each : (rate : ℕ) (slots begins lost : List ℕ) (first area : ℕ) → P (PLAN ∷ LENGTH ∷ []) (readTlvNumber rate slots begins lost first area)
  unfolding readTlvNumber
  read_tlv_each rate slots begins lost first area =
      let ns : List ℕ = PLAN ∷ LENGTH ∷ [] in
      let y : (n : ℕ) → among (0 ∷ ns) n ≡ true → P ns n = λ n e. own ns n e refl in
      then_each (P ns) (test (P ns) (y 0 refl) (rate_ok rate) PLAN (y PLAN refl)) (test (P ns) (y 0 refl) (read_ok (data_octets_of rate) (length slots) begins lost first area) LENGTH (y LENGTH refl))

  every_call : EveryCall P
  unfolding opened code_answer frame_number read_frame_number
  every_call =
      record {
        opening = λ p mask start. let ns : List ℕ = plan_numbers ++ (REGISTER ∷ []) in open_own (P ns) [] (λ n e. own ns n e refl) p mask start;
        pass = pass_each;
        code_slot = λ s t source coded. let ns : List ℕ = state_numbers ++ (LENGTH ∷ TABLE ∷ []) in slot_own (P ns) [] (λ n e. own ns n e refl) s t source coded;
        read_slot = read_each;
        pack = pack_each;
        unpack = unpack_each;
        check_parity = check_each;
        code_frame = λ p mask start ts source frame. whole_each p mask start ts source frame true;
        read_frame = λ p mask start ts source frame answers stuff positions. whole_each p mask start ts source frame (eqb answers 120 && eqb stuff 120 && eqb positions 120);
        answer_octet = answer_each;
        code_block = code_block_each;
        read_block = read_block_each;
        labels = labels_each;
        slot_of_labels_law = slot_of_labels_each;
        block_labels_law = block_labels_each;
        block_of_labels_law = block_of_labels_each;
        place = place_each;
        tables = tables_each;
        table = table_each;
        text = text_each;
        list = list_each;
        fill = fill_each;
        read_tlv = read_tlv_each;
        read_settings = read_settings_each;
        replace_settings = replace_settings_each;
        point = point_each;
        arranged_point = arranged_each;
        arranged_step = step_each;
        points = points_run_each;
      }

pub own_numbers : OwnNumbers
own_numbers = every_call Own (λ ns n e _. e)

-- 10 is listed for none
pub never : EveryCall (λ ns n. n ≡ 10 → ⊥)
never = every_call (λ ns n. n ≡ 10 → ⊥) (λ ns n e t d. clash (among ns 10) t (rw d at e))
