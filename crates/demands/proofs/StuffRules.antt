-- Document 02, N5, proved.
use Rattle.std.specs.Prelude.{◌≡◌, refl, Bool, ◌&&◌, List, ℕ, ◌+◌, ◌*◌, ◌/◌, ◌^◌, ◌<◌, eqb, leb, ltb, length, get_or}
use Rattle.std.proofs.Common.{ap, sym, ◌∙◌, arith, eq-eqb, ne_eqb}
use Rattle.lists.specs.Choice.{pick}
use Rattle.lists.specs.Count.{every}
use Rattle.lists.specs.ChoiceLaws.{pick_each, then_each, then_both}
use Rattle.refusal.specs.Numbers.{PLAN, DUMMY, FULL, LENGTH, TABLE, REGISTER, PARITY, BCH, LABEL, BLOCK}
use Rattle.bits.specs.Digits.{number}
use Rattle.bits.specs.Octets.{bits_of}
use Rattle.bits.specs.OctetLaws.{length_bits_of, bits_of_bits, octets_bits}
use Rattle.dispersal.specs.Register.{register_ok, settings_ok}
use Rattle.parity_table.specs.Tables.{positions, table_ok}
use Rattle.plan.specs.declared.Plan.{Plan}
use Rattle.plan.specs.declared.FrameState.{FrameState}
use Rattle.plan.specs.Sizes.{slot_width, slot_octets, frame_octets, block_width, block_octets}
use Rattle.plan.specs.Records.{plan_in}
use Rattle.plan.specs.Rates.{rate_ok, modulation_ok, rows_of, packets_of, data_octets_of, symbols_of}
use Rattle.plan.specs.Plans.{plan_number}
use Rattle.plan.proofs.PlanLaws.{plan_each}
use Rattle.plan.specs.Places.{carries}
use Rattle.plan.specs.States.{open_number, sound_number, state_number}
use Rattle.packets.specs.Packets.{size_number, unpack_number}
use Rattle.symbols.specs.Labels.{block_labels, length_number, label_number, slot_number as labelsNumber, slot_of_labels_number, block_number as blockLabelsNumber, block_of_labels_number}
use Rattle.codeword.specs.declared.Shape.{Shape}
use Rattle.codeword.proofs.WordLaws.{Message}
use Rattle.codeword.specs.Reading.{taken_off, wrong_position, parity_number, bch_right, checks_number, word_number}
use Rattle.codeword.proofs.RoundTrips.{coded_read}
use Rattle.codeword.specs.Calls.{lent_number as wordLentNumber}
use Rattle.slot.specs.Slots.{source_octets, slot_shape}
use Rattle.slot.proofs.SlotLaws.{sizes, fits}
use Rattle.slot.specs.Reading.{received_number, stuff_in, stuff_with, source_of, checked_number}
use Rattle.slot.proofs.ReadingLaws.{stuff_below}
use Rattle.slot.specs.Calls.{rows_at, data_number, slot_number, read_number, read_answer, read_area, form_number, check_number}
use Rattle.slot.proofs.CallLaws.{accepted_slot}
use Rattle.tmcc.specs.Blocks.{source_octets as tmccOctets, block_shape}
use Rattle.tmcc.specs.Calls.{lent_number as blockLentNumber, read_number as readBlockNumber}
use Rattle.frame.specs.Tables.{tables_ok}
use Rattle.frame.specs.Steps.{table_at, answer_at, stuff_at}
use Rattle.frame.specs.Frames.{state_before, slot_in, source_from, answers_of, whole_number, read_frame_number}
use Rattle.frame.proofs.FrameLaws.{length_stuffs_of, answer_at_law, stuff_at_law}
use Rattle.tlv.specs.Calls.{read_ok, read_number as readTlvNumber}
use Rattle.setting_block.specs.Layout.{setting_octets, edition}
use Rattle.setting_block.specs.Blocks.{plan_in as settingPlan, registers_in, block_ok, registers_ok, setting_number, block_number}
use Rattle.settings.specs.Cards.{card_ok, card_number, block_at, read_number as readSettingsNumber}
use Rattle.demands.specs.StuffRequests.{slot_with, AnyStuffRead, WorkedStuff, StuffAnswered, SlotStuffAnswered, FrameStuffAnswered, NotTen, NeverTen}

pub any_stuff_read : AnyStuffRead
unfolding read_answer read_area read_number received_number stuff_in source_of
any_stuff_read s t source out e o lo be le n =
    let R = rows_at s in
    let c = slot_with s t source e in
    let a = accepted_slot s t out c n in
    let w = a.place.rows in
    let long : length source ≡ source_octets R = sym lo ∙ a.areas.source_long in
    let m : Message (slot_shape R) (bits_of source) e
    = record { long = length_bits_of source ∙ omega (arith, long, (sizes R w).source); bits = bits_of_bits source; tail_long = le; tail_bits = be } in
    let b = coded_read (slot_shape R) t s.mask s.register (bits_of source) e (fits R w) m in
    let k : read_number s t c out ≡ 0 = then_both (slot_number s t out c) _ n b.number in
    let z = eq-eqb (read_number s t c out) 0 k in
    record {
      number = k;
      state = rw (eq-eqb (slot_number s t out c) 0 n);
      stuff_is = rw z (ap (number 6) b.tail);
      octets_are = rw (z, b.message) (octets_bits (source_octets R) source long o);
    }

pub worked_stuff : WorkedStuff
unfolding number
worked_stuff = record { zeros = refl; first = refl; last = refl; ones = refl }

-- stuff bits below 64 beside a number
beside : (n x : ℕ) → x < 64 → StuffAnswered n (stuff_with n x)
beside n x l = record { accepted = λ e. rw (eq-eqb n 0 e) (omega arith); refused = λ d. rw (ne_eqb n 0 d) }

pub slot_stuff_answered : SlotStuffAnswered
unfolding read_answer
slot_stuff_answered s t coded source = beside _ _ (stuff_below (rows_at s) s.mask s.register coded)

pub frame_stuff_answered : FrameStuffAnswered
unfolding stuff_at
frame_stuff_answered p ts mask start frame = (
  length_stuffs_of p ts mask start frame,
  λ k h.
      let s = state_before p mask start k in
      rw (answer_at_law p ts mask start frame k h, stuff_at_law p ts mask start frame k h) (beside (answer_at s ts (slot_in frame k)) _ (stuff_below (rows_at s) s.mask s.register (slot_in frame k))),
)

-- a test's number, a plan's and those of a codeword
test : (b : Bool) (n : ℕ) → NotTen n → NotTen (pick b 0 n)
test b n h = pick_each NotTen b (λ e. omega arith) h

plan_not_ten : (p : Plan) → NotTen (plan_number p)
plan_not_ten = plan_each NotTen (λ e. omega arith) (λ e. omega arith) (λ e. omega arith) (λ e. omega arith) (λ e. omega arith)

lent_not_ten : (F : Shape) (n : ℕ) (t source coded : List ℕ) → NotTen (wordLentNumber F n t source coded)
unfolding wordLentNumber
lent_not_ten F n t source coded =
    then_each NotTen (test (eqb (length source) n && eqb (length coded) F.octets) LENGTH (λ e. omega arith)) (test (table_ok F.rows t) TABLE (λ e. omega arith))

parity_not_ten : (F : Shape) (wrong : ℕ) → NotTen (parity_number F wrong)
unfolding parity_number
parity_not_ten F wrong = test (eqb wrong (positions F.rows)) PARITY (λ e. omega arith)

word_not_ten : (F : Shape) (t : List ℕ) (mask r : ℕ) (c : List ℕ) → NotTen (word_number F t mask r c)
unfolding word_number checks_number
word_not_ten F t mask r c = then_each NotTen (parity_not_ten F (wrong_position F t c)) (test (bch_right F (taken_off F mask r c)) BCH (λ e. omega arith))

-- those of a state at a data slot
data_not_ten : (s : FrameState) → NotTen (data_number s)
unfolding data_number state_number sound_number
data_not_ten s =
    then_each NotTen
    (then_each NotTen
    (then_each NotTen (pick_each NotTen (eqb s.slot 0) (λ e. omega arith) (λ e. omega arith))
    (then_each NotTen (plan_not_ten (plan_in s)) (test (settings_ok slot_width s.mask s.start && register_ok slot_width s.register) REGISTER (λ e. omega arith))))
    (test (leb s.slot 120) FULL (λ e. omega arith)))
    (test (carries (plan_in s) s.slot) DUMMY (λ e. omega arith))

slot_not_ten : (s : FrameState) (t coded source : List ℕ) → NotTen (read_number s t coded source)
unfolding read_number slot_number received_number
slot_not_ten s t coded source =
    let F = slot_shape (rows_at s) in
    then_each NotTen (then_each NotTen (data_not_ten s) (lent_not_ten F (source_octets (rows_at s)) t source coded)) (word_not_ten F t s.mask s.register coded)

frame_not_ten : (p : Plan) (mask start : ℕ) (ts : List ℕ) (source frame answers stuff positions : ℕ)
    → NotTen (read_frame_number p mask start ts source frame answers stuff positions)
unfolding read_frame_number whole_number open_number
frame_not_ten p mask start ts source frame answers stuff positions =
    let long = (eqb answers 120 && eqb stuff 120 && eqb positions 120) && (eqb source (source_from p 120) && eqb frame frame_octets) in
    then_each NotTen
    (then_each NotTen (plan_not_ten p) (test (settings_ok slot_width mask start) REGISTER (λ e. omega arith)))
    (then_each NotTen (test long LENGTH (λ e. omega arith)) (test (tables_ok p ts) TABLE (λ e. omega arith)))

answer_not_ten : (p : Plan) (ts : List ℕ) (mask start : ℕ) (frame : List ℕ) (k : ℕ) → k < 120 → NotTen (get_or (answers_of p ts mask start frame) k 0)
unfolding answer_at received_number
answer_not_ten p ts mask start frame k h =
    let s = state_before p mask start k in
    rw (answer_at_law p ts mask start frame k h)
    (pick_each NotTen (carries p (k + 1)) (word_not_ten (slot_shape (rows_at s)) (table_at s ts) mask s.register (slot_in frame k)) (λ e. omega arith))

check_not_ten : (rate : ℕ) (t coded : List ℕ) → NotTen (check_number rate t coded)
unfolding check_number form_number checked_number
check_not_ten rate t coded =
    let F = slot_shape (rows_of rate) in
    then_each NotTen
    (then_each NotTen (test (rate_ok rate) PLAN (λ e. omega arith))
    (then_each NotTen (test (eqb (length coded) slot_octets) LENGTH (λ e. omega arith)) (test (table_ok (rows_of rate) t) TABLE (λ e. omega arith))))
    (parity_not_ten F (wrong_position F t coded))

block_not_ten : (mask start : ℕ) (t block source : List ℕ) → NotTen (readBlockNumber mask start t block source)
unfolding readBlockNumber blockLentNumber
block_not_ten mask start t block source =
    then_each NotTen
    (then_each NotTen (test (settings_ok block_width mask start) REGISTER (λ e. omega arith)) (lent_not_ten block_shape tmccOctets t source block))
    (word_not_ten block_shape t mask start block)

unpack_not_ten : (rate : ℕ) (octets : List ℕ) (room : ℕ) → NotTen (unpack_number rate octets room)
unfolding unpack_number size_number
unpack_not_ten rate octets room =
    then_each NotTen (test (rate_ok rate) PLAN (λ e. omega arith))
    (test (eqb room (188 * packets_of rate) && eqb (length octets) (data_octets_of rate)) LENGTH (λ e. omega arith))

long_not_ten : (n s octets labels : ℕ) → NotTen (length_number n s octets labels)
unfolding length_number
long_not_ten n s octets labels = test (eqb octets n && eqb labels s) LENGTH (λ e. omega arith)

label_not_ten : (m : ℕ) (labels : List ℕ) → NotTen (label_number m labels)
unfolding label_number
label_not_ten m labels = test (every (length labels) (λ r. ltb (get_or labels r 0) (2 ^ m))) LABEL (λ e. omega arith)

slot_labels_not_ten : (m rate : ℕ) (labels : List ℕ) (room : ℕ) → NotTen (slot_of_labels_number m rate labels room)
unfolding slot_of_labels_number labelsNumber
slot_labels_not_ten m rate labels room =
    then_each NotTen
    (then_each NotTen (test (modulation_ok m && rate_ok rate) PLAN (λ e. omega arith)) (long_not_ten slot_octets (symbols_of m) room (length labels)))
    (label_not_ten m labels)

block_labels_not_ten : (labels : List ℕ) (room : ℕ) → NotTen (block_of_labels_number labels room)
unfolding block_of_labels_number blockLabelsNumber
block_labels_not_ten labels room = then_each NotTen (long_not_ten block_octets block_labels room (length labels)) (label_not_ten 1 labels)

tlv_not_ten : (rate : ℕ) (slots begins lost : List ℕ) (first area : ℕ) → NotTen (readTlvNumber rate slots begins lost first area)
unfolding readTlvNumber
tlv_not_ten rate slots begins lost first area =
    then_each NotTen (test (rate_ok rate) PLAN (λ e. omega arith)) (test (read_ok (data_octets_of rate) (length slots) begins lost first area) LENGTH (λ e. omega arith))

settings_not_ten : (card : List ℕ) (n : ℕ) → NotTen (readSettingsNumber card n)
unfolding readSettingsNumber card_number block_number setting_number
settings_not_ten card n =
    let block = block_at n card in
    then_each NotTen
    (then_each NotTen (test (card_ok (length card)) LENGTH (λ e. omega arith)) (test (ltb n (length card / setting_octets)) BLOCK (λ e. omega arith)))
    (then_each NotTen (test (block_ok edition block) BLOCK (λ e. omega arith))
    (then_each NotTen (plan_not_ten (settingPlan edition block)) (test (registers_ok (registers_in edition block)) REGISTER (λ e. omega arith))))

pub never_ten : NeverTen
unfolding read_answer
never_ten =
    record {
      slot = slot_not_ten;
      frame = frame_not_ten;
      answer = answer_not_ten;
      parity = check_not_ten;
      block = block_not_ten;
      unpacking = unpack_not_ten;
      slot_labels = slot_labels_not_ten;
      block_labels_law = block_labels_not_ten;
      tlv = tlv_not_ten;
      settings = settings_not_ten;
    }
