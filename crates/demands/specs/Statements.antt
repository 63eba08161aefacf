-- What the framer and its reader are proved to do, as statements over the definitions that the contracts of the public
-- entries cite. "Coded" means that the coding call's number is 0 (document 01, "What demand 3 compares").
use Rattle.std.specs.Prelude.{◌≡◌, true, false, List, [], ◌∷◌, ◌++◌, ◌↔◌, ℕ, ◌+◌, ◌-◌, ◌%◌, ◌^◌, ◌<◌, ◌≤◌, eqb, length, get_or, take, drop, replicate, Bool, ◌*◌, ◌/◌}
use Rattle.lists.specs.Choice.{pick}
use Rattle.lists.specs.Count.{table}
use Rattle.lists.specs.Runs.{Octets, Bits}
use Rattle.refusal.specs.Numbers.{DUMMY}
use Rattle.refusal.specs.Answers.{BackAgain}
use Rattle.bits.specs.Digits.{digits}
use Rattle.bits.specs.Octets.{bits_of}
use Rattle.bits.specs.Sums.{added, added_octets}
use Rattle.dispersal.specs.Dispersal.{dispersed}
use Rattle.bch.specs.Polynomials.{◌⊕◌, Divides, polynomial_of}
use Rattle.bch.specs.Bch.{generator, bch_bits}
use Rattle.parity_table.specs.Tables.{positions}
use Rattle.ldpc.specs.Parity.{times, parity_of, Only}
use Rattle.plan.specs.declared.Plan.{Plan}
use Rattle.plan.specs.declared.FrameState.{FrameState}
use Rattle.plan.specs.Rates.{rows_of, packets_of, symbols_of}
use Rattle.plan.specs.Plans.{modulation_of, rate_of, plan_number, slots_of, data_slots_of}
use Rattle.plan.specs.Places.{group_at, carries, InRun}
use Rattle.plan.specs.Sizes.{slot_octets, slot_width, block_octets}
use Rattle.plan.specs.Records.{plan_in}
use Rattle.plan.specs.States.{passed}
use Rattle.packets.specs.Packets.{packed, unpacked, pack_number, unpack_number}
use Rattle.symbols.specs.Index.{bit_at, right_to_left}
use Rattle.symbols.specs.Labels.{labels_of_slot, slot_of_labels, labels_of_block, block_of_labels, block_labels, slot_number as labelsNumber, slot_of_labels_number, block_number as blockLabelsNumber, block_of_labels_number}
use Rattle.codeword.specs.declared.Shape.{Shape}
use Rattle.codeword.specs.Words.{register_after as wordRegisterAfter}
use Rattle.codeword.specs.Reading.{parity_in, taken_off, bch_in, no_position, Good, EvenTimes}
use Rattle.slot.specs.Slots.{slot_shape, register_after}
use Rattle.slot.specs.Reading.{covered, parity, no_stuff, stuff_ones, MovesOn}
use Rattle.slot.specs.Calls.{rows_at, slot_number, code_answer, code_area, read_answer, read_area, Reads, CodedAgain, CodedBack}
use Rattle.tmcc.specs.Blocks.{source_octets as tmccOctets, block_shape, message_of, block_of, source_of}
use Rattle.tmcc.specs.Calls.{lent_number as blockLentNumber, code_number, read_number}
use Rattle.frame.specs.Tables.{table_of, tables_ok}
use Rattle.frame.specs.Steps.{table_at}
use Rattle.frame.specs.Frames.{rows_of_slot, register_before, state_before, slot_in, source_in, frame_of, answers_of, stuffs_of, positions_of, sources_of, frame_number, read_frame_number}
use Rattle.frame.specs.Walks.{coded_to, read_to}
use Rattle.lookup.specs.Lookups.{tables_of}

-- DEMAND 2, "Coding then reading returns header and data": a slot, at one state with one table; its stuff bits are ones
abbrev pub SlotCodedThenRead : Type 0
SlotCodedThenRead =
    (s : FrameState) (t source coded out : List ℕ) → Octets source → length out ≡ length source
    → (code_answer s t source coded).number ≡ 0
    → Reads (read_answer s t (code_area s t source coded) out) (read_area s t (code_area s t source coded) out) (code_answer s t source coded).state stuff_ones source

-- "reading an accepted slot and coding it again returns its bits", which document 02, N5, amends: "Coding back what was read gives
-- the same slot only where that number is 63; for other numbers it gives the slot with ones there and its parity made anew"
abbrev pub SlotReadThenCoded : Type 0
SlotReadThenCoded =
    (s : FrameState) (t coded source out : List ℕ) → Octets coded → length out ≡ length coded
    → (read_answer s t coded source).number ≡ 0
    → CodedBack s t (read_answer s t coded source) (code_answer s t (read_area s t coded source) out) coded (code_area s t (read_area s t coded source) out)

-- "header 176" bits, in octets
abbrev pub header_octets : ℕ
header_octets = 22

-- "Packing one slot's packets into data octets, and unpacking with 0x47 put back, are lone calls; slot and frame calls take data
-- octets": header and packets that were packed and coded are, of the slot that is read, the header and the packets
pub record PacketsBack (rate : ℕ) (source header packets : List ℕ) : Type 0 where
  pub header_is : take header_octets source ≡ header
  pub packets_are : BackAgain (unpack_number rate (drop header_octets source) (length packets)) (unpacked (packets_of rate) (drop header_octets source)) packets

abbrev pub PacketsCodedThenRead : Type 0
PacketsCodedThenRead =
    (s : FrameState) (rate room : ℕ) (t header packets coded out : List ℕ) → Octets header → Octets packets
    → length header ≡ header_octets → pack_number rate packets room ≡ 0
    → let source = header ++ packed (packets_of rate) packets in
    length out ≡ length source → (code_answer s t source coded).number ≡ 0
    → PacketsBack rate (read_area s t (code_area s t source coded) out) header packets

-- and the packets of a slot that was read, packed again behind its header, are what was read, of which `SlotReadThenCoded` speaks
abbrev pub PacketsReadThenPacked : Type 0
PacketsReadThenPacked =
    (rate room : ℕ) (source : List ℕ) → unpack_number rate (drop header_octets source) room ≡ 0
    → take header_octets source ++ packed (packets_of rate) (unpacked (packets_of rate) (drop header_octets source)) ≡ source

-- "In a whole-frame call the groups' tables follow each other in group order": the published ones of an accepted plan are
-- tables that no whole-frame call refuses
abbrev pub PublishedTablesTaken : Type 0
PublishedTablesTaken = (p : Plan) → plan_number p ≡ 0 → tables_ok p (tables_of p) ≡ true

-- "Reading accepts only what passes all checks", and all that does: a slot is answered 0 exactly when nothing that comes
-- before the slot itself refuses the call, and its parity and BCH bits are right; of its stuff bits document 02, N5, asks nothing
abbrev pub SlotAccepted : Type 0
SlotAccepted =
    (s : FrameState) (t coded source : List ℕ)
    → ((read_answer s t coded source).number ≡ 0) ↔ ((slot_number s t source coded ≡ 0) × Good (slot_shape (rows_at s)) t s.mask s.register coded)

-- so for every slot of a frame that is read
abbrev pub FrameSlotAccepted : Type 0
FrameSlotAccepted =
    (p : Plan) (mask start : ℕ) (ts source frame answers stuff positions : List ℕ)
    → read_frame_number p mask start ts (length source) (length frame) (length answers) (length stuff) (length positions) ≡ 0
    → (k : ℕ) → k < 120
    → (get_or (answers_of p ts mask start frame) k 0 ≡ 0)
    ↔ ((carries p (k + 1) ≡ true) × Good (slot_shape (rows_of_slot p (k + 1))) (table_of p ts (group_at p (k + 1))) mask (register_before p mask start k) (slot_in frame k))

-- and for a TMCC block, which has no stuff bits
abbrev pub BlockAccepted : Type 0
BlockAccepted =
    (mask start : ℕ) (t block source : List ℕ)
    → (read_number mask start t block source ≡ 0) ↔ ((blockLentNumber mask start t source block ≡ 0) × Good block_shape t mask start block)

-- "8, 9 .. move the slot reader on one place with the register stepped as for a good slot": the state after a slot is the same,
-- whether it was coded, read well, or read with one of the two
abbrev pub SlotMovesOn : Type 0
SlotMovesOn =
    (s : FrameState) (t source coded other received out : List ℕ)
    → (code_answer s t source coded).number ≡ 0 → MovesOn (read_answer s other received out).number
    → (read_answer s other received out).state ≡ (code_answer s t source coded).state

-- a frame that was coded is read: all header and data octets, and for each data slot 0 and stuff bits of ones
pub record FrameBack (p : Plan) (mask start : ℕ) (ts source coded out answers stuff positions : List ℕ) : Type 0 where
  pub number : read_frame_number p mask start ts (length out) (length coded) (length answers) (length stuff) (length positions) ≡ 0
  pub sources : sources_of p ts mask start coded out ≡ source
  pub each : (k : ℕ) → k < 120 → get_or (answers_of p ts mask start coded) k 0 ≡ pick (carries p (k + 1)) 0 DUMMY
  pub stuffed : (k : ℕ) → k < 120 → get_or (stuffs_of p ts mask start coded) k 0 ≡ pick (carries p (k + 1)) stuff_ones no_stuff

abbrev pub FrameCodedThenRead : Type 0
FrameCodedThenRead =
    (p : Plan) (mask start : ℕ) (ts source frame out answers stuff positions : List ℕ) → Octets source → length out ≡ length source
    → length answers ≡ 120 → length stuff ≡ 120 → length positions ≡ 120
    → frame_number p mask start ts (length source) (length frame) ≡ 0
    → FrameBack p mask start ts source (frame_of p ts mask start source frame) out answers stuff positions

-- a frame that was read is coded again: every data slot that was accepted is that slot again, as document 02, N5, has it
pub record FrameAgain (p : Plan) (mask start : ℕ) (ts frame sources out : List ℕ) : Type 0 where
  pub number : frame_number p mask start ts (length sources) (length out) ≡ 0
  pub slots : (k : ℕ) → k < 120 → carries p (k + 1) ≡ true → get_or (answers_of p ts mask start frame) k 0 ≡ 0
      → CodedAgain (rows_of_slot p (k + 1)) (table_of p ts (group_at p (k + 1))) mask (register_before p mask start k) (get_or (stuffs_of p ts mask start frame) k 0)
      (slot_in frame k) (slot_in (frame_of p ts mask start sources out) k)

abbrev pub FrameReadThenCoded : Type 0
FrameReadThenCoded =
    (p : Plan) (mask start : ℕ) (ts frame source answers stuff positions out : List ℕ) → Octets frame → length out ≡ length frame
    → read_frame_number p mask start ts (length source) (length frame) (length answers) (length stuff) (length positions) ≡ 0
    → FrameAgain p mask start ts frame (sources_of p ts mask start frame source) out

-- "It starts from plan and settings at slot 1 and equals the slot-by-slot calls": coding, from opening, dummies passed
pub record CodedBySlots (p : Plan) (mask start : ℕ) (ts source frame : List ℕ) : Type 0 where
  pub state : (k : ℕ) → k ≤ 120 → coded_to p mask start ts source frame k ≡ state_before p mask start k
  pub data_slot : (k : ℕ) → k < 120 → carries p (k + 1) ≡ true
      → let s = coded_to p mask start ts source frame k in
      ((code_answer s (table_at s ts) (source_in p source k) (slot_in frame k)).number ≡ 0)
      × (code_area s (table_at s ts) (source_in p source k) (slot_in frame k) ≡ slot_in (frame_of p ts mask start source frame) k)
  pub dummy : (k : ℕ) → k < 120 → carries p (k + 1) ≡ false
      → ((passed (coded_to p mask start ts source frame k)).number ≡ 0) × (slot_in (frame_of p ts mask start source frame) k ≡ slot_in frame k)

abbrev pub FrameCodedBySlots : Type 0
FrameCodedBySlots =
    (p : Plan) (mask start : ℕ) (ts source frame : List ℕ) → frame_number p mask start ts (length source) (length frame) ≡ 0
    → CodedBySlots p mask start ts source frame

-- and reading
pub record ReadBySlots (p : Plan) (mask start : ℕ) (ts source frame : List ℕ) : Type 0 where
  pub state : (k : ℕ) → k ≤ 120 → read_to p mask start ts source frame k ≡ state_before p mask start k
  pub data_slot : (k : ℕ) → k < 120 → carries p (k + 1) ≡ true
      → let s = read_to p mask start ts source frame k in
      ((read_answer s (table_at s ts) (slot_in frame k) (source_in p source k)).number ≡ get_or (answers_of p ts mask start frame) k 0)
      × ((read_answer s (table_at s ts) (slot_in frame k) (source_in p source k)).stuff ≡ get_or (stuffs_of p ts mask start frame) k 0)
      × ((read_answer s (table_at s ts) (slot_in frame k) (source_in p source k)).position ≡ get_or (positions_of p ts mask start frame) k 0)
      × (read_area s (table_at s ts) (slot_in frame k) (source_in p source k) ≡ source_in p (sources_of p ts mask start frame source) k)
  pub dummy : (k : ℕ) → k < 120 → carries p (k + 1) ≡ false
      → ((passed (read_to p mask start ts source frame k)).number ≡ 0)
      × (get_or (answers_of p ts mask start frame) k 0 ≡ DUMMY)
      × (get_or (stuffs_of p ts mask start frame) k 0 ≡ no_stuff)
      × (get_or (positions_of p ts mask start frame) k 0 ≡ no_position)

abbrev pub FrameReadBySlots : Type 0
FrameReadBySlots =
    (p : Plan) (mask start : ℕ) (ts source frame answers stuff positions : List ℕ)
    → read_frame_number p mask start ts (length source) (length frame) (length answers) (length stuff) (length positions) ≡ 0
    → ReadBySlots p mask start ts source frame

-- a TMCC block, there and back
abbrev pub BlockCodedThenRead : Type 0
BlockCodedThenRead =
    (mask start : ℕ) (t source block out : List ℕ) → Octets source → length out ≡ length source
    → code_number mask start t source block ≡ 0
    → BackAgain (read_number mask start t (block_of t mask start source) out) (source_of mask start (block_of t mask start source)) source

abbrev pub BlockReadThenCoded : Type 0
BlockReadThenCoded =
    (mask start : ℕ) (t block source out : List ℕ) → Octets block → length out ≡ length block
    → read_number mask start t block source ≡ 0
    → BackAgain (code_number mask start t (source_of mask start block) out) (block_of t mask start (source_of mask start block)) block

-- packets into data octets and back, and data octets into packets and back
abbrev pub PackedThenUnpacked : Type 0
PackedThenUnpacked =
    (rate : ℕ) (packets : List ℕ) (room : ℕ) → pack_number rate packets room ≡ 0
    → let octets = packed (packets_of rate) packets in
    BackAgain (unpack_number rate octets (length packets)) (unpacked (packets_of rate) octets) packets

abbrev pub UnpackedThenPacked : Type 0
UnpackedThenPacked =
    (rate : ℕ) (octets : List ℕ) (room : ℕ) → unpack_number rate octets room ≡ 0
    → let packets = unpacked (packets_of rate) octets in
    BackAgain (pack_number rate packets (length octets)) (packed (packets_of rate) packets) octets

-- labels and back, of a slot and of a block
abbrev pub SlotLabelsBack : Type 0
SlotLabelsBack =
    (m rate : ℕ) (slot : List ℕ) (room : ℕ) → labelsNumber m rate (length slot) room ≡ 0 → Octets slot
    → BackAgain (slot_of_labels_number m rate (labels_of_slot m rate slot) (length slot)) (slot_of_labels m rate (labels_of_slot m rate slot)) slot

abbrev pub LabelsSlotBack : Type 0
LabelsSlotBack =
    (m rate : ℕ) (labels : List ℕ) (room : ℕ) → slot_of_labels_number m rate labels room ≡ 0
    → BackAgain (labelsNumber m rate (length (slot_of_labels m rate labels)) (length labels)) (labels_of_slot m rate (slot_of_labels m rate labels)) labels

abbrev pub BlockLabelsBack : Type 0
BlockLabelsBack =
    (block : List ℕ) (room : ℕ) → blockLabelsNumber (length block) room ≡ 0 → Octets block
    → BackAgain (block_of_labels_number (labels_of_block block) (length block)) (block_of_labels (labels_of_block block)) block

abbrev pub LabelsBlockBack : Type 0
LabelsBlockBack =
    (labels : List ℕ) (room : ℕ) → block_of_labels_number labels room ≡ 0
    → BackAgain (blockLabelsNumber (length (block_of_labels labels)) (length labels)) (labels_of_block (block_of_labels labels)) labels

-- document 01, "Plan and place": "Of a group's n slots the first n × modulation / 5 carry data; the others, at the end of the run,
-- are dummies": the data runs and dummy runs of a plan's groups cover slots 1 to 120, each once
pub record RunsOnce (p : Plan) : Type 0 where
  pub cover : (s : ℕ) → 1 ≤ s → s ≤ 120 → (group_at p s < p.count) × InRun p (group_at p s) (carries p s) s
  pub once : (s g : ℕ) (b : Bool) → g < p.count → InRun p g b s → (g ≡ group_at p s) × (b ≡ carries p s)
  pub within : (s g : ℕ) (b : Bool) → g < p.count → InRun p g b s → (1 ≤ s) × (s ≤ 120)

abbrev pub RunsCover : Type 0
RunsCover = (p : Plan) → plan_number p ≡ 0 → RunsOnce p

-- "Symbols": "The data slots of each five planned for one modulation hold 44,880 symbols in all"
abbrev pub FivesHold : Type 0
FivesHold = (p : Plan) (g : ℕ) → plan_number p ≡ 0 → g < p.count → data_slots_of p g * symbols_of (modulation_of p g) ≡ slots_of p g / 5 * 44880

-- "Checks in the slot": "The BCH bits are the remainder, on division by the generator, of message times the 192nd power, highest
-- power first": they are 192 bits and a remainder, and no other 192 bits are
pub record OneRemainder (m : List ℕ) : Type 0 where
  pub bits : Bits (bch_bits m)
  pub long : length (bch_bits m) ≡ 192
  pub divides : Divides generator (polynomial_of m * 2 ^ 192 ⊕ polynomial_of (bch_bits m))
  pub only : (b : List ℕ) → Bits b → length b ≡ 192 → Divides generator (polynomial_of m * 2 ^ 192 ⊕ polynomial_of b) → b ≡ bch_bits m

abbrev pub BchRemainder : Type 0
BchRemainder = (m : List ℕ) → Bits m → OneRemainder m

-- "Each dispersed bit is added modulo 2 to the register's bit": dispersed twice from one register, bits are themselves again
abbrev pub DispersedTwice : Type 0
DispersedTwice = (w mask r : ℕ) (u : List ℕ) → Bits u → dispersed w mask r (dispersed w mask r u) ≡ u

-- DEMAND 3: the BCH bits of a coded word, "all 192, both before dispersal", those that stand in it once dispersal is taken
-- off, ..
abbrev pub bch_before : Shape → ℕ → ℕ → List ℕ → List ℕ
bch_before F mask r c = bch_in F (taken_off F mask r c)

-- ".. and as sent"
abbrev pub bch_sent : Shape → List ℕ → List ℕ
bch_sent F c = bch_in F (bits_of c)

-- two slots c and d of R rows that were coded from x and y at one place, under the table t, the modulation m and the rate of
-- that place, its tap mask and its register r
pub record Compared (R : ℕ) (t : List ℕ) (m rate mask r : ℕ) (x y c d : List ℕ) : Type 0 where
  -- "The symbols of a slot .. are the labels that its symbol call makes of its octets": it makes them
  pub symbols_made : (labelsNumber m rate (length c) (symbols_of m) ≡ 0) × (labelsNumber m rate (length d) (symbols_of m) ≡ 0)
  -- "Two slots coded at one place are equal as symbols exactly when header and data are"
  pub symbols : (labels_of_slot m rate c ≡ labels_of_slot m rate d) ↔ (x ≡ y)
  -- "their BCH bits exactly when the difference is divisible by the twelve-factor generator"
  pub bch : (bch_before (slot_shape R) mask r c ≡ bch_before (slot_shape R) mask r d) ↔ Divides generator (polynomial_of (added (bits_of x) (bits_of y)))
  pub bch_as_sent : (bch_sent (slot_shape R) c ≡ bch_sent (slot_shape R) d) ↔ Divides generator (polynomial_of (added (bits_of x) (bits_of y)))
  -- "their LDPC parities exactly when the differing bits reach each position an even number of times"
  pub ldpc : (parity R c ≡ parity R d) ↔ ((j : ℕ) → j < positions R → times R t (added (covered R c) (covered R d)) j % 2 ≡ 0)

-- "one place means one slot number and one such register": of two states under one plan and one tap mask, whatever the
-- register's start was in each
pub record OnePlace (s z : FrameState) : Type 0 where
  pub plan : plan_in z ≡ plan_in s
  pub mask : z.mask ≡ s.mask
  pub slot : z.slot ≡ s.slot
  pub register : z.register ≡ s.register

-- for slots at one place
abbrev pub SlotsCompared : Type 0
SlotsCompared =
    (s z : FrameState) (t x y a b : List ℕ) → OnePlace s z → Octets x → Octets y
    → (code_answer s t x a).number ≡ 0 → (code_answer z t y b).number ≡ 0
    → let g = group_at (plan_in s) s.slot in
    Compared (rows_at s) t (modulation_of (plan_in s) g) (rate_of (plan_in s) g) s.mask s.register x y (code_area s t x a) (code_area z t y b)

-- for every data slot of two frames coded under one plan, its tables and one setting
abbrev pub FramesCompared : Type 0
FramesCompared =
    (p : Plan) (mask start : ℕ) (ts x y a b : List ℕ) → Octets x → Octets y
    → frame_number p mask start ts (length x) (length a) ≡ 0 → frame_number p mask start ts (length y) (length b) ≡ 0
    → (k : ℕ) → k < 120 → carries p (k + 1) ≡ true
    → let g = group_at p (k + 1) in
    Compared (rows_of_slot p (k + 1)) (table_of p ts g) (modulation_of p g) (rate_of p g) mask (register_before p mask start k) (source_in p x k) (source_in p y k)
    (slot_in (frame_of p ts mask start x a) k) (slot_in (frame_of p ts mask start y b) k)

-- for two TMCC blocks c and d that were coded from x and y under one table and one setting
pub record ComparedBlocks (mask start : ℕ) (t x y c d : List ℕ) : Type 0 where
  pub symbols_made : (blockLabelsNumber (length c) block_labels ≡ 0) × (blockLabelsNumber (length d) block_labels ≡ 0)
  pub symbols : (labels_of_block c ≡ labels_of_block d) ↔ (message_of x ≡ message_of y)
  pub bch : (bch_before block_shape mask start c ≡ bch_before block_shape mask start d) ↔ Divides generator (polynomial_of (added (message_of x) (message_of y)))
  pub bch_as_sent : (bch_sent block_shape c ≡ bch_sent block_shape d) ↔ Divides generator (polynomial_of (added (message_of x) (message_of y)))
  -- "the whole parity input of a block"
  pub ldpc : (parity_in block_shape c ≡ parity_in block_shape d) ↔ EvenTimes block_shape t c d

abbrev pub BlocksCompared : Type 0
BlocksCompared =
    (mask start : ℕ) (t x y a b : List ℕ) → code_number mask start t x a ≡ 0 → code_number mask start t y b ≡ 0
    → ComparedBlocks mask start t x y (block_of t mask start x) (block_of t mask start y)

-- "three slots add up to the slot of the added inputs", which is coded too
abbrev pub SlotsAdded : Type 0
SlotsAdded =
    (s u v : FrameState) (t x y z a b c d : List ℕ) → OnePlace s u → OnePlace s v → Octets x → Octets y → Octets z
    → (code_answer s t x a).number ≡ 0 → (code_answer u t y b).number ≡ 0 → (code_answer v t z c).number ≡ 0 → length d ≡ slot_octets
    → let sum = added_octets (length x) x y z in
    ((code_answer s t sum d).number ≡ 0) × (code_area s t sum d ≡ added_octets slot_octets (code_area s t x a) (code_area u t y b) (code_area v t z c))

-- "of whole frames, data slots of the same number s are compared or added, for every such s"
abbrev pub FramesAdded : Type 0
FramesAdded =
    (p : Plan) (mask start : ℕ) (ts x y z a b c d : List ℕ) → Octets x → Octets y → Octets z
    → frame_number p mask start ts (length x) (length a) ≡ 0 → frame_number p mask start ts (length y) (length b) ≡ 0
    → frame_number p mask start ts (length z) (length c) ≡ 0 → length d ≡ length a
    → let sum = added_octets (length x) x y z in
    (frame_number p mask start ts (length sum) (length d) ≡ 0)
    × ((k : ℕ) → k < 120 → carries p (k + 1) ≡ true
    → slot_in (frame_of p ts mask start sum d) k
    ≡ added_octets slot_octets (slot_in (frame_of p ts mask start x a) k) (slot_in (frame_of p ts mask start y b) k) (slot_in (frame_of p ts mask start z c) k))

abbrev pub BlocksAdded : Type 0
BlocksAdded =
    (mask start : ℕ) (t x y z a b c d : List ℕ)
    → code_number mask start t x a ≡ 0 → code_number mask start t y b ≡ 0 → code_number mask start t z c ≡ 0 → length d ≡ block_octets
    → let sum = added_octets tmccOctets x y z in
    (code_number mask start t sum d ≡ 0) × (block_of t mask start sum ≡ added_octets block_octets (block_of t mask start x) (block_of t mask start y) (block_of t mask start z))

-- THE CASES WORKED BY HAND that document 01 marks P, as one table
pub record Worked : Type 0 where
  -- "register, mask 2^24, start 1: 24 zeros, then a one; after one slot of rate 1 it holds 512"
  pub slot_gives : dispersed slot_width (2 ^ 24) 1 (replicate 25 0) ≡ replicate 24 0 ++ (1 ∷ [])
  pub slot_holds : register_after (rows_of 1) (2 ^ 24) 1 ≡ 512
  -- "15-bit register, mask 2^14, start 1: after one TMCC block it holds 16384"
  pub block_holds : wordRegisterAfter block_shape (2 ^ 14) 1 ≡ 16384
  -- "rate 5, address 4958: bit 1 reaches 4997 (002). Rate 3, address 22065: bit 1 reaches 58": a table whose first row is
  -- this one address, bits of which only bit 1 is set, and how often they reach each position
  pub rate_5 : (j : ℕ) → times (rows_of 5) (1 ∷ 4958 ∷ []) (0 ∷ 1 ∷ []) j ≡ pick (eqb 4997 j) 1 0
  pub rate_3 : (j : ℕ) → times (rows_of 3) (1 ∷ 22065 ∷ []) (0 ∷ 1 ∷ []) j ≡ pick (eqb 58 j) 1 0
  -- "only bit 0 set, its one address 0: every parity bit is 1; address M − 1: only the last"
  pub address_first : (rows : ℕ) (t u : List ℕ) → Only rows t u 0 0 → parity_of rows t u ≡ replicate (positions rows) 1
  pub address_last : (rows : ℕ) (t u : List ℕ) → Only rows t u 0 (positions rows - 1) → parity_of rows t u ≡ replicate (positions rows - 1) 0 ++ (1 ∷ [])
  -- "zero message: BCH zero. Only the last message bit set: BCH is the generator without its top term"
  pub bch_zero : (n : ℕ) → bch_bits (replicate n 0) ≡ replicate 192 0
  pub bch_last : (n : ℕ) → bch_bits (replicate n 0 ++ (1 ∷ [])) ≡ digits 192 (generator ⊕ 2 ^ 192)
  -- "8PSK, first symbol: bits 0, 14960, 29920, and the other way round at rate 2. 32APSK last row: 8975, 17951, 26927,
  -- 35903, 44879"
  pub first_8psk : table 3 (bit_at 3 (symbols_of 3) (right_to_left 3 3) 0) ≡ 0 ∷ 14960 ∷ 29920 ∷ []
  pub first_8psk_rate_2 : table 3 (bit_at 3 (symbols_of 3) (right_to_left 3 2) 0) ≡ 29920 ∷ 14960 ∷ 0 ∷ []
  pub last_32apsk : table 5 (bit_at 5 (symbols_of 5) (right_to_left 5 8) 8975) ≡ 8975 ∷ 17951 ∷ 26927 ∷ 35903 ∷ 44879 ∷ []
