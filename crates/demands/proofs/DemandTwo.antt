-- Demand 2, proved.
use Rattle.std.specs.Prelude.{◌≡◌, refl, Bool, true, false, List, ◌++◌, ◌↔◌, ℕ, ◌+◌, ◌-◌, ◌*◌, ◌<◌, length, take, drop}
use Rattle.std.proofs.Math.Path.{sym, ap}
use Rattle.std.proofs.Common.{◌∙◌, inl, arith, eq-eqb, take-append-drop, take_at, drop_at}
use Rattle.std.proofs.Math.ListN.{get_or}
use Rattle.lists.specs.Choice.{pick}
use Rattle.lists.specs.ChoiceLaws.{then_zero, then_both, clash}
use Rattle.lists.specs.CountLaws.{joined_same}
use Rattle.lists.specs.Pieces.{pieces_all}
use Rattle.lists.specs.Runs.{Octets}
use Rattle.lists.specs.RunLaws.{below_append, below_part}
use Rattle.refusal.specs.Numbers.{DUMMY}
use Rattle.dispersal.specs.DispersalLaws.{dispersed_twice}
use Rattle.bch.proofs.BchLaws.{bch_bits_bits, length_bch_bits, bch_bits_is_remainder, bch_bits_only}
use Rattle.plan.specs.declared.Plan.{Plan}
use Rattle.plan.specs.declared.FrameState.{FrameState}
use Rattle.plan.specs.Sizes.{slot_octets, frame_octets}
use Rattle.plan.specs.Places.{group_at, carries}
use Rattle.plan.specs.Rates.{packets_of}
use Rattle.plan.proofs.RateLaws.{five_hold}
use Rattle.plan.specs.Plans.{modulation_of, slots_of, data_slots_of}
use Rattle.plan.proofs.PlanLaws.{accepted, group_values}
use Rattle.plan.proofs.PlaceLaws as runs
use Rattle.plan.proofs.PlaceLaws.{group_holds}
use Rattle.packets.specs.Packets.{packed}
use Rattle.packets.specs.PacketLaws.{packed_octets, pack_unpack, unpack_pack}
use Rattle.symbols.specs.CallLaws.{slot_labels_slot, labels_slot_labels, block_labels_block, labels_block_labels}
use Rattle.slot.specs.Slots.{slot_shape, slot_of}
use Rattle.slot.proofs.SlotLaws.{Source}
use Rattle.codeword.specs.Reading.{word_number, Good}
use Rattle.codeword.proofs.ReadingLaws.{Received, word_good}
use Rattle.slot.specs.Reading.{received_number, stuff_in, no_stuff, stuff_ones, source_of}
use Rattle.slot.proofs.ReadingLaws.{received_good}
use Rattle.slot.specs.Calls.{rows_at, code_area, read_area, CodedAgain}
use Rattle.slot.proofs.RoundTrips as slots
use Rattle.tmcc.specs.Blocks.{block_shape}
use Rattle.tmcc.proofs.BlockLaws.{fits as block-fits}
use Rattle.tmcc.specs.Calls.{lent_number as blockLentNumber, read_number}
use Rattle.tmcc.proofs.CallLaws.{lent}
use Rattle.tmcc.proofs.RoundTrips as blocks
use Rattle.frame.specs.Tables.{table_of}
use Rattle.frame.specs.Steps.{table_at, answer_at, stuff_at, read_at}
use Rattle.frame.proofs.StepLaws.{coded_data, coded_dummy, answer_data, answer_dummy, stuff_dummy, position_dummy, read_dummy}
use Rattle.frame.specs.Frames.{rows_of_slot, register_before, state_before, slot_in, octets_of_slot, source_from, source_in, frame_of, answers_of, stuffs_of, sources_of}
use Rattle.frame.proofs.FrameLaws.{at, source_from_none, source_from_more, data_long, length_slot_in, length_frame_of, length_sources_of, slot_at, answer_at_law, stuff_at_law, position_at_law, source_at}
use Rattle.frame.specs.Needs.{Lent}
use Rattle.frame.proofs.CallLaws.{frame_lent, frame_yes, read_lent, read_yes}
use Rattle.frame.proofs.SlotBySlot.{coded_to_law, read_to_law, taken, code_answer_law, code_area_law, read_answer_law, read_area_law, pass_answer}
use Rattle.lookup.proofs.LookupLaws.{tables_accepted}
use Rattle.demands.specs.Statements.{SlotCodedThenRead, SlotReadThenCoded, header_octets, PacketsCodedThenRead, PacketsReadThenPacked, PublishedTablesTaken, SlotAccepted, FrameSlotAccepted, BlockAccepted, SlotMovesOn, PackedThenUnpacked, UnpackedThenPacked, FrameCodedThenRead, FrameReadThenCoded, FrameCodedBySlots, FrameReadBySlots, BlockCodedThenRead, BlockReadThenCoded, SlotLabelsBack, LabelsSlotBack, BlockLabelsBack, LabelsBlockBack, RunsCover, FivesHold, BchRemainder, DispersedTwice}

pub slot_coded_then_read : SlotCodedThenRead
slot_coded_then_read = slots.code_then_read

pub slot_read_then_coded : SlotReadThenCoded
slot_read_then_coded = slots.read_then_code

pub packets_coded_then_read : PacketsCodedThenRead
packets_coded_then_read s rate room t header packets coded out oh op lh packs lo h =
    let octets = packed (packets_of rate) packets in
    let source = header ++ octets in
    let read : read_area s t (code_area s t source coded) out ≡ source =
    (slots.code_then_read s t source coded out (below_append 255 header octets oh (packed_octets (packets_of rate) packets op)) lo h).octets_are in
    let behind = ap (drop header_octets) read ∙ drop_at header octets header_octets lh in
    record { header_is = ap (take header_octets) read ∙ take_at header octets header_octets lh; packets_are = rw behind (pack_unpack rate packets room packs) }

pub packets_read_then_packed : PacketsReadThenPacked
packets_read_then_packed rate room source h =
    ap (λ (octets : List ℕ). take header_octets source ++ octets) (unpack_pack rate (drop header_octets source) room h).same
    ∙ take-append-drop header_octets source

pub published_tables_taken : PublishedTablesTaken
published_tables_taken = tables_accepted

pub slot_accepted : SlotAccepted
slot_accepted s t coded source = (
  (λ h. let n = (slots.read_moves s t coded source).0 (inl h) in (n, (slots.read_good s t coded source n).0 h)),
  (λ o. (slots.read_good s t coded source o.0).1 o.1),
)

pub block_accepted : BlockAccepted
unfolding read_number
block_accepted mask start t block source = (
  (λ h.
      let z = then_zero (blockLentNumber mask start t source block) _ h in
      (z.0, (good z.0).0 z.1)),
  (λ o. then_both (blockLentNumber mask start t source block) _ o.0 ((good o.0).1 o.1)),
)
  where
    good : blockLentNumber mask start t source block ≡ 0 → (word_number block_shape t mask start block ≡ 0) ↔ Good block_shape t mask start block
    good n = word_good block_shape t mask start block block-fits (lent mask start t source block n).areas.coded_long

pub slot_moves_on : SlotMovesOn
slot_moves_on s t source coded other received out n m = sym (slots.next_same s t source coded other received out n m)

pub packed_then_unpacked : PackedThenUnpacked
packed_then_unpacked = pack_unpack

pub unpacked_then_packed : UnpackedThenPacked
unpacked_then_packed = unpack_pack

pub block_coded_then_read : BlockCodedThenRead
block_coded_then_read = blocks.code_then_read

pub block_read_then_coded : BlockReadThenCoded
block_read_then_coded = blocks.read_then_code

pub slot_labels_back : SlotLabelsBack
slot_labels_back = slot_labels_slot

pub labels_slot_back : LabelsSlotBack
labels_slot_back = labels_slot_labels

pub block_labels_back : BlockLabelsBack
block_labels_back = block_labels_block

pub labels_block_back : LabelsBlockBack
labels_block_back = labels_block_labels

pub runs_cover : RunsCover
runs_cover p h = record {
  cover = λ s l m. ((group_holds p s (accepted p h) l m).group, runs.runs_cover p s h l m);
  once = λ s g b. runs.runs_once p s g b h;
  within = λ s g b. runs.runs_within p s g b h;
}

pub fives_hold : FivesHold
unfolding data_slots_of
fives_hold p g h l =
    let v = group_values p g (accepted p h) l in
    five_hold (modulation_of p g) (slots_of p g) v.modulation v.fives

pub bch_remainder : BchRemainder
bch_remainder m o = record {
  bits = bch_bits_bits m;
  long = length_bch_bits m;
  divides = (bch_bits_is_remainder m o).divides;
  only = λ b z l d. sym (bch_bits_only m b o z l d);
}

pub dispersed_back : DispersedTwice
dispersed_back = dispersed_twice

-- a dummy has no header and data octets
no_octets : (p : Plan) (u v : List ℕ) (k : ℕ) → carries p (k + 1) ≡ false → source_in p u k ≡ source_in p v k
unfolding octets_of_slot
no_octets p u v k c =
    let z : octets_of_slot p (k + 1) ≡ 0 = rw c in
    let e : source_from p (k + 1) - source_from p k ≡ 0 = omega (arith, source_from_more p k) in
    rw e

-- a data slot of a coded frame, read: 0, and its header and data octets
module _ (p : Plan) (mask start : ℕ) (ts source frame out : List ℕ) (o : Octets source)
    (l : Lent p mask start ts (length source) (length frame)) (k : ℕ) (h : k < 120) where
  abbrev here : FrameState
  here = state_before p mask start k

  abbrev coded : List ℕ
  coded = frame_of p ts mask start source frame

  abbrev reading : ℕ → ℕ → List ℕ → Type 0
  reading n x octets = (answer_at here ts (slot_in coded k) ≡ n) × (read_at here ts (slot_in coded k) (source_in p out k) ≡ octets) × (stuff_at here ts (slot_in coded k) ≡ x)

  data_back : carries p (k + 1) ≡ true → reading 0 stuff_ones (source_in p source k)
  unfolding read_at stuff_at rows_at
  data_back c =
      let a = at p ts mask start l.opened l.tables k h in
      let e : slot_in coded k ≡ slot_of (rows_of_slot p (k + 1)) (table_at here ts) mask (register_before p mask start k) (source_in p source k)
      = slot_at p ts mask start source frame l.frame_long k h ∙ coded_data here ts c (source_in p source k) (slot_in frame k) in
      let s : Source (rows_of_slot p (k + 1)) (source_in p source k)
      = record { octets = below_part 255 (source_from p k) (source_from p (k + 1)) source o; long = data_long p source l.source_long k h c } in
      let r = slots.coded_read (rows_of_slot p (k + 1)) (table_at here ts) mask (register_before p mask start k) (source_in p source k) a.rows s in
      let n : answer_at here ts (slot_in coded k) ≡ 0
      = answer_data here ts c (slot_in coded k) ∙ ap (received_number (rows_of_slot p (k + 1)) (table_at here ts) mask (register_before p mask start k)) e ∙ r.number in (
        n,
        rw (eq-eqb _ 0 n) (ap (source_of (rows_of_slot p (k + 1)) mask (register_before p mask start k)) e ∙ r.source),
        rw (eq-eqb _ 0 n) (ap (stuff_in (rows_of_slot p (k + 1)) mask (register_before p mask start k)) e ∙ r.stuff),
      )

  dummy_back : carries p (k + 1) ≡ false → reading DUMMY no_stuff (source_in p source k)
  dummy_back c =
      (answer_dummy here ts c (slot_in coded k), read_dummy here ts c (slot_in coded k) (source_in p out k) ∙ no_octets p out source k c, stuff_dummy here ts c (slot_in coded k))

  slot_back : reading (pick (carries p (k + 1)) 0 DUMMY) (pick (carries p (k + 1)) stuff_ones no_stuff) (source_in p source k)
  slot_back = go (carries p (k + 1)) refl
    where
      go : (b : Bool) → carries p (k + 1) ≡ b → reading (pick (carries p (k + 1)) 0 DUMMY) (pick (carries p (k + 1)) stuff_ones no_stuff) (source_in p source k)
      go true c = rw c (data_back c)
      go false c = rw c (dummy_back c)

pub frame_coded_then_read : FrameCodedThenRead
unfolding sources_of
frame_coded_then_read p mask start ts source frame out answers stuff positions o lo la ls lp n =
    let l = frame_lent p mask start ts (length source) (length frame) n in
    let c = frame_of p ts mask start source frame in
    record {
      number = read_yes p mask start ts (length out) (length c) (length answers) (length stuff) (length positions) la ls lp
          (record { opened = l.opened; source_long = lo ∙ l.source_long; frame_long = length_frame_of p ts mask start source frame l.frame_long; tables = l.tables });
      sources = joined_same 120 (λ k. read_at (state_before p mask start k) ts (slot_in c k) (source_in p out k)) (source_in p source) (λ k h. (slot_back p mask start ts source frame out o l k h).1)
          ∙ pieces_all 120 (source_from p) source (source_from_none p) (λ k h. omega (arith, source_from_more p k)) l.source_long;
      each = λ k h. answer_at_law p ts mask start c k h ∙ (slot_back p mask start ts source frame out o l k h).0;
      stuffed = λ k h. stuff_at_law p ts mask start c k h ∙ (slot_back p mask start ts source frame out o l k h).2;
    }

-- an accepted data slot of a frame that was read, coded again
module _ (p : Plan) (mask start : ℕ) (ts frame source out : List ℕ) (o : Octets frame) (lo : length out ≡ frame_octets)
    (l : Lent p mask start ts (length source) (length frame)) (k : ℕ) (h : k < 120) (c : carries p (k + 1) ≡ true) where
  slot_again : get_or (answers_of p ts mask start frame) k 0 ≡ 0
      → CodedAgain (rows_of_slot p (k + 1)) (table_of p ts (group_at p (k + 1))) mask (register_before p mask start k) (get_or (stuffs_of p ts mask start frame) k 0)
      (slot_in frame k) (slot_in (frame_of p ts mask start (sources_of p ts mask start frame source) out) k)
  unfolding read_at stuff_at table_at rows_at
  slot_again e =
      let s = state_before p mask start k in
      let R = rows_of_slot p (k + 1) in
      let t = table_at s ts in
      let r = register_before p mask start k in
      let d = slot_in frame k in
      let m = sources_of p ts mask start frame source in
      let n : answer_at s ts d ≡ 0 = sym (answer_at_law p ts mask start frame k h) ∙ e in
      let g : received_number R t mask r d ≡ 0 = sym (answer_data s ts c d) ∙ n in
      let w : Received (slot_shape R) d = record { octets = below_part 255 (slot_octets * k) (slot_octets * (k + 1)) frame o; long = length_slot_in frame k l.frame_long h } in
      let z : source_in p m k ≡ source_of R mask r d = source_at p ts mask start frame source l.source_long k h ∙ rw (eq-eqb _ 0 n) in
      let x : get_or (stuffs_of p ts mask start frame) k 0 ≡ stuff_in R mask r d = stuff_at_law p ts mask start frame k h ∙ rw (eq-eqb _ 0 n) in
      let f : slot_in (frame_of p ts mask start m out) k ≡ slot_of R t mask r (source_of R mask r d)
      = slot_at p ts mask start m out lo k h ∙ coded_data s ts c (source_in p m k) (slot_in out k) ∙ ap (slot_of R t mask r) z in
      rw (x, f) (slots.read_coded R t mask r d (at p ts mask start l.opened l.tables k h).rows w g)

pub frame_read_then_coded : FrameReadThenCoded
frame_read_then_coded p mask start ts frame source answers stuff positions out o lo n =
    let l = (read_lent p mask start ts (length source) (length frame) (length answers) (length stuff) (length positions) n).3 in
    let long = length_sources_of p ts mask start frame source l.source_long in
    record {
      number = frame_yes p mask start ts (length (sources_of p ts mask start frame source)) (length out)
          (record { opened = l.opened; source_long = long; frame_long = lo ∙ l.frame_long; tables = l.tables });
      slots = λ k h c. slot_again p mask start ts frame source out o (lo ∙ l.frame_long) l k h c;
    }

-- a data slot is answered as a received slot is, and a dummy is answered 2
pub frame_slot_accepted : FrameSlotAccepted
unfolding rows_at table_at
frame_slot_accepted p mask start ts source frame answers stuff positions n k h = go (carries p (k + 1)) refl
  where
    s : FrameState
    s = state_before p mask start k

    d : List ℕ
    d = slot_in frame k

    good : Type 0
    good = Good (slot_shape (rows_of_slot p (k + 1))) (table_of p ts (group_at p (k + 1))) mask (register_before p mask start k) d

    l : Lent p mask start ts (length source) (length frame)
    l = (read_lent p mask start ts (length source) (length frame) (length answers) (length stuff) (length positions) n).3

    right : (received_number (rows_of_slot p (k + 1)) (table_of p ts (group_at p (k + 1))) mask (register_before p mask start k) d ≡ 0) ↔ good
    right =
        received_good (rows_of_slot p (k + 1)) (table_of p ts (group_at p (k + 1))) mask (register_before p mask start k) d
        (at p ts mask start l.opened l.tables k h).rows (length_slot_in frame k l.frame_long h)

    go : (b : Bool) → carries p (k + 1) ≡ b → (get_or (answers_of p ts mask start frame) k 0 ≡ 0) ↔ ((carries p (k + 1) ≡ true) × good)
    go true c =
        let e = answer_at_law p ts mask start frame k h ∙ answer_data s ts c d in
        ((λ z. (c, right.0 (sym e ∙ z))), (λ o. e ∙ right.1 o.1))
    go false c =
        let e = answer_at_law p ts mask start frame k h ∙ answer_dummy s ts c d in
        ((λ z. absurd (omega (arith, e, z))), (λ o. absurd (clash (carries p (k + 1)) c o.0)))

pub frame_coded_by_slots : FrameCodedBySlots
frame_coded_by_slots p mask start ts source frame n =
    let l = frame_lent p mask start ts (length source) (length frame) n in
    let to = coded_to_law p mask start ts source frame l in
    record {
      state = to;
      data_slot = λ k h c.
          let s = state_before p mask start k in
          let t = taken p mask start ts source frame l k h c in
          rw (to k (omega arith)) (
            (code_answer_law s ts (source_in p source k) (slot_in frame k) t c).0,
            code_area_law s ts (source_in p source k) (slot_in frame k) t c ∙ sym (slot_at p ts mask start source frame l.frame_long k h),
          );
      dummy = λ k h c.
          let s = state_before p mask start k in
          rw (to k (omega arith)) (
            (pass_answer s ts (at p ts mask start l.opened l.tables k h).ready c).0,
            slot_at p ts mask start source frame l.frame_long k h ∙ coded_dummy s ts c (source_in p source k) (slot_in frame k),
          );
    }

pub frame_read_by_slots : FrameReadBySlots
frame_read_by_slots p mask start ts source frame answers stuff positions n =
    let l = (read_lent p mask start ts (length source) (length frame) (length answers) (length stuff) (length positions) n).3 in
    let to = read_to_law p mask start ts source frame l in
    record {
      state = to;
      data_slot = λ k h c.
          let s = state_before p mask start k in
          let t = taken p mask start ts source frame l k h c in
          rw (to k (omega arith)) (
            (read_answer_law s ts (source_in p source k) (slot_in frame k) t c).0 ∙ sym (answer_at_law p ts mask start frame k h),
            (read_answer_law s ts (source_in p source k) (slot_in frame k) t c).2 ∙ sym (stuff_at_law p ts mask start frame k h),
            (read_answer_law s ts (source_in p source k) (slot_in frame k) t c).3 ∙ sym (position_at_law p ts mask start frame k h),
            read_area_law s ts (source_in p source k) (slot_in frame k) t c ∙ sym (source_at p ts mask start frame source l.source_long k h),
          );
      dummy = λ k h c.
          let s = state_before p mask start k in
          rw (to k (omega arith)) (
            (pass_answer s ts (at p ts mask start l.opened l.tables k h).ready c).0,
            answer_at_law p ts mask start frame k h ∙ answer_dummy s ts c (slot_in frame k),
            stuff_at_law p ts mask start frame k h ∙ stuff_dummy s ts c (slot_in frame k),
            position_at_law p ts mask start frame k h ∙ position_dummy s ts c (slot_in frame k),
          );
    }
