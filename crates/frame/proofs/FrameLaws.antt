-- Laws of whole frames: what the number 0 says, what holds of each slot's place, and `slot_at`, the part of each slot.
use Rattle.std.specs.Prelude.{◌≡◌, Bool, get_or}
use Rattle.std.proofs.Math.Path.{refl, ap}
use Rattle.std.proofs.Common.{◌∙◌, arith, add-one, eq-eqb}
use Rattle.std.proofs.Math.Bool.{true, false}
use mathlib.Core.List.{List}
use Prim.Native.Nat.{ℕ, zero, suc, ◌+◌, ◌*◌, ◌<◌, ◌≤◌}
use Rattle.std.proofs.Math.ListN.{length}
use Rattle.lists.specs.Choice.{pick}
use Rattle.lists.specs.Count.{joined}
use Rattle.lists.specs.CountLaws.{joined_at, length_joined, sum_more, sum_none, sum_same, sum_mono, length_table, get_or_table}
use Rattle.lists.specs.PartLaws.{length_part}
use Rattle.lists.specs.Pieces.{pieces_cut, length_pieces, pieces_at}
use Rattle.dispersal.specs.Register.{register_ok}
use Rattle.dispersal.specs.RegisterLaws.{after_ok}
use Rattle.parity_table.specs.Tables.{table_ok}
use Rattle.plan.specs.declared.Plan.{Plan}
use Rattle.plan.specs.Sizes.{slot_width, slot_octets, frame_octets}
use Rattle.plan.specs.Needs.{Rows}
use Rattle.plan.proofs.RateLaws.{rows_most}
use Rattle.plan.specs.Plans.{rate_of}
use Rattle.plan.proofs.PlanLaws.{accepted}
use Rattle.plan.specs.Places.{group_at, carries}
use Rattle.plan.proofs.PlaceLaws.{group_holds}
use Rattle.plan.specs.States.{open_number, opened}
use Rattle.plan.specs.Needs.{Sound, Ready}
use Rattle.plan.proofs.StateLaws.{open_sound}
use Rattle.slot.specs.Slots.{message_bits, source_octets, register_after, covered_bits}
use Rattle.slot.specs.Calls.{rows_at}
use Rattle.slot.proofs.CallLaws.{rows_known}
use Rattle.frame.specs.Tables.{tables_ok}
use Rattle.frame.proofs.TableLaws.{table_ok_law}
use Rattle.frame.specs.Steps.{table_at, coded_at, answer_at, stuff_at, position_at, read_at, state_after}
use Rattle.frame.proofs.StepLaws.{length_coded, length_read}
use Rattle.frame.specs.Frames.{rows_of_slot, register_before, state_before, slot_in, octets_of_slot, source_from, source_in, frame_of, answers_of, stuffs_of, positions_of, sources_of}

module _ (p : Plan) where
  pub source_from_none : source_from p 0 ≡ 0
  unfolding source_from
  source_from_none = sum_none (λ i. octets_of_slot p (i + 1))

  pub source_from_more : (k : ℕ) → source_from p (k + 1) ≡ source_from p k + octets_of_slot p (k + 1)
  unfolding source_from
  source_from_more k = sum_more k (λ i. octets_of_slot p (i + 1))

  pub source_from_mono : (k n : ℕ) → k ≤ n → source_from p k ≤ source_from p n
  unfolding source_from
  source_from_mono k n h = sum_mono k n (λ i. octets_of_slot p (i + 1)) h

-- no slot has more header and data octets than a slot has octets
pub octets_few : (p : Plan) (s : ℕ) → octets_of_slot p s ≤ slot_octets
unfolding octets_of_slot source_octets message_bits
octets_few p s = go (carries p s)
  where
    go : (b : Bool) → pick b (source_octets (rows_of_slot p s)) 0 ≤ slot_octets
    go true = omega (arith, rows_most (rate_of p (group_at p s)))
    go false = omega arith

module _ (p : Plan) (mask start : ℕ) where
  pub register_none : register_before p mask start 0 ≡ start
  unfolding register_before
  register_none = refl

  pub register_more : (k : ℕ)
      → register_before p mask start (k + 1) ≡ pick (carries p (k + 1)) (register_after (rows_of_slot p (k + 1)) mask (register_before p mask start k)) (register_before p mask start k)
  unfolding register_before
  register_more k = ap (register_before p mask start) (add-one k)

  -- the state after a slot is the one before the next
  pub state_more : (k : ℕ) → state_after (state_before p mask start k) ≡ state_before p mask start (k + 1)
  unfolding state_after rows_at
  state_more k = go (carries p (k + 1)) refl
    where
      go : (b : Bool) → carries p (k + 1) ≡ b → state_after (state_before p mask start k) ≡ state_before p mask start (k + 1)
      go true e = rw (register_more k, e)
      go false e = rw (register_more k, e)

  module _ (o : open_number p mask start ≡ 0) where
    stepped_ok : (b : Bool) (R r : ℕ) → register_ok slot_width r ≡ true → register_ok slot_width (pick b (register_after R mask r) r) ≡ true
    unfolding register_after
    stepped_ok true R r h = after_ok slot_width mask r (covered_bits R) (omega arith) (open_sound p mask start o).mask h
    stepped_ok false R r h = h

    register_ok_law : (k : ℕ) → register_ok slot_width (register_before p mask start k) ≡ true
    unfolding register_before
    register_ok_law zero = (open_sound p mask start o).register
    register_ok_law (suc k) = stepped_ok (carries p (k + 1)) (rows_of_slot p (k + 1)) (register_before p mask start k) (register_ok_law k)

    -- the state that opening hands out is the one before slot 1
    pub first_state : (opened p mask start).state ≡ state_before p mask start 0
    unfolding opened
    first_state = rw (eq-eqb (open_number p mask start) 0 o, register_none)

    -- plan and register of every state on the way are sound, the last one's too
    pub state_sound : (k : ℕ) → Sound (state_before p mask start k)
    state_sound k =
        let z = open_sound p mask start o in
        record { numbered = omega arith; plan = z.plan; mask = z.mask; start = z.start; register = register_ok_law k }

    -- and it can be worked on before slot 120 is past
    pub state_ready : (k : ℕ) → k < 120 → Ready (state_before p mask start k)
    state_ready k l = record { sound = state_sound k; left = omega arith }

-- what holds at slot k + 1 of a frame whose number is 0
pub record At (p : Plan) (ts : List ℕ) (mask start k : ℕ) : Type 0 where
  pub ready : Ready (state_before p mask start k)
  pub rows : Rows (rows_of_slot p (k + 1))
  pub table : table_ok (rows_of_slot p (k + 1)) (table_at (state_before p mask start k) ts) ≡ true

pub at : (p : Plan) (ts : List ℕ) (mask start : ℕ) → open_number p mask start ≡ 0 → tables_ok p ts ≡ true → (k : ℕ) → k < 120 → At p ts mask start k
unfolding table_at rows_at
at p ts mask start o t k l =
    let r = state_ready p mask start o k l in
    let g = (group_holds p (k + 1) (accepted p r.sound.plan) (omega arith) (omega arith)).group in
    record { ready = r; rows = rows_known (state_before p mask start k) r; table = table_ok_law p ts t (group_at p (k + 1)) g }

-- the header and data octets of one slot
module _ (p : Plan) (source : List ℕ) (l : length source ≡ source_from p 120) (k : ℕ) (h : k < 120) where
  pub length_source_in : length (source_in p source k) ≡ octets_of_slot p (k + 1)
  length_source_in =
      length_part (source_from p k) (source_from p (k + 1)) source (omega (arith, source_from_mono p (k + 1) 120 (omega arith)))
      ∙ omega (arith, source_from_more p k)

  pub data_long : carries p (k + 1) ≡ true → length (source_in p source k) ≡ source_octets (rows_of_slot p (k + 1))
  unfolding octets_of_slot
  data_long c = length_source_in ∙ rw c

-- the octets of one slot
pub length_slot_in : (area : List ℕ) (k : ℕ) → length area ≡ frame_octets → k < 120 → length (slot_in area k) ≡ slot_octets
length_slot_in area k l h = length_part (slot_octets * k) (slot_octets * (k + 1)) area (omega arith) ∙ omega arith

module _ (p : Plan) (ts : List ℕ) (mask start : ℕ) (source found : List ℕ) (l : length found ≡ frame_octets) where
  parts : ℕ → List ℕ
  parts k = coded_at (state_before p mask start k) ts (source_in p source k) (slot_in found k)

  length_part_at : (k : ℕ) → k < 120 → length (parts k) ≡ slot_octets
  unfolding parts
  length_part_at k h = length_coded (state_before p mask start k) ts (source_in p source k) (slot_in found k) (length_slot_in found k l h)

  -- a coded frame is these parts end to end
  frame_parts : frame_of p ts mask start source found ≡ joined 120 parts
  unfolding frame_of parts
  frame_parts = refl

  pub length_frame_of : length (frame_of p ts mask start source found) ≡ frame_octets
  length_frame_of = ap length frame_parts ∙ length_pieces 120 slot_octets parts length_part_at

  -- the part of slot k + 1 in a coded frame
  pub slot_at : (k : ℕ) → k < 120 → slot_in (frame_of p ts mask start source found) k ≡ coded_at (state_before p mask start k) ts (source_in p source k) (slot_in found k)
  unfolding parts
  slot_at k h = ap (λ (a : List ℕ). slot_in a k) frame_parts ∙ pieces_at 120 slot_octets parts length_part_at k h

pub length_answers_of : (p : Plan) (ts : List ℕ) (mask start : ℕ) (frame : List ℕ) → length (answers_of p ts mask start frame) ≡ 120
unfolding answers_of
length_answers_of p ts mask start frame = length_table 120 (λ k. answer_at (state_before p mask start k) ts (slot_in frame k))

-- the answer octet of slot k + 1 in a read frame
pub answer_at_law : (p : Plan) (ts : List ℕ) (mask start : ℕ) (frame : List ℕ) (k : ℕ) → k < 120
    → get_or (answers_of p ts mask start frame) k 0 ≡ answer_at (state_before p mask start k) ts (slot_in frame k)
unfolding answers_of
answer_at_law p ts mask start frame k h = get_or_table 120 (λ i. answer_at (state_before p mask start i) ts (slot_in frame i)) k h

-- and its stuff bits
pub length_stuffs_of : (p : Plan) (ts : List ℕ) (mask start : ℕ) (frame : List ℕ) → length (stuffs_of p ts mask start frame) ≡ 120
unfolding stuffs_of
length_stuffs_of p ts mask start frame = length_table 120 _

pub stuff_at_law : (p : Plan) (ts : List ℕ) (mask start : ℕ) (frame : List ℕ) (k : ℕ) → k < 120
    → get_or (stuffs_of p ts mask start frame) k 0 ≡ stuff_at (state_before p mask start k) ts (slot_in frame k)
unfolding stuffs_of
stuff_at_law p ts mask start frame k h = get_or_table 120 _ k h

-- and its failing position
pub length_positions_of : (p : Plan) (ts : List ℕ) (mask start : ℕ) (frame : List ℕ) → length (positions_of p ts mask start frame) ≡ 120
unfolding positions_of
length_positions_of p ts mask start frame = length_table 120 _

pub position_at_law : (p : Plan) (ts : List ℕ) (mask start : ℕ) (frame : List ℕ) (k : ℕ) → k < 120
    → get_or (positions_of p ts mask start frame) k 0 ≡ position_at (state_before p mask start k) ts (slot_in frame k)
unfolding positions_of
position_at_law p ts mask start frame k h = get_or_table 120 _ k h

module _ (p : Plan) (ts : List ℕ) (mask start : ℕ) (frame found : List ℕ) (l : length found ≡ source_from p 120) where
  sources : ℕ → List ℕ
  sources k = read_at (state_before p mask start k) ts (slot_in frame k) (source_in p found k)

  length_source_at : (k : ℕ) → k < 120 → length (sources k) ≡ octets_of_slot p (k + 1)
  unfolding octets_of_slot rows_at sources
  length_source_at k h = length_read (state_before p mask start k) ts (slot_in frame k) (source_in p found k) (length_source_in p found l k h)

  begins : (n : ℕ) → n ≤ 120 → joined_at sources n ≡ source_from p n
  unfolding source_from
  begins n h = sum_same n (λ i. length (sources i)) (λ i. octets_of_slot p (i + 1)) (λ i j. length_source_at i (omega arith))

  pub length_sources_of : length (sources_of p ts mask start frame found) ≡ source_from p 120
  unfolding sources_of sources
  length_sources_of = length_joined 120 sources ∙ begins 120 (omega arith)

  -- the header and data octets of slot k + 1 in a read frame
  pub source_at : (k : ℕ) → k < 120 → source_in p (sources_of p ts mask start frame found) k ≡ read_at (state_before p mask start k) ts (slot_in frame k) (source_in p found k)
  unfolding sources_of sources
  source_at k h = pieces_cut 120 sources (source_from p) begins k h
