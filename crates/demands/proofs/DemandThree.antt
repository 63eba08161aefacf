-- Demand 3, proved.
use Rattle.std.specs.Prelude.{◌≡◌, refl, true, List, [], ◌↔◌, ℕ, ◌+◌, ◌-◌, ◌<◌, ◌≤◌, length}
use Rattle.std.proofs.Common.{sym, ap, ◌∙◌, arith, eq-eqb}
use Rattle.std.proofs.Math.Path.{ap₂}
use Rattle.lists.specs.ChoiceLaws.{then_zero, then_both}
use Rattle.lists.specs.PartLaws.{length_part}
use Rattle.lists.specs.Runs.{Octets}
use Rattle.lists.specs.RunLaws.{below_part}
use Rattle.bits.specs.Octets.{bits_of}
use Rattle.bits.specs.Sums.{added_octets}
use Rattle.bits.specs.OctetParts.{length_added_octets, added_part}
use Rattle.plan.specs.declared.Plan.{Plan}
use Rattle.plan.specs.declared.FrameState.{FrameState}
use Rattle.plan.specs.Rates.{modulation_ok, rate_ok, rows_of, symbols_of}
use Rattle.plan.specs.Needs.{Rows}
use Rattle.plan.specs.Sizes.{slot_octets, block_octets}
use Rattle.plan.specs.Plans.{modulation_of, rate_of, slots_of}
use Rattle.plan.proofs.PlanLaws.{accepted, Values, group_values}
use Rattle.plan.specs.Places.{group_at, carries}
use Rattle.plan.proofs.PlaceLaws.{group_holds}
use Rattle.plan.specs.Records.{plan_in}
use Rattle.plan.specs.Needs.{Ready}
use Rattle.symbols.specs.Labels.{labels_of_slot, labels_of_block, block_labels, slot_number as labelsNumber, block_number as blockLabelsNumber}
use Rattle.symbols.specs.CallLaws.{lengths_yes, slots_equal as label-slots, blocks_equal as label-blocks}
use Rattle.codeword.proofs.DemandThree as words
use Rattle.slot.specs.Slots.{source_octets, stuff_bits, slot_shape, slot_of}
use Rattle.slot.proofs.SlotLaws.{Source, fits, message, length_slot_of, slot_of_octets}
use Rattle.slot.specs.Calls.{rows_at, slot_number, code_answer, code_area}
use Rattle.slot.proofs.CallLaws.{Accepted-slot, accepted_slot}
use Rattle.slot.proofs.RoundTrips.{slot_number_lengths}
use Rattle.slot.proofs.DemandThree as slots
use Rattle.tmcc.specs.Blocks.{source_octets as tmccOctets, block_shape, message_of, block_of}
use Rattle.tmcc.proofs.BlockLaws.{fits as block-fits, message as block-message, length_block_of, block_of_octets}
use Rattle.tmcc.specs.Calls.{lent_number, code_number}
use Rattle.tmcc.proofs.CallLaws.{codable}
use Rattle.tmcc.proofs.RoundTrips.{lent_lengths}
use Rattle.tmcc.proofs.DemandThree as blocks
use Rattle.frame.specs.Tables.{table_of}
use Rattle.frame.specs.Steps.{table_at}
use Rattle.frame.proofs.StepLaws.{coded_data}
use Rattle.frame.specs.Frames.{rows_of_slot, register_before, state_before, slot_in, source_from, source_in, frame_of, frame_number}
use Rattle.frame.proofs.FrameLaws.{at, source_from_more, source_from_mono, data_long, slot_at}
use Rattle.frame.specs.Needs.{Lent}
use Rattle.frame.proofs.CallLaws.{frame_lent, frame_yes}
use Rattle.demands.specs.Statements.{Compared, OnePlace, SlotsCompared, FramesCompared, BlocksCompared, SlotsAdded, FramesAdded, BlocksAdded}

-- the symbol call takes a slot under the modulation and the rate of its place
symbols_taken : (m rate : ℕ) (c : List ℕ) → modulation_ok m ≡ true → rate_ok rate ≡ true → length c ≡ slot_octets → labelsNumber m rate (length c) (symbols_of m) ≡ 0
unfolding labelsNumber
symbols_taken m rate c h k l = rw (h, k) (lengths_yes slot_octets (symbols_of m) (length c) (symbols_of m) (record { octets = l; labels = refl }))

-- "The symbols of a slot .. are the labels that its symbol call makes of its octets": under any modulation and rate they
-- are equal exactly when header and data are
slot_symbols : (R : ℕ) (t : List ℕ) (mask r : ℕ) (x y : List ℕ) → Rows R → Source R x → Source R y → (m rate : ℕ) → modulation_ok m ≡ true
    → (labels_of_slot m rate (slot_of R t mask r x) ≡ labels_of_slot m rate (slot_of R t mask r y)) ↔ (x ≡ y)
slot_symbols R t mask r x y w a b m rate h =
    let e = label-slots m rate h (slot_of R t mask r x) (slot_of R t mask r y) (length_slot_of R t mask r x) (length_slot_of R t mask r y) (slot_of_octets R t mask r x) (slot_of_octets R t mask r y) in
    let d = slots.slots_equal R t mask r x y w a b in
    ((λ i. d.0 (e.0 i)), (λ i. e.1 (d.1 i)))

-- two slots c and d, coded from x and y at one place
compared : (R : ℕ) (t : List ℕ) (m rate mask r : ℕ) (x y : List ℕ) → Rows R → modulation_ok m ≡ true → rate_ok rate ≡ true → Source R x → Source R y
    → {c d : List ℕ} → c ≡ slot_of R t mask r x → d ≡ slot_of R t mask r y → Compared R t m rate mask r x y c d
unfolding slot_of
compared R t m rate mask r x y w h k a b e f =
    let F = slot_shape R in
    let p = message R x w a.long in
    let q = message R y w b.long in
    rw (e, f) (record {
      symbols_made = (symbols_taken m rate (slot_of R t mask r x) h k (length_slot_of R t mask r x), symbols_taken m rate (slot_of R t mask r y) h k (length_slot_of R t mask r y));
      symbols = slot_symbols R t mask r x y w a b m rate h;
      bch = words.bch_plain_equal F t mask r (bits_of x) (bits_of y) stuff_bits (fits R w) p q;
      bch_as_sent = words.bch_sent_equal F t mask r (bits_of x) (bits_of y) stuff_bits (fits R w) p q;
      ldpc = slots.parity_equal R t mask r x y w a b;
    })

-- the values of the group of a place
place_values : (s : FrameState) → Ready s → let g = group_at (plan_in s) s.slot in Values (modulation_of (plan_in s) g) (rate_of (plan_in s) g) (slots_of (plan_in s) g)
place_values s r =
    let a = accepted (plan_in s) r.sound.plan in
    group_values (plan_in s) (group_at (plan_in s) s.slot) a (group_holds (plan_in s) s.slot a r.sound.numbered r.left).group

-- a slot that was coded: what its call may assume, and what it leaves
module _ (s : FrameState) (t x a : List ℕ) (n : (code_answer s t x a).number ≡ 0) where
  granted : Accepted-slot s t x a
  unfolding code_answer
  granted = accepted_slot s t x a n

  left : code_area s t x a ≡ slot_of (rows_at s) t s.mask s.register x
  unfolding code_area code_answer
  left = rw (eq-eqb (slot_number s t x a) 0 n)

  source : Octets x → Source (rows_at s) x
  source o = record { octets = o; long = granted.areas.source_long }

-- the same, for a slot that was coded at a state z of the place of s
module _ {s z : FrameState} (e : OnePlace s z) (t y b : List ℕ) (n : (code_answer z t y b).number ≡ 0) where
  rows_there : rows_at z ≡ rows_at s
  unfolding rows_at
  rows_there = ap₂ (λ p k. rows_of (rate_of p (group_at p k))) e.plan e.slot

  left_there : code_area z t y b ≡ slot_of (rows_at s) t s.mask s.register y
  left_there = left z t y b n ∙ rw (rows_there, e.mask, e.register)

  source_there : Octets y → Source (rows_at s) y
  source_there o = rw (sym rows_there) (source z t y b n o)

pub slots_compared : SlotsCompared
slots_compared s z t x y a b e o q n m =
    let g = (granted s t x a n).place in
    let v = place_values s g.ready in
    compared (rows_at s) t _ _ s.mask s.register x y g.rows v.modulation v.rate (source s t x a n o) (source_there e t y b m q) (left s t x a n) (left_there e t y b m)

pub slots_added : SlotsAdded
unfolding code_answer
slots_added s u v t x y z a b c d f h o q r n m l k =
    let R = rows_at s in
    let g = granted s t x a n in
    let long = g.areas.source_long in
    let sum = added_octets (length x) x y z in
    let e : slot_number s t sum d ≡ 0 = slot_number_lengths s t sum d x a (length_added_octets (length x) x y z) (k ∙ sym g.areas.coded_long) ∙ n in (
      e,
      left s t sum d e
          ∙ ap (λ (i : ℕ). slot_of R t s.mask s.register (added_octets i x y z)) long
          ∙ slots.slots_three R t s.mask s.register x y z g.place.rows (source s t x a n o) (source_there f t y b m q) (source_there h t z c l r)
          ∙ sym (ap₂ (λ (i j : List ℕ). added_octets slot_octets i j (code_area v t z c)) (left s t x a n) (left_there f t y b m)
          ∙ ap (added_octets slot_octets (slot_of R t s.mask s.register x) (slot_of R t s.mask s.register y)) (left_there h t z c l)),
    )

-- a data slot of a frame that was coded
module _ (p : Plan) (mask start : ℕ) (ts x a : List ℕ) (n : frame_number p mask start ts (length x) (length a) ≡ 0) (k : ℕ) (h : k < 120) (c : carries p (k + 1) ≡ true) where
  abbrev lent : Lent p mask start ts (length x) (length a)
  lent = frame_lent p mask start ts (length x) (length a) n

  frame_left : slot_in (frame_of p ts mask start x a) k ≡ slot_of (rows_of_slot p (k + 1)) (table_of p ts (group_at p (k + 1))) mask (register_before p mask start k) (source_in p x k)
  unfolding table_at rows_at
  frame_left = slot_at p ts mask start x a lent.frame_long k h ∙ coded_data (state_before p mask start k) ts c (source_in p x k) (slot_in a k)

  frame_source : Octets x → Source (rows_of_slot p (k + 1)) (source_in p x k)
  frame_source o = record { octets = below_part 255 (source_from p k) (source_from p (k + 1)) x o; long = data_long p x lent.source_long k h c }

pub frames_compared : FramesCompared
frames_compared p mask start ts x y a b o q n m k h c =
    let l = frame_lent p mask start ts (length x) (length a) n in
    let g = at p ts mask start l.opened l.tables k h in
    let v = place_values (state_before p mask start k) g.ready in
    compared (rows_of_slot p (k + 1)) (table_of p ts (group_at p (k + 1))) _ _ mask (register_before p mask start k) (source_in p x k) (source_in p y k) g.rows v.modulation v.rate
    (frame_source p mask start ts x a n k h c o) (frame_source p mask start ts y b m k h c q) (frame_left p mask start ts x a n k h c) (frame_left p mask start ts y b m k h c)

-- the header and data octets of a slot are added where whole areas are
source_three : (p : Plan) (x y z : List ℕ) → length x ≡ source_from p 120 → length y ≡ source_from p 120 → length z ≡ source_from p 120
    → (k : ℕ) → k < 120 → carries p (k + 1) ≡ true
    → source_in p (added_octets (length x) x y z) k ≡ added_octets (source_octets (rows_of_slot p (k + 1))) (source_in p x k) (source_in p y k) (source_in p z k)
source_three p x y z lx ly lz k h c =
    let a = source_from p k in
    let e = source_from p (k + 1) in
    let w : e ≤ length x = omega (arith, source_from_mono p (k + 1) 120 (omega arith)) in
    let d : e - a ≡ source_octets (rows_of_slot p (k + 1)) = sym (length_part a e x w) ∙ data_long p x lx k h c in
    added_part a e (length x) x y z (omega (arith, source_from_more p k)) w refl (ly ∙ sym lx) (lz ∙ sym lx)
    ∙ ap (λ (i : ℕ). added_octets i (source_in p x k) (source_in p y k) (source_in p z k)) d

pub frames_added : FramesAdded
frames_added p mask start ts x y z a b c d o q r n m l k =
    let lx = frame_lent p mask start ts (length x) (length a) n in
    let ly = frame_lent p mask start ts (length y) (length b) m in
    let lz = frame_lent p mask start ts (length z) (length c) l in
    let sum = added_octets (length x) x y z in
    let e : frame_number p mask start ts (length sum) (length d) ≡ 0
    = frame_yes p mask start ts (length sum) (length d)
    (record { opened = lx.opened; source_long = length_added_octets (length x) x y z ∙ lx.source_long; frame_long = k ∙ lx.frame_long; tables = lx.tables }) in (
      e,
      λ i h g.
          let R = rows_of_slot p (i + 1) in
          let t = table_of p ts (group_at p (i + 1)) in
          let s = register_before p mask start i in
          frame_left p mask start ts sum d e i h g
          ∙ ap (slot_of R t mask s) (source_three p x y z lx.source_long ly.source_long lz.source_long i h g)
          ∙ slots.slots_three R t mask s (source_in p x i) (source_in p y i) (source_in p z i) (at p ts mask start lx.opened lx.tables i h).rows
          (frame_source p mask start ts x a n i h g o) (frame_source p mask start ts y b m i h g q) (frame_source p mask start ts z c l i h g r)
          ∙ sym (ap₂ (λ (u v : List ℕ). added_octets slot_octets u v (slot_in (frame_of p ts mask start z c) i)) (frame_left p mask start ts x a n i h g) (frame_left p mask start ts y b m i h g)
          ∙ ap (added_octets slot_octets (slot_of R t mask s (source_in p x i)) (slot_of R t mask s (source_in p y i))) (frame_left p mask start ts z c l i h g)),
    )

-- the symbol call takes a block
block_taken : (c : List ℕ) → length c ≡ block_octets → blockLabelsNumber (length c) block_labels ≡ 0
unfolding blockLabelsNumber
block_taken c l = lengths_yes block_octets block_labels (length c) block_labels (record { octets = l; labels = refl })

-- "31,680 BPSK labels": the symbols of two blocks are equal exactly when the 9,422 bits are
block_symbols : (t : List ℕ) (mask start : ℕ) (x y : List ℕ) → length x ≡ tmccOctets → length y ≡ tmccOctets
    → (labels_of_block (block_of t mask start x) ≡ labels_of_block (block_of t mask start y)) ↔ (message_of x ≡ message_of y)
unfolding block_of
block_symbols t mask start x y a b =
    let e = label-blocks (block_of t mask start x) (block_of t mask start y) (length_block_of t mask start x) (length_block_of t mask start y) (block_of_octets t mask start x) (block_of_octets t mask start y) in
    let d = words.words_equal block_shape t mask start (message_of x) (message_of y) [] block-fits (block-message x a) (block-message y b) in
    ((λ i. d.0 (e.0 i)), (λ i. e.1 (d.1 i)))

pub blocks_compared : BlocksCompared
unfolding block_of
blocks_compared mask start t x y a b n m =
    let lx = (codable mask start t x a n).lent.areas.source_long in
    let ly = (codable mask start t y b m).lent.areas.source_long in
    let mx = block-message x lx in
    let my = block-message y ly in
    record {
      symbols_made = (block_taken (block_of t mask start x) (length_block_of t mask start x), block_taken (block_of t mask start y) (length_block_of t mask start y));
      symbols = block_symbols t mask start x y lx ly;
      bch = words.bch_plain_equal block_shape t mask start (message_of x) (message_of y) [] block-fits mx my;
      bch_as_sent = words.bch_sent_equal block_shape t mask start (message_of x) (message_of y) [] block-fits mx my;
      ldpc = words.parity_equal block_shape t mask start (message_of x) (message_of y) [] block-fits mx my;
    }

pub blocks_added : BlocksAdded
unfolding code_number
blocks_added mask start t x y z a b c d n m l k =
    let gx = codable mask start t x a n in
    let gy = codable mask start t y b m in
    let gz = codable mask start t z c l in
    let lx = gx.lent.areas.source_long in
    let ly = gy.lent.areas.source_long in
    let lz = gz.lent.areas.source_long in
    let sum = added_octets tmccOctets x y z in
    let e = lent_lengths mask start t sum d x a (length_added_octets tmccOctets x y z ∙ sym lx) (k ∙ sym gx.lent.areas.coded_long) in
    let i = blocks.tail_three x y z lx ly lz gx.tail gy.tail gz.tail in (
      then_both (lent_number mask start t sum d) _ (e ∙ (then_zero (lent_number mask start t x a) _ n).0) (rw i),
      blocks.blocks_three t mask start x y z lx ly lz,
    )
