-- Laws of blocks: what stands in the fields of one that is written; written and read again; read and written again.
use Rattle.std.specs.Prelude.{◌≡◌, ℕ, ◌+◌, ◌*◌, ◌-◌, ◌^◌, ◌<◌, ◌≤◌, eqb, leb, length, take, drop, replicate}
use Rattle.std.proofs.Math.Path.{refl, sym, ap, ap₂}
use Rattle.std.proofs.Common.{◌∙◌, drop_of_length-le, take-append-drop, drop-drop, get_or-drop}
use Rattle.std.proofs.Math.Bool.{true}
use mathlib.Core.List.{List, ◌++◌, append_assoc}
use native.Mathlib.Omega.{arith}
use borrow.Author.Tests.{eq-eqb, eqb-true, ltb-true}
use Rattle.std.proofs.Math.ListN.{get_or}
use Rattle.std.proofs.Math.Seq.{take_at}
use Rattle.lists.specs.Choice.{pick}
use Rattle.lists.specs.ChoiceLaws.{and_left, and_right, then_zero, not_refused}
use Rattle.lists.specs.Count.{joined}
use Rattle.lists.specs.Parts.{part}
use Rattle.lists.specs.PartLaws.{length_part, part_rest}
use Rattle.lists.specs.Runs.{Octets}
use Rattle.lists.specs.RunLaws.{below_part}
use Rattle.refusal.specs.Numbers.{REGISTER, BLOCK}
use Rattle.bits.specs.Octets.{octets_of}
use Rattle.bits.specs.Same.{same}
use Rattle.bits.specs.SameLaws.{same_is, same_true}
use Rattle.dispersal.specs.Register.{mask_ok, register_ok, settings_ok}
use Rattle.plan.specs.declared.Plan.{Plan}
use Rattle.plan.specs.Sizes.{slot_width, block_width}
use Rattle.plan.specs.Plans.{plan_number}
use Rattle.plan.proofs.PlanLaws.{accepted}
use Rattle.plan_octets.specs.Groups.{of_octets, group_of, groups_of, unused_zero}
use Rattle.plan_octets.specs.GroupLaws.{read_written, written_read, unused_zeros, unused_same}
use Rattle.setting_block.specs.declared.Registers.{Registers}
use Rattle.setting_block.specs.Layout.{Field, layout, mark, setting_octets}
use Rattle.octet_numbers.specs.Numbers.{big_endian, number_of, sum_of, all_zero}
use Rattle.octet_numbers.specs.NumberLaws.{number_written, written_number, sum_below, zeros_zero, zero_all, zero_at, zero_replicate}
use Rattle.setting_block.specs.Blocks.{plan_octets, head_octets, register_octets, body, block_of, field_in, number_in, plan_in, registers_in, unused_in, block_ok, registers_ok, setting_number, block_number}

pub length_plan : (e : ℕ) (p : Plan) → length (plan_octets e p) ≡ 25
unfolding big_endian octets_of groups_of group_of joined
length_plan e p = refl

pub length_head : (e : ℕ) (p : Plan) → length (head_octets e p) ≡ 30
unfolding big_endian octets_of groups_of group_of joined
length_head e p = refl

pub length_registers : (e : ℕ) (r : Registers) → length (register_octets e r) ≡ 16
unfolding big_endian octets_of
length_registers e r = refl

-- what stands in the fields of a written block
module _ (e : ℕ) (p : Plan) (r : Registers) where
  pub length_body : length (body e p r) ≡ (layout e).sum.at
  unfolding body big_endian octets_of groups_of group_of joined
  length_body = refl

  pub length_block : length (block_of e p r) ≡ setting_octets
  unfolding block_of body big_endian octets_of groups_of group_of joined
  length_block = refl

  pub mark_in : field_in (layout e).mark (block_of e p r) ≡ mark
  unfolding block_of body
  mark_in = refl

  pub edition_in : field_in (layout e).edition (block_of e p r) ≡ big_endian (layout e).edition.octets e
  unfolding block_of body big_endian octets_of
  edition_in = refl

  pub count_in : field_in (layout e).count (block_of e p r) ≡ big_endian (layout e).count.octets p.count
  unfolding block_of body big_endian octets_of
  count_in = refl

  pub groups_in : field_in (layout e).groups (block_of e p r) ≡ groups_of p
  unfolding block_of body big_endian octets_of groups_of group_of joined
  groups_in = refl

  pub slot_mask_in : field_in (layout e).slot_mask (block_of e p r) ≡ big_endian (layout e).slot_mask.octets r.slots.mask
  unfolding block_of body big_endian octets_of groups_of group_of joined
  slot_mask_in = refl

  pub slot_start_in : field_in (layout e).slot_start (block_of e p r) ≡ big_endian (layout e).slot_start.octets r.slots.start
  unfolding block_of body big_endian octets_of groups_of group_of joined
  slot_start_in = refl

  pub tmcc_mask_in : field_in (layout e).tmcc_mask (block_of e p r) ≡ big_endian (layout e).tmcc_mask.octets r.tmcc.mask
  unfolding block_of body big_endian octets_of groups_of group_of joined
  tmcc_mask_in = refl

  pub tmcc_start_in : field_in (layout e).tmcc_start (block_of e p r) ≡ big_endian (layout e).tmcc_start.octets r.tmcc.start
  unfolding block_of body big_endian octets_of groups_of group_of joined
  tmcc_start_in = refl

  pub zeros_in : field_in (layout e).zeros (block_of e p r) ≡ replicate (layout e).zeros.octets 0
  unfolding block_of body big_endian octets_of groups_of group_of joined
  zeros_in = refl

  pub sum_in : field_in (layout e).sum (block_of e p r) ≡ big_endian (layout e).sum.octets (sum_of (body e p r))
  unfolding block_of body big_endian octets_of groups_of group_of joined
  sum_in = refl

  pub body_in : take (layout e).sum.at (block_of e p r) ≡ body e p r
  unfolding block_of
  body_in = take_at (body e p r) (big_endian (layout e).sum.octets (sum_of (body e p r))) (layout e).sum.at length_body

-- registers that are accepted fit their fields
pub record Narrow (r : Registers) : Type 0 where
  pub slot_mask : r.slots.mask < 2 ^ 32
  pub slot_start : r.slots.start < 2 ^ 32
  pub tmcc_mask : r.tmcc.mask < 2 ^ 32
  pub tmcc_start : r.tmcc.start < 2 ^ 32

narrow_mask : (w x : ℕ) → 2 ^ w ≤ 2 ^ 32 → mask_ok w x ≡ true → x < 2 ^ 32
unfolding mask_ok
narrow_mask w x l h = omega (arith, ltb-true x (2 ^ w) (and_right (leb (2 ^ (w - 1)) x) _ h))

narrow_start : (w x : ℕ) → 2 ^ w ≤ 2 ^ 32 → register_ok w x ≡ true → x < 2 ^ 32
unfolding register_ok
narrow_start w x l h = omega (arith, ltb-true x (2 ^ w) (and_right (leb 1 x) _ h))

-- plan and registers that are not refused
pub record Sound (p : Plan) (r : Registers) : Type 0 where
  pub plan : plan_number p ≡ 0
  pub count : p.count < 2 ^ 8
  pub narrow : Narrow r

pub sound : (p : Plan) (r : Registers) → setting_number p r ≡ 0 → Sound p r
unfolding setting_number registers_ok
sound p r h =
    let a = then_zero (plan_number p) _ h in
    let t = not_refused (registers_ok r) REGISTER (omega arith) a.1 in
    let s = and_left (settings_ok slot_width r.slots.mask r.slots.start) _ t in
    let u = and_right (settings_ok slot_width r.slots.mask r.slots.start) _ t in
    record {
      plan = a.0;
      count = omega (arith, (accepted p a.0).high);
      narrow =
          record {
            slot_mask = narrow_mask slot_width r.slots.mask (omega arith) (and_left (mask_ok slot_width r.slots.mask) _ s);
            slot_start = narrow_start slot_width r.slots.start (omega arith) (and_right (mask_ok slot_width r.slots.mask) _ s);
            tmcc_mask = narrow_mask block_width r.tmcc.mask (omega arith) (and_left (mask_ok block_width r.tmcc.mask) _ u);
            tmcc_start = narrow_start block_width r.tmcc.start (omega arith) (and_right (mask_ok block_width r.tmcc.mask) _ u);
          };
    }

-- written and read again, under an edition that fits its field
module _ (e : ℕ) (p : Plan) (r : Registers) (fits : e < 2 ^ 8) (h : setting_number p r ≡ 0) where
  count_back : number_in (layout e).count (block_of e p r) ≡ p.count
  count_back = ap (number_of 1) (count_in e p r) ∙ number_written 1 p.count (sound p r h).count

  pub plan_back : plan_in e (block_of e p r) ≡ unused_zero p
  unfolding plan_in
  plan_back = ap₂ of_octets count_back (groups_in e p r) ∙ read_written p

  pub registers_back : registers_in e (block_of e p r) ≡ r
  unfolding registers_in
  registers_back =
      let n = (sound p r h).narrow in
      rw (ap (number_of 4) (slot_mask_in e p r) ∙ number_written 4 r.slots.mask n.slot_mask, ap (number_of 4) (slot_start_in e p r) ∙ number_written 4 r.slots.start n.slot_start, ap (number_of 4) (tmcc_mask_in e p r) ∙ number_written 4 r.tmcc.mask n.tmcc_mask, ap (number_of 4) (tmcc_start_in e p r) ∙ number_written 4 r.tmcc.start n.tmcc_start)

  unused_back : all_zero (unused_in e (block_of e p r)) ≡ true
  unused_back =
      rw (count_back, groups_in e p r)
      (zero_all (drop (3 * p.count) (groups_of p)) (λ k. get_or-drop (3 * p.count) (groups_of p) k 0 ∙ unused_zeros p (3 * p.count + k) (omega arith)))

  pub block_right : block_ok e (block_of e p r) ≡ true
  unfolding block_ok
  block_right =
      let m : same (field_in (layout e).mark (block_of e p r)) mark ≡ true = same_is _ _ (mark_in e p r) in
      let d : number_in (layout e).edition (block_of e p r) ≡ e = ap (number_of 1) (edition_in e p r) ∙ number_written 1 e fits in
      let z : all_zero (field_in (layout e).zeros (block_of e p r)) ≡ true = rw (zeros_in e p r) (zeros_zero (layout e).zeros.octets) in
      let s : number_in (layout e).sum (block_of e p r) ≡ sum_of (take (layout e).sum.at (block_of e p r))
      = ap (number_of 2) (sum_in e p r) ∙ number_written 2 (sum_of (body e p r)) (omega (arith, sum_below (body e p r))) ∙ ap sum_of (sym (body_in e p r)) in
      rw (m, eq-eqb _ e d, unused_back, z) (eq-eqb _ _ s)

  pub number_back : block_number e (block_of e p r) ≡ 0
  unfolding block_number setting_number
  number_back =
      let a = then_zero (plan_number p) _ h in
      rw (block_right, plan_back, registers_back, unused_same p (accepted p a.0).high, a.0) a.1

-- a field of a whole block has its length, and the number there is that of as many octets as it has
module _ (block : List ℕ) (l : length block ≡ setting_octets) (f : Field) (h : f.at + f.octets ≤ setting_octets) where
  pub length_field : length (field_in f block) ≡ f.octets
  length_field = length_part f.at (f.at + f.octets) block (omega arith) ∙ omega arith

  pub field_number : number_of (length (field_in f block)) (field_in f block) ≡ number_in f block
  field_number = ap (λ (n : ℕ). number_of n (field_in f block)) length_field

-- a field of a block, and what is behind it
field_then : (f : Field) (block content rest : List ℕ) → field_in f block ≡ content → drop (f.at + f.octets) block ≡ rest → drop f.at block ≡ content ++ rest
field_then f block content rest p q =
    let n : f.at + f.octets - f.at ≡ f.octets = omega arith in
    sym (take-append-drop f.octets (drop f.at block))
    ∙ ap₂ (λ (x y : List ℕ). x ++ y) (rw n at p) (drop-drop f.octets f.at block ∙ q)

-- what a block with right mark, edition, fillers and sum has
pub record Right (e : ℕ) (block : List ℕ) : Type 0 where
  pub mark_right : field_in (layout e).mark block ≡ mark
  pub edition_right : number_in (layout e).edition block ≡ e
  pub unused_right : all_zero (unused_in e block) ≡ true
  pub zeros_right : all_zero (field_in (layout e).zeros block) ≡ true
  pub sum_right : number_in (layout e).sum block ≡ sum_of (take (layout e).sum.at block)

pub right : (e : ℕ) (block : List ℕ) → block_ok e block ≡ true → Right e block
unfolding block_ok
right e block t =
    let a = and_right (same (field_in (layout e).mark block) mark) _ t in
    let b = and_right (eqb (number_in (layout e).edition block) e) _ a in
    let c = and_right (all_zero (unused_in e block)) _ b in
    record {
      mark_right = same_true _ _ (and_left (same (field_in (layout e).mark block) mark) _ t);
      edition_right = eqb-true _ e (and_left (eqb (number_in (layout e).edition block) e) _ a);
      unused_right = and_left (all_zero (unused_in e block)) _ b;
      zeros_right = and_left (all_zero (field_in (layout e).zeros block)) _ c;
      sum_right = eqb-true _ _ (and_right (all_zero (field_in (layout e).zeros block)) _ c);
    }

-- the octets of groups that are not used, as a slice of those of all groups
pub unused_some : (n : ℕ) (groups : List ℕ) → length groups ≡ 24 → part (3 * n) 24 groups ≡ drop (3 * n) groups
unused_some n groups l = ap (λ (z : ℕ). part (3 * n) z groups) (sym l) ∙ part_rest (3 * n) groups

pub unused_none : (n : ℕ) (groups : List ℕ) → length groups ≡ 24 → 24 ≤ 3 * n → all_zero (drop (3 * n) groups) ≡ true
unused_none n groups l h = rw (drop_of_length-le groups {i = 3 * n} (omega arith)) (zeros_zero 0)

-- read and written again
module _ (e : ℕ) (block : List ℕ) (l : length block ≡ setting_octets) (o : Octets block) (t : Right e block) where
  number_again : (f : Field) → f.at + f.octets ≤ setting_octets → big_endian f.octets (number_in f block) ≡ field_in f block
  number_again f h = written_number f.octets (field_in f block) (length_field block l f h) (below_part 255 f.at (f.at + f.octets) block o)

  groups_again : groups_of (plan_in e block) ≡ field_in (layout e).groups block
  unfolding plan_in
  groups_again =
      let n = number_in (layout e).count block in
      let g = field_in (layout e).groups block in
      written_read n g
      (λ i h.
      let k : 3 * n + (i - 3 * n) ≡ i = omega arith in
      ap (λ (j : ℕ). get_or g j 0) (sym k) ∙ sym (get_or-drop (3 * n) g (i - 3 * n) 0) ∙ zero_at (drop (3 * n) g) t.unused_right (i - 3 * n))
      (length_field block l (layout e).groups (omega arith))

  zeros_again : field_in (layout e).zeros block ≡ replicate (layout e).zeros.octets 0
  zeros_again = zero_replicate _ t.zeros_right ∙ ap (λ (n : ℕ). replicate n 0) (length_field block l (layout e).zeros (omega arith))

  behind : drop (layout e).sum.at block ≡ field_in (layout e).sum block
  behind = sym (part_rest (layout e).sum.at block) ∙ ap (λ (n : ℕ). part (layout e).sum.at n block) l

  body_and_sum : block ≡ body e (plan_in e block) (registers_in e block) ++ field_in (layout e).sum block
  unfolding body plan_in of_octets registers_in
  body_and_sum =
      field_then (layout e).mark block _ _ t.mark_right
      (field_then (layout e).edition block _ _ (sym (ap (big_endian (layout e).edition.octets) (sym t.edition_right) ∙ number_again (layout e).edition (omega arith)))
      (field_then (layout e).count block _ _ (sym (number_again (layout e).count (omega arith)))
      (field_then (layout e).groups block _ _ (sym groups_again)
      (field_then (layout e).slot_mask block _ _ (sym (number_again (layout e).slot_mask (omega arith)))
      (field_then (layout e).slot_start block _ _ (sym (number_again (layout e).slot_start (omega arith)))
      (field_then (layout e).tmcc_mask block _ _ (sym (number_again (layout e).tmcc_mask (omega arith)))
      (field_then (layout e).tmcc_start block _ _ (sym (number_again (layout e).tmcc_start (omega arith)))
      (field_then (layout e).zeros block _ _ zeros_again behind))))))))
      ∙ sym (simp append_assoc)

  body_again : take (layout e).sum.at block ≡ body e (plan_in e block) (registers_in e block)
  body_again =
      ap (take (layout e).sum.at) body_and_sum
      ∙ take_at (body e (plan_in e block) (registers_in e block)) (field_in (layout e).sum block) (layout e).sum.at (length_body e (plan_in e block) (registers_in e block))

  pub block_again : block_of e (plan_in e block) (registers_in e block) ≡ block
  unfolding block_of
  block_again =
      ap (λ (x : List ℕ). body e (plan_in e block) (registers_in e block) ++ x)
      (ap (λ (x : List ℕ). big_endian (layout e).sum.octets (sum_of x)) (sym body_again)
      ∙ ap (big_endian (layout e).sum.octets) (sym t.sum_right)
      ∙ number_again (layout e).sum (omega arith))
      ∙ sym body_and_sum

-- a block is accepted exactly when plan and registers that are not refused make it
pub accepted_again : (e : ℕ) (block : List ℕ) → length block ≡ setting_octets → Octets block → block_number e block ≡ 0
    → (setting_number (plan_in e block) (registers_in e block) ≡ 0) × (block_of e (plan_in e block) (registers_in e block) ≡ block)
unfolding block_number
accepted_again e block l o h =
    let a = then_zero (pick (block_ok e block) 0 BLOCK) _ h in
    (a.1, block_again e block l o (right e block (not_refused (block_ok e block) BLOCK (omega arith) a.0)))
