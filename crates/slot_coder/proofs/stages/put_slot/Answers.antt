-- `slot_coder::put_slot`: the codeword of header and data with the stuff bits behind the BCH bits.
use mathlib.Core.Path.{◌≡◌, ap, ◌∙◌}
use mathlib.Core.List.{List}
use Prim.Native.Nat.{ℕ, ◌*◌, ◌-◌, ◌≤◌}
use native.Mathlib.Omega.{arith}
use lib.ListN.{length, take}
use lib.Seq.{length-take-le, take_at}
use borrow.Rule.Slice.PartMut.{put_mid, post_of, same_len_mid}
use Rattle.bits.specs.Octets.{bits_of}
use Rattle.codeword.specs.declared.Shape.{Shape}
use Rattle.codeword.specs.Words.{run_bits, plain, sent, word_of, register_after as registerAfterWord}
use Rattle.codeword.proofs.WordLaws.{length_plain}
use Rattle.plan.specs.Needs.{Rows}
use Rattle.plan.specs.Sizes.{slot_bits}
use Rattle.slot.specs.Slots.{source_octets, stuff_bits, slot_shape, slot_of}
use Rattle.slot.proofs.SlotLaws.{sizes, fits, message, register_after_law}
use Rattle.slot_coder.proofs.stages.put_slot.Goals as goal

-- the bits before the parity, and the parity input, have room in a slot's bits
record Room (R run bits : ℕ) : Type 0 where
  is_run : run ≡ run_bits (slot_shape R)
  within : run ≤ bits
  input : 374 * R ≤ slot_bits

room : (R run bits : ℕ) (F : Shape) → Rows R → F ≡ slot_shape R → run ≡ run_bits F → bits ≡ slot_bits → Room R run bits
room R run bits F h f e l =
    let z = sizes R h in
    let d : run ≡ run_bits (slot_shape R) = e ∙ ap run_bits f in
    record { is_run = d; within = omega (arith, d, z.covered, z.all, l); input = omega (arith, z.rows, z.all) }

-- the plain bits, put at the head of the area
held : (R run : ℕ) (source bits made : List ℕ) → Rows R → length source ≡ source_octets R → made ≡ plain (bits_of source) stuff_bits
    → take (run_bits (slot_shape R)) (put_mid 0 (run - 0) bits made) ≡ plain (bits_of source) stuff_bits
held R run source bits made h l e =
    let n : length made ≡ run_bits (slot_shape R) = ap length e ∙ length_plain (bits_of source) stuff_bits ∙ omega (arith, (message R source h l).long) in
    take_at made (post_of 0 (run - 0) bits) (run_bits (slot_shape R)) n ∙ e

pub run_bits-run-requires : goal.run_bits-run-requires
run_bits-run-requires c = rw c.shape-shape.ensures (fits c.args.rows c.requires.rows)

pub overflow_mul-end : goal.overflow_mul-end
overflow_mul-end c = let r = room c.args.rows _ _ _ c.requires.rows c.shape-shape.ensures c.run_bits-run.ensures c.requires.bits_long in omega (arith, r)

pub slice_bounds-put_plain-end : goal.slice_bounds-put_plain-end
slice_bounds-put_plain-end c = (room c.args.rows _ _ _ c.requires.rows c.shape-shape.ensures c.run_bits-run.ensures c.requires.bits_long).within

pub put_plain-requires : goal.put_plain-requires
put_plain-requires c =
    let q = c.requires in
    let r = room c.args.rows _ _ _ q.rows c.shape-shape.ensures c.run_bits-run.ensures q.bits_long in
    record { rows = q.rows; source_long = q.source_long; bits_long = length-take-le (c.run_bits-run.result - 0) c.args.bits.now (omega (arith, r)) ∙ omega (arith, r) }

pub slice_bounds-put_word-end : goal.slice_bounds-put_word-end
slice_bounds-put_word-end c =
    let r = room c.args.rows _ _ _ c.requires.rows c.shape-shape.ensures c.run_bits-run.ensures c.requires.bits_long in
    omega (arith, r, c.requires.input_long)

pub put_word-requires : goal.put_word-requires
put_word-requires c =
    let a = c.args in
    let q = c.requires in
    let r = room a.rows _ _ _ q.rows c.shape-shape.ensures c.run_bits-run.ensures q.bits_long in
    let kept = same_len_mid 0 (c.run_bits-run.result - 0) a.bits.now c.put_plain.new.bits c.put_plain.auto.bits in
    let input : length (take (374 * a.rows - 0) a.input.now) ≡ 374 * a.rows = length-take-le (374 * a.rows - 0) a.input.now (omega (arith, r, q.input_long)) ∙ omega arith in
    rw c.shape-shape.ensures (record {
      lent = record { fits = fits a.rows q.rows; table = q.table; bits_long = kept ∙ q.bits_long; room = input };
      held = q.held;
      coded_long = q.coded_long;
    })

pub returns : goal.returns
unfolding slot_of word_of sent
returns c =
    let a = c.args in
    let e = c.shape-shape.ensures in
    let v = held a.rows c.run_bits-run.result a.source.now a.bits.now c.put_plain.new.bits c.requires.rows c.requires.source_long c.put_plain.ensures in
    record {
      value = c.put_word.ensures.value ∙ ap (λ (F : Shape). registerAfterWord F a.mask a.register) e ∙ register_after_law a.rows a.mask a.register c.requires.rows;
      coded_after = c.put_word.ensures.coded_after ∙ rw (e, v);
    }
