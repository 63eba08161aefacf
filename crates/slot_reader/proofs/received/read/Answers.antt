-- `slot_reader::received::read`: a codeword read, whose message and stuff bits are taken where it is sound.
use mathlib.Core.Path.{◌≡◌, sym, ap, ◌∙◌}
use mathlib.Core.Bool.{false}
use Prim.Native.Nat.{ℕ, ◌-◌, ◌≤◌}
use native.Mathlib.Omega.{arith}
use mathlib.Core.List.{List}
use lib.ListN.{length}
use lib.Seq.{length-take-le}
use Rattle.std.specs.Prelude.{eqb}
use Rattle.lists.specs.PartLaws.{take_lent}
use Rattle.bits.specs.Digits.{number}
use Rattle.bits.specs.Octets.{octets_of}
use Rattle.refusal.specs.Answers.{number as refusal_number}
use Rattle.refusal.specs.AnswerLaws.{refused_not_0}
use Rattle.codeword.specs.declared.Shape.{Shape}
use Rattle.codeword.specs.Words.{run_bits}
use Rattle.codeword.specs.Reading.{message_in, position, tail_in, word_number}
use Rattle.codeword.proofs.ReadingLaws.{taken_off_bits}
use Rattle.plan.specs.Needs.{Rows}
use Rattle.plan.specs.Sizes.{slot_bits}
use Rattle.slot.specs.Slots.{source_octets, slot_shape}
use Rattle.slot.proofs.SlotLaws.{sizes, fits, register_after_law}
use Rattle.slot.specs.Reading.{received_number, stuff_in, source_of, failing_in}
use Rattle.slot_reader.proofs.received.read.Goals as goal

-- a codeword's bits before the parity are within the slot's
record Within (R run bits : ℕ) : Type 0 where
  is_run : run ≡ run_bits (slot_shape R)
  room : run ≤ bits

within : (R run : ℕ) (F : Shape) (bits : List ℕ) → Rows R → F ≡ slot_shape R → run ≡ run_bits F → length bits ≡ slot_bits → Within R run (length bits)
within R run F bits h f e l =
    let z = sizes R h in
    let d : run ≡ run_bits (slot_shape R) = e ∙ ap run_bits f in
    record { is_run = d; room = omega (arith, d, z.covered, z.all, l) }

pub run_bits-run-requires : goal.run_bits-run-requires
run_bits-run-requires c = rw c.shape.ensures (fits c.args.rows c.requires.word.checked.rate)

pub slice_bounds-take_source-end : goal.slice_bounds-take_source-end
slice_bounds-take_source-end c =
    let h = c.requires.word.checked in
    let w = within c.args.rows _ _ c.read_codeword-word.new.bits h.rate c.shape.ensures c.run_bits-run.ensures (omega (arith, c.read_codeword-word.auto.bits, h.bits_long)) in
    omega (arith, w)

pub take_source-requires : goal.take_source-requires
take_source-requires c =
    let a = c.args in
    let h = c.requires.word.checked in
    let u = c.read_codeword-word.new.bits in
    let n = c.run_bits-run.result in
    let w = within a.rows n _ u h.rate c.shape.ensures c.run_bits-run.ensures (omega (arith, c.read_codeword-word.auto.bits, h.bits_long)) in
    let lent = take_lent n (run_bits (slot_shape a.rows)) u w.is_run ∙ c.read_codeword-word.ensures.plain in
    record {
      rate = h.rate;
      all = length-take-le (n - 0) u (omega (arith, w)) ∙ omega (arith, w);
      bits = rw lent (taken_off_bits (slot_shape a.rows) a.coded.now a.mask a.register);
      long = c.requires.long;
    }

pub returns-in-Ok : goal.returns-in-Ok
unfolding received_number stuff_in source_of failing_in
returns-in-Ok c =
    let a = c.args in
    let F = slot_shape a.rows in
    let h = c.requires.word.checked in
    let u = c.read_codeword-word.new.bits in
    let n = c.run_bits-run.result in
    let w = within a.rows n _ u h.rate c.shape.ensures c.run_bits-run.ensures (omega (arith, c.read_codeword-word.auto.bits, h.bits_long)) in
    let lent = take_lent n (run_bits F) u w.is_run ∙ c.read_codeword-word.ensures.plain in
    let o = c.read_codeword-word.ensures in
    let z : word_number F a.table.now a.mask a.register a.coded.now ≡ 0 = sym o.number ∙ ap refusal_number c.in-Ok.is in
    record {
      number = sym z;
      register = o.register ∙ register_after_law a.rows a.mask a.register h.rate;
      stuff = rw z (c.take_source.ensures.value ∙ ap (λ (u : List ℕ). number 6 (tail_in F u)) lent);
      position = sym (ap position c.in-Ok.is) ∙ o.position;
      area = rw z (c.take_source.ensures.source_after ∙ ap (λ (u : List ℕ). octets_of (source_octets a.rows) (message_in F u)) lent);
    }

pub returns-in-Err : goal.returns-in-Err
unfolding received_number failing_in
returns-in-Err c =
    let a = c.args in
    let o = c.read_codeword-word.ensures in
    let e = sym o.number ∙ ap refusal_number c.in-Err.is in
    let z : eqb (word_number (slot_shape a.rows) a.table.now a.mask a.register a.coded.now) 0 ≡ false = ap (λ (n : ℕ). eqb n 0) e ∙ refused_not_0 c.in-Err.refused in
    record {
      number = sym e;
      register = o.register ∙ register_after_law a.rows a.mask a.register c.requires.word.checked.rate;
      stuff = rw z;
      position = sym (ap position c.in-Err.is) ∙ o.position;
      area = rw z;
    }
