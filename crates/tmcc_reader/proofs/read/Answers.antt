-- `tmcc_reader::read`: a codeword read, whose message is taken where it is sound.
use mathlib.Core.Path.{◌≡◌, sym, ap, ◌∙◌}
use mathlib.Core.List.{List}
use Prim.Native.Nat.{ℕ}
use native.Mathlib.Omega.{arith}
use lib.Seq.{length-take-le}
use borrow.Author.Rules.{rules}
use Rattle.std.specs.Prelude.{Err}
use Rattle.refusal.specs.Answers.{number}
use Rattle.refusal.specs.AnswerLaws.{refused_by, accepted}
use Rattle.codeword.specs.Reading.{message_in, position}
use Rattle.codeword.proofs.ReadingLaws.{taken_off_bits}
use Rattle.codeword.proofs.AnswerLaws.{answer≡}
use Rattle.tmcc.specs.Blocks.{block_shape, tailed, source_of}
use Rattle.tmcc_reader.proofs.read.Goals as goal

pub read_word-word-requires : goal.read_word-word-requires
read_word-word-requires c = rw c.shape.ensures c.requires.received

pub returns-in_err-word : goal.returns-in_err-word
returns-in_err-word c =
    let w = rw c.shape.ensures at c.read_word-word.ensures in
    let r = c.in_err-word.field-0.0 in
    let e : c.from_residual.result ≡ Err r = search rules in
    let n = sym (ap number c.in_err-word.was) ∙ w.number in
    rw e (record { value = answer≡ n (sym (ap position c.in_err-word.was) ∙ w.position); answered = refused_by _ _ _ r n })

-- the run lies within the bits
pub slice_bounds-put_source-end : goal.slice_bounds-put_source-end
slice_bounds-put_source-end c = omega (arith, c.read_word-word.auto.bits, c.requires.received.checked.lent.bits_long)

pub put_source-requires : goal.put_source-requires
put_source-requires c =
    let a = c.args in
    let h = c.requires.received.checked.lent in
    let w = rw c.shape.ensures at c.read_word-word.ensures in
    record {
      here = record {
        fits = h.fits;
        long = length-take-le 9614 c.read_word-word.new.bits (omega (arith, c.read_word-word.auto.bits, h.bits_long));
        bits = rw w.plain (taken_off_bits block_shape a.block.now a.mask a.start);
      };
      source_long = c.requires.source_long;
    }

pub returns : goal.returns
unfolding source_of
returns c =
    let w = rw c.shape.ensures at c.read_word-word.ensures in
    let z = sym w.number ∙ ap number c.in_ok-word.was in
    record {
      value = answer≡ (sym z) (sym (ap position c.in_ok-word.was) ∙ w.position);
      answered = accepted _ _ _ _ z (c.put_source.ensures ∙ ap (λ (u : List ℕ). tailed (message_in block_shape u)) w.plain);
    }
