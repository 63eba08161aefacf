-- `tmcc_coder::put_block`: the codeword of the TMCC bits.
use mathlib.Core.Path.{◌≡◌, ap, ◌∙◌}
use mathlib.Core.List.{List, []}
use Prim.Native.Nat.{ℕ, ◌-◌}
use native.Mathlib.Omega.{arith}
use lib.ListN.{length, take}
use lib.Seq.{take_at}
use borrow.Rule.Slice.PartMut.{put_mid, post_of, same_len_mid}
use Rattle.codeword.specs.Words.{plain, sent, word_of}
use Rattle.codeword.proofs.WordLaws.{length_plain}
use Rattle.tmcc.specs.Blocks.{message_of, block_of}
use Rattle.tmcc.proofs.BlockLaws.{message}
use Rattle.tmcc_coder.proofs.put_block.Goals.{After-put_plain}
use Rattle.tmcc_coder.proofs.put_block.Goals as goal

-- the area with the plain bits at its head, its length kept
abbrev headed : (c : After-put_plain) → List ℕ
headed c = put_mid 0 (9614 - 0) c.args.bits.now c.put_plain.new.run

pub put_word-requires : goal.put_word-requires
put_word-requires c =
    let headed : List ℕ = put_mid 0 (9614 - 0) c.args.bits.now c.put_plain.new.run in
    let kept : length (headed) ≡ length c.args.bits.now = same_len_mid 0 (9614 - 0) c.args.bits.now c.put_plain.new.run c.put_plain.auto.run in
    let h = c in
    let p = h in
    let s = p in
    let w = s.requires.word in
    rw h.shape.ensures (record {
      lent = record { fits = w.lent.fits; table = w.lent.table; bits_long = kept ∙ w.lent.bits_long; room = w.lent.room };
      held = w.held;
      coded_long = w.coded_long;
    })

pub returns : goal.returns
unfolding block_of word_of sent
returns c =
    let headed : List ℕ = put_mid 0 (9614 - 0) c.args.bits.now c.put_plain.new.run in
    let plain-held : take 9614 (headed) ≡ plain (message_of c.args.source.now) [] =
    let s = c in
    let m = message_of s.args.source.now in
    let u = c.put_plain.new.run in
    let e : u ≡ plain m [] = c.put_plain.ensures in
    let n : length u ≡ 9614 = ap length e ∙ length_plain m [] ∙ omega (arith, (message s.args.source.now s.requires.source_long).long) in
    take_at u (post_of 0 (9614 - 0) s.args.bits.now) 9614 n ∙ e in
    let w = c in
    let h = w in
    w.put_word.ensures.coded_after ∙ rw (h.shape.ensures, plain-held)
