-- `word_coder::put_word`: the bits dispersed, their parity behind them, collected to octets.
use mathlib.Core.Path.{◌≡◌, sym, ap, ap₂, ◌∙◌, subst}
use mathlib.Core.List.{List}
use Prim.Native.Nat.{ℕ, ◌-◌, ◌≤◌}
use native.Mathlib.Omega.{arith}
use lib.ListN.{length, take}
use lib.Seq.{length-take-le, take_at}
use borrow.Rule.Slice.PartMut.{put_mid, post_of}
use Rattle.lists.specs.Runs.{Bits}
use Rattle.lists.specs.PartLaws.{take_lent}
use Rattle.bits.specs.Octets.{octets_of}
use Rattle.dispersal.specs.Register.{after}
use Rattle.dispersal.specs.Dispersal.{dispersed}
use Rattle.dispersal.specs.DispersalLaws.{length_dispersed, dispersed_bits}
use Rattle.codeword.specs.declared.Shape.{Shape}
use Rattle.codeword.specs.Words.{run_bits, with_parity, register_after}
use Rattle.codeword.proofs.WordLaws.{length_with_parity, with_parity_bits}
use Rattle.word_coder.proofs.put_word.Goals as goal

module _ (F : Shape) (t : List ℕ) (mask r n : ℕ) (bits run : List ℕ) (e : n ≡ run_bits F) (h : run_bits F ≤ length bits) (d : run ≡ dispersed F.width mask r (take (n - 0) bits)) where
  abbrev sent : List ℕ
  sent = dispersed F.width mask r (take (run_bits F) bits)

  length_sent : length sent ≡ run_bits F
  length_sent = length_dispersed F.width mask r _ ∙ length-take-le (run_bits F) bits h

  -- the word's bits: those sent, at the head of the area, and their parity
  whole : (made : List ℕ) → made ≡ with_parity F t (take (run_bits F) (put_mid 0 (n - 0) bits run)) → made ≡ with_parity F t sent
  whole made m =
      let s : run ≡ sent = d ∙ ap (dispersed F.width mask r) (take_lent n (run_bits F) bits e) in
      m ∙ ap (with_parity F t) (take_at run (post_of 0 (n - 0) bits) (run_bits F) (ap length s ∙ length_sent) ∙ s)

pub collect-requires : goal.collect-requires
collect-requires c =
    let a = c.args in
    let F = a.shape in
    let q = c.requires in
    let room : run_bits F ≤ length a.bits.now = omega (arith, q.lent.fits.whole, q.lent.bits_long) in
    let v = dispersed F.width a.mask a.register (take (run_bits F) a.bits.now) in
    let l = length_sent F a.table.now a.mask a.register _ a.bits.now _ c.run_bits-run.ensures room c.disperse-next.ensures.run_after in
    let w = whole F a.table.now a.mask a.register _ a.bits.now _ c.run_bits-run.ensures room c.disperse-next.ensures.run_after _ c.put_parity.ensures in
    record {
      eights = ap length w ∙ length_with_parity F a.table.now v ∙ omega (arith, l, q.lent.fits.whole, q.coded_long);
      bits = subst Bits (sym w) (with_parity_bits F a.table.now v (dispersed_bits F.width a.mask a.register _));
    }

pub returns : goal.returns
unfolding register_after
returns c =
    let a = c.args in
    let F = a.shape in
    let q = c.requires in
    let n = c.run_bits-run.result in
    let room : run_bits F ≤ length a.bits.now = omega (arith, q.lent.fits.whole, q.lent.bits_long) in
    let w = whole F a.table.now a.mask a.register _ a.bits.now _ c.run_bits-run.ensures room c.disperse-next.ensures.run_after _ c.put_parity.ensures in
    let l : length (take (n - 0) a.bits.now) ≡ run_bits F = length-take-le (n - 0) a.bits.now (omega (arith, room, c.run_bits-run.ensures)) ∙ omega (arith, c.run_bits-run.ensures) in
    record { value = c.disperse-next.ensures.value ∙ ap (after F.width a.mask a.register) l; coded_after = c.collect.ensures ∙ ap₂ octets_of q.coded_long w }
