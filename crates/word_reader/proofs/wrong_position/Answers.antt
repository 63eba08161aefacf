-- `word_reader::wrong_position`: the parity input made of the bits, and the parity behind them, are the definition's.
use mathlib.Core.Path.{◌≡◌, ap, ap₂, ◌∙◌}
use mathlib.Core.List.{List}
use Prim.Native.Nat.{ℕ}
use native.Mathlib.Omega.{arith}
use lib.ListN.{length, take, drop}
use Rattle.lists.specs.PartLaws.{length_part, take_lent, part_rest}
use Rattle.parity_check.specs.Check.{lowest_wrong}
use Rattle.codeword.specs.Words.{run_bits, parity_input}
use Rattle.codeword.specs.Reading.{wrong_position}
use Rattle.word_reader.proofs.wrong_position.Goals as goal

pub lowest_wrong-requires : goal.lowest_wrong-requires
lowest_wrong-requires c =
    let p = c in
    let x = p in
    let b = x in
    let s = b in
    let g = s.requires.lent in
    let u = x.expand.new.bits in
    record {
      ready = record { rate = record { some = g.fits.some; few = g.fits.few }; ok = g.table; long = p.put_input.auto.input ∙ g.room; room = s.requires.sums_long };
      all = length_part b.run_bits-run.result (length u) u (omega arith) ∙ omega (arith, b.run_bits-run.ensures, g.fits.whole, g.bits_long, x.expand.auto.bits);
    }

pub returns : goal.returns
unfolding wrong_position
returns c =
    let w = c in
    let p = w in
    let x = p in
    let b = x in
    let a = b.args in
    let F = a.shape in
    let u = x.expand.new.bits in
    let n = b.run_bits-run.result in
    let z : n ≡ run_bits F = b.run_bits-run.ensures in record {
      value = w.lowest_wrong.ensures.value
          ∙ ap₂ (lowest_wrong F.rows a.table.now) (p.put_input.ensures ∙ ap (parity_input F) (take_lent n (run_bits F) u z)) (part_rest n u ∙ ap (λ (k : ℕ). drop k u) z)
          ∙ ap (λ (v : List ℕ). lowest_wrong F.rows a.table.now (parity_input F (take (run_bits F) v)) (drop (run_bits F) v)) x.expand.ensures;
      bits_after = x.expand.ensures;
    }
