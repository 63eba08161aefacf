-- Proofs of the statements on positions that are stepped to (document 02, N3).
use Rattle.std.specs.Prelude.{◌≡◌, refl, true, not, List, ◌++◌, ℕ, ◌+◌, ◌%◌, ◌/◌, ◌<◌, eqb, length, get_or}
use Rattle.std.proofs.Common.{sym, ap, ◌∙◌, mod-lt, mod-eq_of_lt, arith}
use Rattle.std.proofs.Math.Nat.{add-mod_right}
use Rattle.lists.specs.Count.{first}
use Rattle.parity_table.specs.Tables.{positions, row_start, table_ok}
use Rattle.parity_table.specs.TableLaws.{row_at}
use Rattle.ldpc.specs.Parity.{spacing, position}
use Rattle.ldpc.specs.Stepping.{stepped, address_times, times_stepped}
use Rattle.ldpc.proofs.StepLaws.{stepped_column}
use Rattle.ldpc.proofs.SteppedParityLaws.{stepped_position, times_stepped_law, parity_stepped_law}
use Rattle.ldpc.specs.Columns.{sum_at}
use Rattle.ldpc.proofs.ColumnLaws.{across_at, address_stepped, address_nowhere}
use Rattle.ldpc.proofs.AddedLaws.{added_at}
use Rattle.ldpc.specs.Needs.{AddedThrough}
use Rattle.parity_check.specs.Check.{lowest_wrong}
use Rattle.plan.specs.Rates.{rows_of}
use Rattle.codeword.specs.declared.Shape.{Shape}
use Rattle.codeword.specs.Words.{parity_input, with_parity}
use Rattle.codeword.specs.Reading.{run_in, parity_in, wrong_position}
use Rattle.slot.specs.Slots.{slot_shape}
use Rattle.tmcc.specs.Blocks.{block_shape}
use Rattle.demands.specs.Requests.{AddedWhere, SteppedThrough, WordStepped, PositionsStepped}

-- through an address below M
added_where : (rows a : ℕ) → a < positions rows → (row found columns : List ℕ) → length found ≡ positions rows → AddedThrough (spacing rows) a row found columns
    → AddedWhere rows a row found columns
added_where rows a h row found columns l s =
    let z : 0 < spacing rows = omega arith in
    let e = stepped_position rows a h in
    let at = added_at (spacing rows) found columns (address_times (spacing rows) row a) l s in
    record {
      there = λ n k.
          let b : position rows a n < positions rows = mod-lt _ (omega arith) in
          at (position rows a n) b
          ∙ ap (λ (x : ℕ). (sum_at (spacing rows) found (position rows a n) + x) % 2) (rw (sym (e n)) (address_stepped (spacing rows) a z h row n k));
      elsewhere = λ p k d. omega (arith, at p k, address_nowhere (spacing rows) a row p (λ n i w. d n i (sym (e n) ∙ w)));
    }

stepped_through : (rows a : ℕ) → a < positions rows → SteppedThrough rows a
stepped_through rows a h =
    let z : 0 < spacing rows = omega arith in
    let e : (n : ℕ) → stepped (spacing rows) (positions rows) a n ≡ position rows a n = stepped_position rows a h in
    record {
      each = e;
      adds = added_where rows a h;
      place = λ n.
          rw (stepped_column (spacing rows) a z h n)
          (across_at 374 (spacing rows) (stepped 1 374 (a / spacing rows) n) (a % spacing rows) (mod-lt a z));
      round = e 374 ∙ add-mod_right a (positions rows) ∙ mod-eq_of_lt h;
    }

word_stepped : (F : Shape) (t : List ℕ) → table_ok F.rows t ≡ true → WordStepped F t
unfolding with_parity wrong_position lowest_wrong
word_stepped F t ok = record {
  addresses = λ r i h l. stepped_through F.rows (get_or t (row_start t r + 1 + i) 0) ((row_at F.rows t ok r (row_start t r) h refl).below i l);
  sums = λ u found columns l a p h.
      added_at (spacing F.rows) found columns (times_stepped (spacing F.rows) t u F.rows) l a p h
      ∙ ap (λ (x : ℕ). (sum_at (spacing F.rows) found p + x) % 2) (times_stepped_law F.rows t u ok p);
  coded = λ d. ap (λ (x : List ℕ). d ++ x) (sym (parity_stepped_law F.rows t (parity_input F d) ok));
  checked = λ c.
      ap (λ (x : List ℕ). first (positions F.rows) (λ j. not (eqb (get_or x j 0) (get_or (parity_in F c) j 0))))
      (sym (parity_stepped_law F.rows t (parity_input F (run_in F c)) ok));
}

pub positions_stepped : PositionsStepped
positions_stepped = ((λ rate t ok. word_stepped (slot_shape (rows_of rate)) t ok), (λ t ok. word_stepped block_shape t ok))
