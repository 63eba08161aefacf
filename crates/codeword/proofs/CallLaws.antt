-- Laws of what a call is lent: what a number 0 says, when it is 0, and that it is none of 8 and 9.
use Rattle.std.specs.Prelude.{◌≡◌, refl, true, ◌&&◌, List, ℕ, length}
use Rattle.std.proofs.Common.{arith}
use borrow.Author.Tests.{eqb-true, eq-eqb}
use Rattle.std.proofs.Math.Dec.{eqb}
use Rattle.lists.specs.Choice.{pick}
use Rattle.lists.specs.ChoiceLaws.{and_left, and_right, then_zero, not_refused}
use Rattle.refusal.specs.Numbers.{LENGTH, TABLE}
use Rattle.parity_table.specs.Tables.{table_ok}
use Rattle.codeword.specs.declared.Shape.{Shape}
use Rattle.codeword.specs.Calls.{lent_number}
use Rattle.codeword.proofs.AnswerLaws.{Earlier, earlier_then, earlier_test}

-- areas of the right lengths, and an accepted table
pub record Lent (F : Shape) (n : ℕ) (t source coded : List ℕ) : Type 0 where
  pub source_long : length source ≡ n
  pub coded_long : length coded ≡ F.octets
  pub table : table_ok F.rows t ≡ true

module _ (F : Shape) (n : ℕ) (t source coded : List ℕ) where
  pub lent : lent_number F n t source coded ≡ 0 → Lent F n t source coded
  unfolding lent_number
  lent h =
      let x = eqb (length source) n in
      let a = then_zero (pick (x && eqb (length coded) F.octets) 0 LENGTH) _ h in
      let b = not_refused (x && eqb (length coded) F.octets) LENGTH (omega arith) a.0 in
      record {
        source_long = eqb-true (length source) n (and_left x _ b);
        coded_long = eqb-true (length coded) F.octets (and_right x _ b);
        table = not_refused (table_ok F.rows t) TABLE (omega arith) a.1;
      }

  pub lent_yes : Lent F n t source coded → lent_number F n t source coded ≡ 0
  unfolding lent_number
  lent_yes l = rw (eq-eqb (length source) n l.source_long, eq-eqb (length coded) F.octets l.coded_long, l.table)

  -- of the areas only the lengths count
  pub lent_lengths : (source' coded' : List ℕ) → length source ≡ length source' → length coded ≡ length coded' → lent_number F n t source coded ≡ lent_number F n t source' coded'
  unfolding lent_number
  lent_lengths source' coded' l m = rw (l, m)

-- the numbers of the lent areas and the table are tested before the word itself is read
pub lent_earlier : (F : Shape) (octets : ℕ) (t source coded : List ℕ) → Earlier (lent_number F octets t source coded)
unfolding lent_number
lent_earlier F octets t source coded =
    earlier_then (earlier_test (eqb (length source) octets && eqb (length coded) F.octets) LENGTH refl)
    (earlier_test (table_ok F.rows t) TABLE refl)
