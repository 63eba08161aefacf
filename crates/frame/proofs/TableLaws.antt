-- Laws of a frame's tables: what is accepted gives each group an accepted table, and accepted tables end to end are accepted.
use Rattle.std.specs.Prelude.{◌≡◌, true, false, List, [], ◌++◌, eqb, length, take, drop}
use Rattle.std.proofs.Math.Path.{refl}
use Rattle.std.proofs.Common.{sym, ap, ap₂, ◌∙◌, eq-eqb, take-append-drop, drop-drop}
use Prim.Native.Nat.{ℕ, zero, suc, ◌+◌, ◌-◌, ◌<◌, ◌≤◌}
use native.Mathlib.Omega.{arith}
use Rattle.std.proofs.Math.Numerals.{add-one}
use Rattle.std.proofs.Math.ListN.{length-drop}
use Rattle.lists.specs.Count.{joined}
use Rattle.lists.specs.CountLaws.{every_at, every_all, joined_at, length_joined, joined_part, sum_none, sum_more, sum_mono}
use Rattle.lists.specs.ChoiceLaws.{and_left, and_both, false_of}
use Rattle.parity_table.specs.Tables.{table_ok, table_length}
use Rattle.parity_table.specs.TableLaws.{table_rows, table_length_within, table_length_some, table_length_append, table_head}
use Rattle.plan.specs.declared.Plan.{Plan}
use Rattle.plan.specs.Rates.{rows_of}
use Rattle.plan.specs.Plans.{rate_of}
use Rattle.frame.specs.Tables.{table_from, table_of, tables_ok}

module _ (p : Plan) (ts : List ℕ) where
  pub table_from_none : table_from p ts 0 ≡ 0
  unfolding table_from
  table_from_none = refl

  pub table_from_more : (g : ℕ) → table_from p ts (g + 1) ≡ table_from p ts g + table_length (rows_of (rate_of p g)) (drop (table_from p ts g) ts)
  unfolding table_from
  table_from_more g = rw add-one

  -- no table ends behind the list
  pub table_from_within : (g : ℕ) → table_from p ts g ≤ length ts
  unfolding table_from
  table_from_within zero = omega arith
  table_from_within (suc g) =
      let a = table_from p ts g in
      omega (arith, table_from_within g, table_length_within (rows_of (rate_of p g)) (drop a ts), length-drop a ts)

  -- the table of group g is the one at the head of what is left of the list
  pub table_of_head : (g : ℕ) → table_of p ts g ≡ take (table_length (rows_of (rate_of p g)) (drop (table_from p ts g) ts)) (drop (table_from p ts g) ts)
  unfolding table_of
  table_of_head g =
      let a = table_from p ts g in
      let e : table_from p ts (g + 1) - a ≡ table_length (rows_of (rate_of p g)) (drop a ts) = omega (arith, table_from_more g) in
      rw e

  pub tables_yes : ((g : ℕ) → g < p.count → table_ok (rows_of (rate_of p g)) (table_of p ts g) ≡ true) → table_from p ts p.count ≡ length ts → tables_ok p ts ≡ true
  unfolding tables_ok
  tables_yes h e = and_both _ _ (every_all p.count (λ g. table_ok (rows_of (rate_of p g)) (table_of p ts g)) h) (eq-eqb _ _ e)

  module _ (h : tables_ok p ts ≡ true) where
    pub table_ok_law : (g : ℕ) → g < p.count → table_ok (rows_of (rate_of p g)) (table_of p ts g) ≡ true
    unfolding tables_ok
    table_ok_law g l = every_at p.count (λ i. table_ok (rows_of (rate_of p i)) (table_of p ts i)) (and_left _ _ h) g l

  -- where a table stands at the head of what is left, it is the group's
  pub table_here : (g : ℕ) → (table_length (rows_of (rate_of p g)) (drop (table_from p ts g) ts) ≡ 0 → ⊥) → table_ok (rows_of (rate_of p g)) (table_of p ts g) ≡ true
  table_here g h = rw (table_of_head g) (table_head (rows_of (rate_of p g)) (drop (table_from p ts g) ts) h)

  -- where none stands there, the tables are not accepted
  pub tables_no : (g : ℕ) → g < p.count → 1 ≤ rows_of (rate_of p g) → table_length (rows_of (rate_of p g)) (drop (table_from p ts g) ts) ≡ 0 → tables_ok p ts ≡ false
  tables_no g l r e =
      false_of (tables_ok p ts)
      (λ h.
      let R = rows_of (rate_of p g) in
      let d = drop (table_from p ts g) ts in
      let n : table_of p ts g ≡ [] = table_of_head g ∙ ap (λ (k : ℕ). take k d) e in
      let t : table_ok R [] ≡ true = rw n at (table_ok_law h g l) in
      table_length_some R [] r (table_rows R [] t) (omega (arith, table_length_within R [])))

  -- where each group has its table, it remains that nothing follows
  pub tables_rest : ((g : ℕ) → g < p.count → table_ok (rows_of (rate_of p g)) (table_of p ts g) ≡ true) → tables_ok p ts ≡ eqb (table_from p ts p.count) (length ts)
  unfolding tables_ok
  tables_rest h = rw (every_all p.count (λ g. table_ok (rows_of (rate_of p g)) (table_of p ts g)) h)

-- accepted tables end to end are accepted, and are the groups' tables
module _ (p : Plan) (f : ℕ → List ℕ) (h : (g : ℕ) → g < p.count → table_ok (rows_of (rate_of p g)) (f g) ≡ true) where
  abbrev all : List ℕ
  all = joined p.count f

  -- from table g on stand that table and what follows it
  rest_at : (g : ℕ) → g < p.count → drop (joined_at f g) all ≡ f g ++ drop (joined_at f (g + 1)) all
  rest_at g l =
      let a = joined_at f g in
      let b = joined_at f (g + 1) in
      let e : a + (b - a) ≡ b = omega (arith, sum_mono g (g + 1) (λ i. length (f i)) (omega arith)) in
      sym (take-append-drop (b - a) (drop a all))
      ∙ ap₂ (λ (u v : List ℕ). u ++ v) (joined_part p.count f g l) (drop-drop (b - a) a all ∙ ap (λ (k : ℕ). drop k all) e)

  joined_from : (g : ℕ) → g ≤ p.count → table_from p all g ≡ joined_at f g
  joined_from zero l = table_from_none p all ∙ sym (sum_none (λ i. length (f i)))
  joined_from (suc g) l =
      let R = rows_of (rate_of p g) in
      let e = joined_from g (omega arith) in
      let d : table_length R (drop (table_from p all g) all) ≡ length (f g) = ap (λ (k : ℕ). table_length R (drop k all)) e ∙ ap (table_length R) (rest_at g l) ∙ table_length_append R (f g) (drop (joined_at f (g + 1)) all) (h g l) in
      let m = table_from_more p all g in
      let n = sum_more g (λ i. length (f i)) in
      rw (← add-one g) (m ∙ ap₂ (λ (x y : ℕ). x + y) e d ∙ sym n)

  pub joined_table : (g : ℕ) → g < p.count → table_of p all g ≡ f g
  unfolding table_of
  joined_table g l = rw (joined_from g (omega arith), joined_from (g + 1) (omega arith)) (joined_part p.count f g l)

  pub joined_ok : tables_ok p all ≡ true
  joined_ok = tables_yes p all (λ g l. rw (joined_table g l) (h g l)) (joined_from p.count (omega arith) ∙ sym (length_joined p.count f))
