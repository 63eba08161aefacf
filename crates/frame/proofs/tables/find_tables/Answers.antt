-- `frame::find_tables`: the tables of the groups passed are accepted, and their ends are known.
use mathlib.Core.Path.{◌≡◌, refl, sym, ap, ap₂, ◌∙◌}
use mathlib.Core.Bool.{true}
use borrow.Author.Tests.{eq-eqb, ne_eqb}
use mathlib.Core.List.{List, [], ◌∷◌}
use Prim.Native.Nat.{ℕ, ◌+◌, ◌<◌, ◌≤◌}
use native.Mathlib.Omega.{arith}
use native.Mathlib.Decide.{ℕ_discrete}
use borrow.Author.Rules.{rules}
use lib.Dec.{eqb}
use lib.ListN.{length, get_or, drop, set, length-set}
use lib.Seq.{get_or-set_same, get_or-set_other}
use Rattle.lists.specs.Parts.{part}
use Rattle.lists.specs.PartLaws.{part_rest}
use Rattle.parity_table.specs.Tables.{table_ok, table_length}
use Rattle.plan.specs.declared.Plan.{Plan}
use Rattle.plan.specs.Rates.{rows_of}
use Rattle.plan.specs.Needs.{Rows}
use Rattle.plan.proofs.RateLaws.{rate_rows}
use Rattle.plan.specs.Plans.{rate_of, plan_number}
use Rattle.plan.proofs.PlanLaws.{accepted, group_values}
use Rattle.frame.specs.Tables.{table_from, table_of, tables_ok}
use Rattle.frame.proofs.TableLaws.{table_from_none, table_from_more, table_from_within, table_here, tables_no, tables_rest}
use Rattle.frame.proofs.tables.find_tables.Invariants.{Passed}
use Rattle.frame.proofs.tables.find_tables.Goals as goal

-- one group more, whose table of n numbers was found
next_group : (p : Plan) (ts ends : List ℕ) (g at n : ℕ) → Passed p ts ends g at → g < p.count → p.count ≤ 8
    → n ≡ table_length (rows_of (rate_of p g)) (drop (table_from p ts g) ts) → (n ≡ 0 → ⊥) → Passed p ts (set ends (g + 1) (at + n)) (g + 1) (at + n)
next_group p ts ends g at n q h k e z =
    let d : at + n ≡ table_from p ts (g + 1) = omega (arith, q.at_is, table_from_more p ts g) in
    record {
      here = omega arith;
      at_is = d;
      within = omega (arith, d, table_from_within p ts (g + 1));
      long = length-set ends (g + 1) (at + n) ∙ q.long;
      ends_are = λ i j. upto i j (ℕ_discrete i (g + 1)) d;
      ok = λ i j. before i j (ℕ_discrete i g);
    }
  where
    upto : (i : ℕ) → i ≤ g + 1 → Dec (i ≡ g + 1) → at + n ≡ table_from p ts (g + 1) → get_or (set ends (g + 1) (at + n)) i 0 ≡ table_from p ts i
    upto i j (yes w) d = rw w (get_or-set_same ends (g + 1) (at + n) 0 (omega (arith, q.long)) ∙ d)
    upto i j (no w) d = get_or-set_other ends (g + 1) i (at + n) 0 w ∙ q.ends_are i (omega arith)

    before : (i : ℕ) → i < g + 1 → Dec (i ≡ g) → table_ok (rows_of (rate_of p i)) (table_of p ts i) ≡ true
    before i j (yes w) = rw w (table_here p ts g (λ y. z (e ∙ y)))
    before i j (no w) = q.ok i (omega arith)

-- the group's rows, one of eight groups
rows_known : (p : Plan) (g : ℕ) → plan_number p ≡ 0 → g < p.count → Rows (rows_of (rate_of p g))
rows_known p g h l = rate_rows (rate_of p g) (group_values p g (accepted p h) l).rate

-- the table that stands at the head of what is left
found : (p : Plan) (ts ends : List ℕ) (g at rows n : ℕ) → Passed p ts ends g at → rows ≡ rows_of (rate_of p g) → n ≡ table_length rows (part at (length ts) ts)
    → n ≡ table_length (rows_of (rate_of p g)) (drop (table_from p ts g) ts)
found p ts ends g at rows n q r e = e ∙ ap₂ table_length r (part_rest at ts ∙ ap (λ (n : ℕ). drop n ts) q.at_is)

-- where the plan's first table begins
first_end : (p : Plan) (ts : List ℕ) (i : ℕ) → i ≤ 0 → get_or (0 ∷ 0 ∷ 0 ∷ 0 ∷ 0 ∷ 0 ∷ 0 ∷ 0 ∷ 0 ∷ []) i 0 ≡ table_from p ts i
first_end p ts i h = let e : i ≡ 0 = omega arith in rw e (sym (table_from_none p ts))

pub loop-g-init : goal.loop-g-init
loop-g-init c =
    let a = c.args in
    record {
      here = omega arith;
      at_is = sym (table_from_none a.plan a.tables.now);
      within = omega arith;
      long = refl;
      ends_are = λ i h. first_end a.plan a.tables.now i h;
      ok = λ i h. absurd (omega arith);
    }

pub bounds-plan-g : goal.bounds-plan-g
bounds-plan-g c = let h = (accepted c.args.plan c.requires).high in omega arith

pub table_length-length-requires : goal.table_length-length-requires
table_length-length-requires c =
    let w = rows_known c.args.plan c.loop-g.g c.requires (omega arith) in
    let e = c.rows-rows.ensures ∙ ap rows_of c.from.ensures in
    record { some = omega (arith, e, w.low); few = omega (arith, e, w.high) }

pub returns-then-length-eq0-clause-value : goal.returns-then-length-eq0-clause-value
returns-then-length-eq0-clause-value c =
    let a = c.args in
    let l = c.loop-g in
    let w = rows_known a.plan l.g c.requires (omega arith) in
    let n = found a.plan a.tables.now l.ends l.g l.at _ _ l.invariant (c.rows-rows.ensures ∙ ap rows_of c.from.ensures) c.table_length-length.ensures in
    sym (tables_no a.plan a.tables.now l.g (omega arith) (omega (arith, w.low)) (sym n ∙ c.if-length-eq0.true))

pub overflow_add-at : goal.overflow_add-at
overflow_add-at c =
    let a = c.args in
    let l = c.loop-g in
    let n = found a.plan a.tables.now l.ends l.g l.at _ _ l.invariant (c.rows-rows.ensures ∙ ap rows_of c.from.ensures) c.table_length-length.ensures in
    let h : l.at + c.table_length-length.result ≤ length a.tables.now = omega (arith, l.invariant.at_is, n, table_from_more a.plan a.tables.now l.g, table_from_within a.plan a.tables.now (l.g + 1)) in
    search rules

pub bounds-ends-g : goal.bounds-ends-g
bounds-ends-g c = let h = (accepted c.args.plan c.requires).high in omega arith

pub loop-g-preserved : goal.loop-g-preserved
loop-g-preserved c =
    let a = c.args in
    let l = c.loop-g in
    let n = found a.plan a.tables.now l.ends l.g l.at _ _ l.invariant (c.rows-rows.ensures ∙ ap rows_of c.from.ensures) c.table_length-length.ensures in
    next_group a.plan a.tables.now l.ends l.g l.at c.table_length-length.result l.invariant (omega arith) (accepted a.plan c.requires).high n c.if-length-eq0.false

-- behind the last group
last : (p : Plan) (ts ends : List ℕ) (g at : ℕ) → Passed p ts ends g at → g ≡ p.count → eqb at (length ts) ≡ tables_ok p ts
last p ts ends g at q e =
    ap (λ (n : ℕ). eqb n (length ts)) (q.at_is ∙ ap (table_from p ts) e) ∙ sym (tables_rest p ts (λ g h. q.ok g (omega arith)))

pub returns-then-at-tables : goal.returns-then-at-tables
returns-then-at-tables c =
    let a = c.args in
    let l = c.loop-g in
    record {
      value = sym (eq-eqb _ _ c.if-at-tables.true) ∙ last a.plan a.tables.now l.ends l.g l.at l.invariant (omega arith);
      ends = λ g h. l.invariant.ends_are g (omega arith);
    }

pub returns : goal.returns
returns c =
    let a = c.args in
    let l = c.loop-g in
    record { value = sym (ne_eqb _ _ c.if-at-tables.false) ∙ last a.plan a.tables.now l.ends l.g l.at l.invariant (omega arith); ends = tt }
