-- `parity_table::table_length`: the rows passed are accepted, and the next begins at s.
use Rattle.std.proofs.Common.{◌≡◌, refl, sym, ap, ◌∙◌, ℕ, Bool, true, List, arith, get_or, rules, below_none, below_more}
use Rattle.parity_table.specs.Tables.{positions, row_start, row_ok}
use Rattle.parity_table.specs.TableLaws.{Row, row_start_none, row_start_more, row_of, rows_all, rows_no, table_length_yes, table_length_no}
use Rattle.parity_table.proofs.table_length.Goals as goal

-- the row at s, where row_ok found it
row : (rows s : ℕ) (t : List ℕ) (b : Bool) → b ≡ row_ok (positions rows) t s → b ≡ true → Row (positions rows) t s
row rows s t b e h = row_of (positions rows) t s (sym e ∙ h)

pub loop-init : goal.loop-init
loop-init c = record { size = refl; start = sym (row_start_none _); passed = below_none _ }

pub returns-then-not-row_ok : goal.returns-then-not-row_ok
returns-then-not-row_ok c =
    let l = c.loop in
    let a = c.args in
    sym (table_length_no a.rows a.list.now
    (rows_no a.rows a.list.now l.counter (search rules) (rw l.invariant.start at (sym c.row_ok.ensures ∙ c.if-not-row_ok.true))))

pub offset_bounds-list-s : goal.offset_bounds-list-s
offset_bounds-list-s c = omega (arith, row c.args.rows c.loop.s c.args.list.now _ c.row_ok.ensures c.if-not-row_ok.false)

pub bounds-list-s : goal.bounds-list-s
bounds-list-s c = omega (arith, row c.args.rows c.loop.s c.args.list.now _ c.row_ok.ensures c.if-not-row_ok.false)

pub overflow_add-s-in-loop : goal.overflow_add-s-in-loop
overflow_add-s-in-loop c = omega (arith, row c.args.rows c.loop.s c.args.list.now _ c.row_ok.ensures c.if-not-row_ok.false, c.from.ensures)

pub loop-preserved : goal.loop-preserved
loop-preserved c =
    let l = c.loop in
    let t = c.args.list.now in
    let e = l.invariant.start in
    record {
      size = l.invariant.size;
      start = omega (arith, e, row_start_more t l.counter, ap (λ (n : ℕ). get_or t n 0) e, c.from.ensures);
      passed = below_more _ _ l.invariant.passed (rw e at (row c.args.rows l.s t _ c.row_ok.ensures c.if-not-row_ok.false));
    }

pub returns : goal.returns
returns c =
    let l = c.loop in
    let a = c.args in
    let e : l.counter ≡ a.rows = omega arith in
    l.invariant.start
    ∙ ap (row_start a.list.now) e
    ∙ sym (table_length_yes a.rows a.list.now (rows_all a.rows a.list.now (λ n h. l.invariant.passed n (omega arith))))
