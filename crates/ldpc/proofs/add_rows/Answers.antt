-- `ldpc::add_rows`: the rows that came are added, and the next begins at s.
use Rattle.std.proofs.Common.{arith, rules}
use Rattle.ldpc.proofs.RowLaws.{adding_none, next, adding_more, adding_all, row_ready}
use Rattle.ldpc.proofs.add_rows.Goals as goal

pub loop-row-init : goal.loop-row-init
loop-row-init c = adding_none c.args.rows c.args.table.now c.args.bits.now _ _ (search rules) (search rules)

pub overflow_add-from : goal.overflow_add-from
overflow_add-from c =
    let i = c.loop-row.invariant in
    let e = c.in-Some.ensures.steps.1 in
    let n = next c.args.rows c.args.table.now c.args.bits.now _ _ _ _ _ c.loop-row.s _ c.requires i e.0 e.1 in
    omega (arith, n.row)

pub offset_bounds-table-from : goal.offset_bounds-table-from
offset_bounds-table-from c =
    let i = c.loop-row.invariant in
    let e = c.in-Some.ensures.steps.1 in
    let n = next c.args.rows c.args.table.now c.args.bits.now _ _ _ _ _ c.loop-row.s _ c.requires i e.0 e.1 in
    omega (arith, n.row)

pub offset_bounds-table-s : goal.offset_bounds-table-s
offset_bounds-table-s c =
    let i = c.loop-row.invariant in
    let e = c.in-Some.ensures.steps.1 in
    let n = next c.args.rows c.args.table.now c.args.bits.now _ _ _ _ _ c.loop-row.s _ c.requires i e.0 e.1 in
    omega (arith, n.row)

pub bounds-table-s : goal.bounds-table-s
bounds-table-s c =
    let i = c.loop-row.invariant in
    let e = c.in-Some.ensures.steps.1 in
    let n = next c.args.rows c.args.table.now c.args.bits.now _ _ _ _ _ c.loop-row.s _ c.requires i e.0 e.1 in
    omega (arith, n.row)

pub overflow_add-to : goal.overflow_add-to
overflow_add-to c =
    let i = c.loop-row.invariant in
    let e = c.in-Some.ensures.steps.1 in
    let n = next c.args.rows c.args.table.now c.args.bits.now _ _ _ _ _ c.loop-row.s _ c.requires i e.0 e.1 in
    omega (arith, n.row, c.from.ensures)

pub slice_bounds-add_row-end : goal.slice_bounds-add_row-end
slice_bounds-add_row-end c =
    let i = c.loop-row.invariant in
    let e = c.in-Some.ensures.steps.1 in
    let n = next c.args.rows c.args.table.now c.args.bits.now _ _ _ _ _ c.loop-row.s _ c.requires i e.0 e.1 in
    omega (arith, n.row, c.from.ensures)

pub slice_bounds-add_row-count : goal.slice_bounds-add_row-count
slice_bounds-add_row-count c =
    let i = c.loop-row.invariant in
    let e = c.in-Some.ensures.steps.1 in
    let n = next c.args.rows c.args.table.now c.args.bits.now _ _ _ _ _ c.loop-row.s _ c.requires i e.0 e.1 in
    omega (arith, n.row, c.from.ensures)

pub slice_bounds-add_row-start : goal.slice_bounds-add_row-start
slice_bounds-add_row-start c =
    let i = c.loop-row.invariant in
    let e = c.in-Some.ensures.steps.1 in
    let n = next c.args.rows c.args.table.now c.args.bits.now _ _ _ _ _ c.loop-row.s _ c.requires i e.0 e.1 in
    omega (arith, n.row, c.from.ensures)

pub add_row-requires : goal.add_row-requires
add_row-requires c =
    let i = c.loop-row.invariant in
    let e = c.in-Some.ensures.steps.1 in
    let n = next c.args.rows c.args.table.now c.args.bits.now _ _ _ _ _ c.loop-row.s _ c.requires i e.0 e.1 in
    row_ready c.args.rows c.loop-row.s _ _ c.args.table.now _ _ c.args.columns.now c.args.bits.now c.requires n.row (omega arith) (omega (arith, c.from.ensures)) n.long i.adding.same

pub loop-row-preserved : goal.loop-row-preserved
loop-row-preserved c =
    let i = c.loop-row.invariant in
    let e = c.in-Some.ensures.steps.1 in
    let n = next c.args.rows c.args.table.now c.args.bits.now _ _ _ _ _ c.loop-row.s _ c.requires i e.0 e.1 in
    adding_more c.args.rows c.args.table.now c.args.bits.now _ _ _ _ c.loop-row.s c.from.result _ _ i c.requires.long n c.in-Some.ensures.steps.0 c.from.ensures c.add_row.ensures

pub returns : goal.returns
returns c = adding_all c.args.rows c.args.table.now c.args.bits.now _ _ _ _ c.loop-row.invariant c.requires.long c.in-None.ensures.steps.1.0
