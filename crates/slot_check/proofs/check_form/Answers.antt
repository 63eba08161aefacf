-- `slot_check::check_form`: a known rate has a number of rows that a table can have.
use Rattle.std.proofs.Common.{arith, sym, ◌∙◌}
use Rattle.plan.proofs.RateLaws.{rate_rows}
use Rattle.slot_check.proofs.check_form.Goals as goal

pub table_ok-requires : goal.table_ok-requires
table_ok-requires c =
    let w = rate_rows c.args.rate (sym c.known.ensures ∙ c.if-not-known.false) in
    record { some = omega (arith, w.low, c.rows.ensures); few = omega (arith, w.high, c.rows.ensures) }
