-- `lookup::copy_tables`: the tables where the tests of the call hold.
use Rattle.std.specs.Prelude.{eqb}
use Rattle.std.proofs.Common.{arith, sym, length, eqb-true}
use Rattle.lists.specs.ChoiceLaws.{then_zero, not_refused}
use Rattle.refusal.specs.Numbers.{LENGTH}
use Rattle.refusal.specs.AnswerLaws.{accepted}
use Rattle.plan.specs.Plans.{plan_number}
use Rattle.lookup.specs.Lookups.{tables_of, tables_number}
use Rattle.lookup.proofs.tables.copy_tables.Goals as goal

pub put_tables-requires : goal.put_tables-requires
unfolding tables_number
put_tables-requires c =
    let p = c.args.plan in
    let h = then_zero (plan_number p) _ (sym c.in_ok-check_tables.ensures) in
    record { plan = h.0; long = eqb-true _ _ (not_refused (eqb (length c.args.tables.now) (length (tables_of p))) LENGTH (omega arith) h.1) }

pub returns : goal.returns
returns c = accepted _ _ _ _ (sym c.in_ok-check_tables.ensures) c.put_tables.ensures
