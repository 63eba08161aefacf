-- `plan::all_values_ok`: one group with wrong values is enough.
use Rattle.std.proofs.Common.{rules, sym, ◌∙◌}
use Rattle.lists.specs.CountLaws.{every_not}
use Rattle.plan.specs.Plans.{values_ok}
use Rattle.plan.proofs.groups.all_values_ok.Goals as goal

pub returns-then-not-values_ok : goal.returns-then-not-values_ok
returns-then-not-values_ok c =
    let p = c.args.plan in
    sym (every_not p.count (values_ok p) c.loop-g.g (search rules) (sym c.values_ok.ensures ∙ c.if-not-values_ok.true))
