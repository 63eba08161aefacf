-- `lookup::entries`: the numbers of the tables passed, none of which has more than 510.
use mathlib.Core.Path.{◌≡◌, sym, ap, ◌∙◌}
use native.Mathlib.Omega.{arith}
use borrow.Author.Rules.{rules}
use Rattle.plan.proofs.PlanLaws.{accepted}
use Rattle.published.specs.Published.{length_of}
use Rattle.lookup.proofs.LookupLaws.{table_start, start_none, start_more, start_all}
use Rattle.lookup.proofs.tables.entries.Goals as goal

pub loop-g-init : goal.loop-g-init
loop-g-init c = let p = c.args.plan in record { few = (accepted p c.requires).high; small = search rules; sum_is = sym (start_none p) }

pub bounds-plan-g : goal.bounds-plan-g
bounds-plan-g c = let h = c.loop-g.invariant.few in omega arith

pub overflow_add-sum : goal.overflow_add-sum
overflow_add-sum c = omega (arith, c.table_length-sum.ensures.upper_bound, c.loop-g.invariant.small, c.loop-g.invariant.few)

pub loop-g-preserved : goal.loop-g-preserved
loop-g-preserved c =
    let l = c.loop-g in
    let p = c.args.plan in
    record {
      few = l.invariant.few;
      small = omega (arith, c.table_length-sum.ensures.upper_bound, l.invariant.small);
      sum_is = omega (arith, c.table_length-sum.ensures.value ∙ ap length_of c.from.ensures, l.invariant.sum_is, start_more p c.requires l.g (omega arith));
    }

pub returns : goal.returns
returns c =
    let l = c.loop-g in
    let p = c.args.plan in
    let e : l.g ≡ p.count = omega arith in
    l.invariant.sum_is ∙ ap (table_start p) e ∙ start_all p
