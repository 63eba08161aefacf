-- `plan::all_fall`: groups g - 1 and g, one pair behind the other; one that does not fall is enough.
use Rattle.std.proofs.Common.{rules, arith, sym, ap, ◌≡◌, ◌+◌, ◌-◌, ◌∙◌, ℕ}
use Rattle.lists.specs.Count.{every}
use Rattle.lists.specs.CountLaws.{every_next, every_not}
use Rattle.plan.specs.Plans.{falls_after}
use Rattle.plan.proofs.groups.all_fall.Goals as goal

pub returns-then-not-falls_after : goal.returns-then-not-falls_after
returns-then-not-falls_after c =
    let p = c.args.plan in
    sym (every_not (p.count - 1) (falls_after p) (c.loop-g.g - 1) (omega arith) (sym c.falls_after.ensures ∙ c.if-not-falls_after.true))

pub loop-g-preserved : goal.loop-g-preserved
loop-g-preserved c =
    let l = c.loop-g in
    let p = c.args.plan in
    let e : l.g - 1 + 1 ≡ l.g + 1 - 1 = omega arith in
    (omega arith, rw (← e) (every_next (l.g - 1) (falls_after p) l.invariant.1 (sym c.falls_after.ensures ∙ c.if-not-falls_after.false)))

pub returns : goal.returns
returns c =
    let l = c.loop-g in
    let p = c.args.plan in
    let e : l.g - 1 ≡ p.count - 1 = omega arith in
    sym l.invariant.1 ∙ ap (λ (n : ℕ). every n (falls_after p)) e
