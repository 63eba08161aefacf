-- `points::check_used`: the labels passed use finite entries alone.
use mathlib.Core.Path.{◌≡◌, sym, ap, ◌∙◌}
use Prim.Native.Nat.{ℕ}
use native.Mathlib.Omega.{arith}
use borrow.Author.Rules.{rules}
use lib.ListN.{length, get_or}
use Rattle.lists.specs.Count.{every}
use Rattle.lists.specs.CountLaws.{every_none, every_next, every_not}
use Rattle.points.specs.Points.{used_ok}
use Rattle.points.specs.Numbers.{used_number}
use Rattle.points.proofs.numbers.check_used.Goals as goal

pub loop-label-init : goal.loop-label-init
loop-label-init c = every_none _

pub used_ok-requires : goal.used_ok-requires
used_ok-requires c = rw c.from.ensures (c.requires c.loop-label.label-index (search rules))

pub loop-label-preserved : goal.loop-label-preserved
loop-label-preserved c = every_next c.loop-label.label-index _ c.loop-label.invariant (sym (rw c.from.ensures at c.used_ok.ensures) ∙ c.if-not-used_ok.false)

pub returns-then-not-used_ok : goal.returns-then-not-used_ok
unfolding used_number
returns-then-not-used_ok c =
    let a = c.args in
    rw (every_not (length a.labels.now) (λ r. used_ok a.entries.in_phase.now a.entries.quadrature.now (get_or a.labels.now r 0)) c.loop-label.label-index (search rules) (sym (rw c.from.ensures at c.used_ok.ensures) ∙ c.if-not-used_ok.true))

pub returns : goal.returns
unfolding used_number
returns c =
    let l = c.loop-label in
    let a = c.args in
    let e : l.label-index ≡ length a.labels.now = omega arith in
    rw (ap (λ (n : ℕ). every n (λ r. used_ok a.entries.in_phase.now a.entries.quadrature.now (get_or a.labels.now r 0))) (sym e) ∙ l.invariant)
