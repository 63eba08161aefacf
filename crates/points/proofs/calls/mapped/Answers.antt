-- `points::mapped`: each way out answers what the tests on the way to it say.
use mathlib.Core.Path.{◌≡◌, sym, ap, ◌∙◌}
use Prim.Native.Nat.{◌^◌}
use native.Mathlib.Omega.{arith}
use borrow.Author.Tests.{le-ltb, lt-ltb}
use lib.ListN.{length}
use Rattle.std.proofs.lemmas.Result.{err_from_is_err_and}
use Rattle.refusal.specs.AnswerLaws.{refused_first}
use Rattle.points.specs.Numbers.{lent_ok, lent_number, mapped_number}
use Rattle.points.proofs.NumberLaws.{lent, listed, and_true}
use Rattle.points.proofs.AnswerLaws.{refused, answered}
use Rattle.points.proofs.calls.mapped.Goals as goal

pub returns-in_err-check_lent : goal.returns-in_err-check_lent
unfolding mapped_number
returns-in_err-check_lent c =
    let a = c.args in
    let p = err_from_is_err_and c.from_residual.result c.from_residual.ensures.1 in
    let z = ap (lent_number a.modulation a.register) (sym (and_true (lent_ok a.modulation a.symbol (length a.entries.in_phase.now) (length a.entries.quadrature.now)))) ∙ sym c.in_err-check_lent.ensures in
    rw (p.1, p.2) (refused _ _ _ (rw z (sym (refused_first _ _))))

pub returns-then-entries-at : goal.returns-then-entries-at
unfolding mapped_number
returns-then-entries-at c =
    let a = c.args in
    let l = lent _ _ _ _ _ _ (sym c.in_ok-check_lent.ensures) in
    let z : lent_number a.modulation a.register (lent_ok a.modulation a.symbol (length a.entries.in_phase.now) (length a.entries.quadrature.now)) ≡ 0 = ap (lent_number a.modulation a.register) (sym (and_true _)) ∙ sym c.in_ok-check_lent.ensures in
    refused _ _ _ (rw (z, le-ltb a.label (2 ^ a.modulation) (omega (arith, l.in_phase))))

pub returns-then-not-used_ok : goal.returns-then-not-used_ok
unfolding mapped_number
returns-then-not-used_ok c =
    let a = c.args in
    let l = lent _ _ _ _ _ _ (sym c.in_ok-check_lent.ensures) in
    let z : lent_number a.modulation a.register (lent_ok a.modulation a.symbol (length a.entries.in_phase.now) (length a.entries.quadrature.now)) ≡ 0 = ap (lent_number a.modulation a.register) (sym (and_true _)) ∙ sym c.in_ok-check_lent.ensures in
    refused _ _ _ (rw (z, lt-ltb a.label (2 ^ a.modulation) (omega (arith, l.in_phase)), sym c.used_ok.ensures ∙ c.if-not-used_ok.true))

pub returns : goal.returns
unfolding mapped_number
returns c =
    let a = c.args in
    let l = lent _ _ _ _ _ _ (sym c.in_ok-check_lent.ensures) in
    let z : lent_number a.modulation a.register (lent_ok a.modulation a.symbol (length a.entries.in_phase.now) (length a.entries.quadrature.now)) ≡ 0 = ap (lent_number a.modulation a.register) (sym (and_true _)) ∙ sym c.in_ok-check_lent.ensures in
    answered _ _ _ (rw (z, lt-ltb a.label (2 ^ a.modulation) (omega (arith, l.in_phase)), sym c.used_ok.ensures ∙ c.if-not-used_ok.false)) c.point_of.ensures

pub used_ok-requires : goal.used_ok-requires
used_ok-requires c =
    let l = lent _ _ _ _ _ _ (sym c.in_ok-check_lent.ensures) in
    listed l _ (omega (arith, l.in_phase))

pub point_of-requires : goal.point_of-requires
point_of-requires c =
    let l = lent _ _ _ _ _ _ (sym c.in_ok-check_lent.ensures) in
    listed l _ (omega (arith, l.in_phase))
