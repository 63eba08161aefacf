-- `dispersal::eights::EightSteps::add_tops`: the area is filled with the sums, each bit read before it is replaced.
use mathlib.Core.Path.{sym, ap₂, ◌∙◌}
use Prim.Native.Nat.{ℕ, ◌+◌, ◌-◌, ◌/◌, ◌%◌, ◌^◌, ◌<◌}
use native.Mathlib.Omega.{arith}
use lib.ListN.{length}
use Rattle.lists.specs.FillingLaws.{filling_none, filling_here, filling_more}
use Rattle.bits.specs.Digits.{digits}
use Rattle.bits.specs.SumLaws.{length_added, get_or_added}
use Rattle.dispersal.specs.EightLaws.{digit_at_law}
use Rattle.dispersal.proofs.eights.EightSteps.add_tops.Goals as goal

pub loop-k-init : goal.loop-k-init
loop-k-init c = filling_none _ _ (length_added _ _)

pub loop-k-preserved : goal.loop-k-preserved
loop-k-preserved c =
    let l = c.loop-k in
    let a = c.args in
    let tops = a.register / 2 ^ (a.self.now.width - 8) in
    let h : l.k < length a.run.now = omega arith in
    let x = c.from.ensures ∙ filling_here _ _ l.k l.run l.invariant in
    let y = c.bit_of.ensures ∙ sym (digit_at_law 8 tops l.k (omega arith)) in
    filling_more _ _ l.k l.run l.invariant _ h
    (ap₂ (λ (p q : ℕ). (p + q) % 2) x y ∙ sym (get_or_added a.run.now (digits 8 tops) l.k h))
