-- `dispersal::eights::EightSteps::disperse_eights`: the area is filled with the dispersed run, eight bits at a time; the register held
-- is the one after the bits passed.
use mathlib.Core.Path.{◌≡◌, sym, ap, ap₂, ◌∙◌}
use mathlib.Core.List.{List}
use Prim.Native.Nat.{ℕ, ◌+◌, ◌-◌, ◌*◌, ◌/◌, ◌^◌, ◌≤◌}
use native.Mathlib.Omega.{arith}
use lib.ListN.{length, take}
use Rattle.lists.specs.FillingLaws.{filling_none, filling_rest, filling_part, filling_all}
use Rattle.lists.specs.PartLaws.{length_part}
use Rattle.bits.specs.Digits.{digits}
use Rattle.bits.specs.Sums.{added}
use Rattle.dispersal.specs.Register.{after}
use Rattle.dispersal.specs.RegisterLaws.{after_none, after_add, after_lt}
use Rattle.dispersal.specs.DispersalLaws.{length_dispersed}
use Rattle.dispersal.specs.EightLaws.{dispersed_eight}
use Rattle.dispersal.proofs.eights.EightSteps.disperse_eights.Goals as goal

pub loop-i-init : goal.loop-i-init
loop-i-init c =
    let a = c.args in
    let s = a.self.now in
    record {
      small = c.requires.register;
      reached = sym (after_none s.width s.mask a.register);
      filling = filling_none _ _ (length_dispersed s.width s.mask a.register a.run.now);
    }

pub add_tops-requires : goal.add_tops-requires
add_tops-requires c =
    let l = c.loop-i in
    length_part (8 * l.i) (8 * l.i + 8) l.run (omega arith) ∙ omega arith

pub loop-i-preserved : goal.loop-i-preserved
loop-i-preserved c =
    let l = c.loop-i in
    let a = c.args in
    let s = a.self.now in
    let at = 8 * l.i in
    let h : at + 8 ≤ length a.run.now = omega arith in
    let on = c.jump-held.ensures in
    let d =
    c.add_tops.ensures
    ∙ ap₂ (λ (u : List ℕ) (r : ℕ). added (take (at + 8 - at) u) (digits 8 (r / 2 ^ (s.width - 8)))) (filling_rest _ _ at l.run l.invariant.filling) l.invariant.reached
    ∙ sym (dispersed_eight s.width s.mask a.register at a.run.now s.low c.requires.register h) in
    let e : 8 * (l.i + 1) ≡ at + 8 = omega arith in
    rw e
    (record {
      small = rw on (after_lt s.width s.mask l.held 8 l.invariant.small);
      reached = on ∙ ap (λ (r : ℕ). after s.width s.mask r 8) l.invariant.reached ∙ sym (after_add s.width s.mask a.register at 8);
      filling = filling_part _ _ at l.run l.invariant.filling (at + 8) _ (omega arith) h d;
    })

pub returns : goal.returns
returns c =
    let l = c.loop-i in
    let a = c.args in
    let e : 8 * l.i ≡ length a.run.now = omega (arith, c.requires.run) in
    record { value = l.invariant.reached ∙ ap (after a.self.now.width a.self.now.mask a.register) e; run_after = filling_all _ _ (8 * l.i) l.run l.invariant.filling (omega arith) }
