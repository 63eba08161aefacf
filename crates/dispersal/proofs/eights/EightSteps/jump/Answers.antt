-- `dispersal::eights::EightSteps::jump`: what is fed in are the feedback bits of the steps so far.
use mathlib.Core.Path.{◌≡◌, sym, ap, ◌∙◌}
use mathlib.Core.List.{List}
use Prim.Native.Nat.{ℕ, ◌+◌, ◌*◌, ◌%◌, ◌^◌, ◌≤◌, ◌<◌}
use native.Mathlib.Nat.{mod-eq_of_lt}
use native.Mathlib.Omega.{arith}
use lib.Bits.{bit_and, bit_or, or_shifted}
use lib.Count.{ones}
use lib.ListN.{get_or}
use lib.Pow.{pow_mono, pow_pos}
use Rattle.dispersal.specs.Eights.{feedback}
use Rattle.dispersal.specs.EightLaws.{after_fed, feedback_none, feedback_more, feedback_lt}
use Rattle.dispersal.proofs.Shift.{weight, masked}
use Rattle.dispersal.proofs.eights.EightSteps.jump.Goals as goal

pub loop-mask-init : goal.loop-mask-init
loop-mask-init c = sym (feedback_none c.args.self.now.masks c.args.register)

pub loop-mask-preserved : goal.loop-mask-preserved
loop-mask-preserved c =
    let l = c.loop-mask in
    let a = c.args in
    let f = ones (bit_and a.register (get_or a.self.now.masks l.mask-index 0)) % 2 in
    let small : 2 ^ l.mask-index ≤ 128 = pow_mono {j = 7} (omega arith) in
    let twice : l.fed * 2 < 4294967296 = omega (arith, l.invariant, feedback_lt a.self.now.masks a.register l.mask-index) in
    ap (λ (x : ℕ). bit_or x f) (mod-eq_of_lt twice)
    ∙ or_shifted l.fed 1 f (omega arith)
    ∙ ap (λ (x : ℕ). x * 2 + f) l.invariant
    ∙ sym (feedback_more a.self.now.masks a.register l.mask-index)

pub overflow_sub-low : goal.overflow_sub-low
overflow_sub-low c = let w = c.args.self.now.width in omega (arith, weight w (omega arith), pow_pos w)

pub returns : goal.returns
returns c =
    let a = c.args in
    let s = a.self.now in
    let l = c.loop-mask in
    let e : l.mask-index ≡ 8 = omega arith in
    let m : l.fed ≡ feedback s.masks a.register 8 = l.invariant ∙ ap (feedback s.masks a.register) e in
    let t = λ (u : List ℕ). (a.register * 2 ^ 8 + feedback u a.register 8) % 2 ^ s.width in
    rw m (masked s.width 8 a.register _ s.high (omega arith) (feedback_lt s.masks a.register 8))
    ∙ ap t s.made
    ∙ sym (after_fed s.width s.mask a.register 8 (omega arith) c.requires)
