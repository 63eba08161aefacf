-- `dispersal::run::disperse_bits`: the area is filled with the dispersed run, each bit read before it is replaced; the register held
-- is the one after the bits passed.
use mathlib.Core.Path.{◌≡◌, sym, ap, ap₂, ◌∙◌}
use Prim.Native.Nat.{ℕ, ◌+◌, ◌%◌, ◌<◌}
use native.Mathlib.Omega.{arith}
use lib.ListN.{length}
use Rattle.lists.specs.FillingLaws.{filling_none, filling_here, filling_more, filling_all}
use Rattle.bits.proofs.Turns.{lowest_of_both}
use Rattle.dispersal.specs.Register.{step, after, top}
use Rattle.dispersal.specs.RegisterLaws.{after_none, after_more, step_lt, top_lt}
use Rattle.dispersal.specs.DispersalLaws.{length_dispersed, dispersed_at}
use Rattle.dispersal.proofs.run.disperse_bits.Goals as goal

pub loop-bit-init : goal.loop-bit-init
loop-bit-init c =
    let a = c.args in
    record {
      small = c.requires.small;
      reached = sym (after_none a.width a.mask a.register);
      filling = filling_none _ _ (length_dispersed a.width a.mask a.register a.run.now);
    }

pub overflow_cast-top : goal.overflow_cast-top
unfolding top
overflow_cast-top c = let l = c.loop-bit in omega (arith, top_lt c.args.width l.held c.requires.low l.invariant.small)

pub loop-bit-preserved : goal.loop-bit-preserved
unfolding top
loop-bit-preserved c =
    let l = c.loop-bit in
    let a = c.args in
    let h : l.bit-index < length a.run.now = omega arith in
    let x = filling_here _ _ l.bit-index l.run l.invariant.filling in
    record {
      small = rw c.stepped-held.ensures (step_lt a.width a.mask l.held);
      reached = c.stepped-held.ensures ∙ ap (step a.width a.mask) l.invariant.reached ∙ sym (after_more a.width a.mask a.register l.bit-index);
      filling =
          filling_more _ _ l.bit-index l.run l.invariant.filling _ h
          (lowest_of_both _ _
          ∙ ap₂ (λ (p q : ℕ). (p + top a.width q) % 2) x l.invariant.reached
          ∙ sym (dispersed_at a.width a.mask a.register a.run.now l.bit-index h));
    }

pub returns : goal.returns
returns c =
    let l = c.loop-bit in
    let a = c.args in
    let e : l.bit-index ≡ length a.run.now = omega arith in
    record { value = l.invariant.reached ∙ ap (after a.width a.mask a.register) e; run_after = filling_all _ _ l.bit-index l.run l.invariant.filling (omega arith) }
