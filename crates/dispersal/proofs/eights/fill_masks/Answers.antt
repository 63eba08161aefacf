-- `dispersal::eights::fill_masks`: the area is filled with the masks; the next is the one of the place reached.
use mathlib.Core.Path.{sym, ap, ap₂, ◌∙◌}
use Prim.Native.Nat.{ℕ, ◌*◌, ◌/◌, ◌%◌, ◌^◌}
use native.Mathlib.Nat.{mod-le}
use native.Mathlib.Omega.{arith}
use lib.Bits.{bit_xor}
use lib.Pow.{pow_pos}
use Rattle.lists.specs.FillingLaws.{filling_none, filling_more}
use Rattle.dispersal.specs.EightLaws.{drawn_part, mask_none, mask_more, length_masks, masks_at}
use Rattle.dispersal.proofs.Shift.{weight}
use Rattle.dispersal.proofs.eights.fill_masks.Goals as goal

pub nonzero_rem-taps : goal.nonzero_rem-taps
nonzero_rem-taps c = omega (arith, weight c.args.width (omega arith), pow_pos c.args.width)

pub loop-place-init : goal.loop-place-init
loop-place-init c =
    let a = c.args in
    let e = ap (λ (n : ℕ). a.mask % n) (weight a.width (omega arith)) in
    record {
      cut = e;
      reached = e ∙ sym (mask_none (a.mask % 2 ^ a.width));
      filling = filling_none _ _ (omega (arith, length_masks a.width a.mask));
    }

pub overflow_mul-next : goal.overflow_mul-next
overflow_mul-next c =
    let a = c.args in
    let n = 1 * 2 ^ a.width % 4294967296 in
    omega (arith, drawn_part c.loop-place.next (a.mask % n), mod-le a.mask n)

pub loop-place-preserved : goal.loop-place-preserved
loop-place-preserved c =
    let l = c.loop-place in
    let a = c.args in
    let t = a.mask % 2 ^ a.width in
    record {
      cut = l.invariant.cut;
      reached = ap₂ (λ (n m : ℕ). bit_xor (n / 2) (n % 2 * m)) l.invariant.reached l.invariant.cut ∙ sym (mask_more t l.place-index);
      filling = filling_more _ _ l.place-index l.masks l.invariant.filling _ (omega arith) (l.invariant.reached ∙ sym (masks_at a.width a.mask l.place-index (omega arith)));
    }
