-- `symbols::take_place`: the area is filled with the labels that have one bit more, each read before it is replaced.
use mathlib.Core.Path.{sym, ap, ap₂, ◌∙◌}
use Prim.Native.Nat.{ℕ, ◌+◌, ◌*◌, ◌<◌}
use native.Mathlib.Nat.{mul-zero}
use native.Mathlib.Omega.{arith}
use lib.ListN.{length, get_or}
use borrow.Author.Rules.{rules}
use Rattle.lists.specs.CountLaws.{length_table, get_or_table}
use Rattle.lists.specs.FillingLaws.{filling_none, filling_here, filling_more}
use Rattle.symbols.specs.Needs.{grown}
use Rattle.symbols.proofs.Strides.{next_step}
use Rattle.symbols.proofs.places.take_place.Goals as goal

pub loop-label-init : goal.loop-label-init
unfolding grown
loop-label-init c = record { place = omega (arith, mul-zero c.args.step); filling = filling_none _ _ (length_table _ _) }

pub overflow_mul-label : goal.overflow_mul-label
overflow_mul-label c =
    let l = c.loop-label in
    omega (arith, filling_here _ _ l.label-index l.labels l.invariant.filling, c.requires.room l.label-index)

pub overflow_add-label : goal.overflow_add-label
overflow_add-label c =
    let l = c.loop-label in
    omega (arith, filling_here _ _ l.label-index l.labels l.invariant.filling, c.requires.room l.label-index, c.requires.bits c.loop-label.at)

pub loop-label-preserved : goal.loop-label-preserved
unfolding grown
loop-label-preserved c =
    let l = c.loop-label in
    let a = c.args in
    let h : l.label-index < length a.labels.now = search rules in
    let x = filling_here _ _ l.label-index l.labels l.invariant.filling in
    let b = ap (λ (k : ℕ). get_or a.bits.now k 0) l.invariant.place in
    record {
      place = omega (arith, l.invariant.place, next_step a.step l.label-index);
      filling = filling_more _ _ l.label-index l.labels l.invariant.filling _ h (ap₂ (λ (p q : ℕ). p * 2 + q) x b ∙ sym (get_or_table (length a.labels.now) _ l.label-index h));
    }
