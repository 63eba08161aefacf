-- `numerals::value`: what the digits passed make, in at most 40 bits.
use Rattle.std.proofs.Common.{ℕ, ◌+◌, ◌*◌, ◌<◌, List, get_or, arith}
use Rattle.numerals.specs.Needs.{Digits}
use Rattle.numerals.specs.Numerals.{digit_of, value_of}
use Rattle.numerals.specs.NumeralLaws.{value_none, value_more, value_small}
use Rattle.numerals.proofs.digits.value.Goals as goal

-- the number with one digit more is small too
small : (base : ℕ) (text : List ℕ) (at count k : ℕ) → Digits base text at count → k < count
    → value_of base text at k * base + digit_of (get_or text (at + k) 0) < 1099511627776
small base text at count k d h =
    omega (arith, value_more base text at k, value_small base text at (k + 1) d.small (omega (arith, d.few)) (λ j l. d.right j (omega arith)))

pub overflow_mul-made : goal.overflow_mul-made
overflow_mul-made c =
    let a = c.args in
    let s = small a.base a.text.now a.at a.count c.loop-k.k c.requires (omega arith) in
    grind arith

pub overflow_add-made : goal.overflow_add-made
overflow_add-made c =
    let a = c.args in
    let s = small a.base a.text.now a.at a.count c.loop-k.k c.requires (omega arith) in
    grind arith

pub loop-k-init : goal.loop-k-init
loop-k-init c = grind (arith, value_none)

pub loop-k-preserved : goal.loop-k-preserved
loop-k-preserved c = grind (arith, value_more)
