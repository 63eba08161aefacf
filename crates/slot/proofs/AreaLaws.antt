-- The areas that reading a slot is lent, and the parts of them that a codeword of the slot's rate takes.
use Rattle.std.specs.Prelude.{List, ℕ, ◌*◌, ◌-◌, take}
use Rattle.std.proofs.Common.{◌∙◌, arith, length-take-le}
use Rattle.codeword.specs.Needs.{Checked as CheckedWord}
use Rattle.slot.specs.Slots.{slot_shape}
use Rattle.slot.proofs.SlotLaws.{fits}
use Rattle.slot.specs.Areas.{Checked}

pub areas : (R : ℕ) (t coded bits input sums : List ℕ) → Checked R t coded bits input sums
    → CheckedWord (slot_shape R) t coded bits (take (374 * R - 0) input) (take (374 * (120 - R) - 0) sums)
areas R t coded bits input sums c =
    let w = c.rate in
    record {
      lent = record { fits = fits R w; table = c.table; bits_long = c.bits_long; room = length-take-le (374 * R - 0) input (omega (arith, w.high, c.input_long)) ∙ omega arith };
      sums_long = length-take-le (374 * (120 - R) - 0) sums (omega (arith, w.low, c.sums_long)) ∙ omega arith;
      coded_long = c.whole;
    }
