-- `slot::source_octets`: as the definition.
use mathlib.Core.Path.{ap}
use Prim.Native.Nat.{ℕ, ◌/◌}
use Rattle.slot.specs.Slots.{source_octets}
use Rattle.slot.proofs.sizes.source_octets.Goals as goal

pub returns : goal.returns
unfolding source_octets
returns c = ap (λ (n : ℕ). n / 8) c.message_bits.ensures
