-- `slot::message_bits`: as the definition.
use mathlib.Core.Path.{refl}
use Rattle.slot.specs.Slots.{message_bits}
use Rattle.slot.proofs.sizes.message_bits.Goals as goal

pub returns : goal.returns
unfolding message_bits
returns c = refl
