-- `slot::sizes::shape`: the message is that of the definition.
use Rattle.slot.proofs.sizes.shape.Goals as goal

pub returns : goal.returns
returns c = rw c.message_bits-message.ensures
