-- `bch::right`: the BCH bits of the message, compared.
use Rattle.bch.proofs.message.right.Goals as goal

pub returns : goal.returns
returns c = cc
