-- The cases that document 01 works by hand and marks P, proved.
use Rattle.dispersal.specs.Turning as turning
use Rattle.bch.proofs.BchLaws.{bch_bits_zero, bch_bits_last}
use Rattle.ldpc.proofs.Cases as parity
use Rattle.symbols.specs.IndexLaws.{psk8_first, psk8_first_leftward, apsk32_last}
use Rattle.plan.specs.Rates.{rows_of}
use Rattle.codeword.specs.Words.{register_after as wordRegisterAfter}
use Rattle.slot.specs.Slots.{register_after, covered_bits}
use Rattle.demands.specs.Statements.{Worked}

pub worked : Worked
unfolding register_after covered_bits wordRegisterAfter rows_of
worked =
    record {
      slot_gives = turning.slot_gives;
      slot_holds = turning.slot_holds;
      block_holds = turning.block_holds;
      rate_5 = parity.rate_5;
      rate_3 = parity.rate_3;
      address_first = parity.address_first;
      address_last = parity.address_last;
      bch_zero = bch_bits_zero;
      bch_last = bch_bits_last;
      first_8psk = psk8_first;
      first_8psk_rate_2 = psk8_first_leftward;
      last_32apsk = apsk32_last;
    }
