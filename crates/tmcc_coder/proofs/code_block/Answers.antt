-- `tmcc_coder::code_block`: the tests decide between the octets' block and the area as found.
use Rattle.std.proofs.Common.{sym, ℕ}
use lib.ListN.{length-replicate}
use Rattle.refusal.specs.AnswerLaws.{accepted}
use Rattle.dispersal.specs.RegisterLaws.{register_is}
use Rattle.tmcc.proofs.BlockLaws.{fits}
use Rattle.tmcc.proofs.CallLaws.{codable}
use Rattle.tmcc_coder.proofs.code_block.Goals as goal

pub put_block-requires : goal.put_block-requires
put_block-requires c =
    let g = (codable _ _ _ _ _ (sym c.in_ok-check_code.ensures)).lent in
    record {
      word = record {
        lent = record { fits = fits; table = g.areas.table; bits_long = length-replicate {A = ℕ} 31680 0; room = length-replicate {A = ℕ} 22814 0 };
        held = (register_is 15 _ g.start_ok).high;
        coded_long = g.areas.coded_long;
      };
      source_long = g.areas.source_long;
    }

pub returns : goal.returns
returns c = accepted _ _ _ _ (sym c.in_ok-check_code.ensures) c.put_block.ensures
