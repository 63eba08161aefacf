-- `tmcc_reader::read_block`: refused as the call is, or answered as the received block is.
use mathlib.Core.Path.{◌≡◌, sym, ◌∙◌}
use Prim.Native.Nat.{ℕ}
use lib.ListN.{length-replicate}
use borrow.Author.Rules.{rules}
use Rattle.std.specs.Prelude.{Err}
use Rattle.lists.specs.ChoiceLaws.{then_next}
use Rattle.dispersal.specs.RegisterLaws.{register_is}
use Rattle.tmcc.proofs.BlockLaws.{fits}
use Rattle.tmcc.specs.Calls.{read_number}
use Rattle.tmcc.proofs.CallLaws.{lent, lent_area, read_looked}
use Rattle.tmcc_reader.proofs.read_block.Goals as goal

pub returns-in_err-check_lent-clause-answered : goal.returns-in_err-check_lent-clause-answered
returns-in_err-check_lent-clause-answered c =
    let a = c.args in
    let r = c.in_err-check_lent.field-0.0 in
    let e : c.from_residual.result ≡ Err r = search rules in
    rw e (lent_area a.mask a.start a.table.now a.block.now a.source.now _ r c.in_err-check_lent.ensures)

pub read-requires : goal.read-requires
read-requires c =
    let a = c.args in
    let l = lent a.mask a.start a.table.now a.source.now a.block.now (sym c.in_ok-check_lent.ensures) in
    record {
      received = record {
        checked = record {
          lent = record { fits = fits; table = l.areas.table; bits_long = length-replicate {A = ℕ} 31680 0; room = length-replicate {A = ℕ} 22814 0 };
          sums_long = length-replicate {A = ℕ} 22066 0;
          coded_long = l.areas.coded_long;
        };
        held = (register_is 15 a.start l.start_ok).high;
      };
      source_long = l.areas.source_long;
    }

pub returns : goal.returns
unfolding read_number
returns c =
    let a = c.args in
    let z = sym c.in_ok-check_lent.ensures in
    record {
      value = c.read.ensures.value ∙ sym (read_looked a.mask a.start a.table.now a.block.now a.source.now z);
      answered = rw (then_next _ _ z) c.read.ensures.answered;
    }
