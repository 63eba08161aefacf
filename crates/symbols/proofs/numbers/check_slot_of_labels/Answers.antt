-- `symbols::check_slot_of_labels`: only a known modulation gets to the labels.
use mathlib.Core.Path.{sym}
use Rattle.plan.proofs.RateLaws.{between}
use Rattle.symbols.specs.CallLaws.{slot_ready}
use Rattle.symbols.proofs.numbers.check_slot_of_labels.Goals as goal

pub check_label-requires : goal.check_label-requires
check_label-requires c = (between 1 5 c.args.modulation (slot_ready _ _ _ _ (sym c.in_ok-check_slot.ensures)).known).high
