-- `points::check_points`: what is lent, then all labels, so that each label used has its entries.
use mathlib.Core.Path.{sym}
use borrow.Author.Tests.{leb-true}
use lib.Dec.{leb}
use Rattle.lists.specs.ChoiceLaws.{and_right}
use Rattle.symbols.specs.CallLaws.{labels_fit}
use Rattle.points.proofs.NumberLaws.{lent, listed}
use Rattle.points.proofs.numbers.check_points.Goals as goal

pub check_label-requires : goal.check_label-requires
check_label-requires c =
    let m = c.args.modulation in
    leb-true m 5 (and_right (leb 1 m) _ (lent _ _ _ _ _ _ (sym c.in_ok-check_lent.ensures)).known)

pub check_used-requires : goal.check_used-requires
check_used-requires c r h = listed (lent _ _ _ _ _ _ (sym c.in_ok-check_lent.ensures)) _ (labels_fit _ _ (sym c.in_ok-check_label.ensures) r h)
