-- `tlv_read::calls::marks_ok`: the marks decide, one by one.
use mathlib.Core.Path.{sym}
use borrow.Author.Rules.{rules}
use borrow.Author.Tests.{tests}
use Rattle.std.proofs.lemmas.Iterator.{YieldsList-from_slice}
use Rattle.tlv.specs.Calls.{mark_ok, all_hold}
use Rattle.lists.specs.TestLaws.{every_from_all}
use Rattle.tlv_read.proofs.calls.marks_ok.Goals as goal

pub returns : goal.returns
unfolding all_hold
returns c = sym (every_from_all _ _ _ mark_ok c.all.ensures.ran (YieldsList-from_slice c.args.lost.now cc) (λ x q k. search (rules, tests)) (λ x q k. search (rules, tests)))
