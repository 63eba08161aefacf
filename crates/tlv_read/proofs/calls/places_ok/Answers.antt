-- `tlv_read::calls::places_ok`: the reports decide, one by one.
use mathlib.Core.Path.{sym}
use borrow.Author.Rules.{rules}
use borrow.Author.Tests.{tests}
use Rattle.std.proofs.lemmas.Iterator.{YieldsList-from_slice}
use Rattle.tlv.specs.Calls.{place_ok, all_hold}
use Rattle.lists.specs.TestLaws.{every_from_all}
use Rattle.tlv_read.proofs.calls.places_ok.Goals as goal

pub returns : goal.returns
unfolding all_hold
returns c = sym (every_from_all _ _ _ (place_ok c.args.size) c.all.ensures.ran (YieldsList-from_slice c.args.begins.now cc) (λ x q k. search (rules, tests)) (λ x q k. search (rules, tests)))
