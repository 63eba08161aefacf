-- `symbols::check_label`: the labels decide, one by one.
use mathlib.Core.Path.{◌∙◌}
use Prim.Native.Nat.{◌*◌, ◌%◌, ◌^◌}
use lib.Dec.{ltb}
use borrow.Author.Rules.{rules}
use borrow.Author.Tests.{tests}
use Rattle.std.proofs.lemmas.Iterator.{YieldsList-from_slice}
use Rattle.symbols.specs.Labels.{label_number}
use Rattle.symbols.specs.LabelLaws.{one_shifted}
use Rattle.lists.specs.TestLaws.{every_from_all}
use Rattle.symbols.proofs.numbers.check_label.Goals as goal

pub returns-then-all : goal.returns-then-all
unfolding label_number
returns-then-all c =
    let m = c.args.modulation in
    let fit = every_from_all _ _ _ (λ x. ltb x (1 * 2 ^ m % 2 ^ 64)) c.all.ensures.ran (YieldsList-from_slice c.args.labels.now cc) (λ x q k. search (rules, tests)) (λ x q k. search (rules, tests)) in
    rw (← one_shifted m c.requires) (rw (fit ∙ c.if-all.true))

pub returns : goal.returns
unfolding label_number
returns c =
    let m = c.args.modulation in
    let fit = every_from_all _ _ _ (λ x. ltb x (1 * 2 ^ m % 2 ^ 64)) c.all.ensures.ran (YieldsList-from_slice c.args.labels.now cc) (λ x q k. search (rules, tests)) (λ x q k. search (rules, tests)) in
    rw (← one_shifted m c.requires) (rw (fit ∙ c.if-all.false))
