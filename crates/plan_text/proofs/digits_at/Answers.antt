-- `plan_text::digits_at`: what the chain counts, by the three tests.
use Rattle.std.proofs.Common.{◌≡◌, refl, ap, ◌∙◌, ℕ, ◌+◌, Bool, true, false, get_or, arith, rules, tests}
use Rattle.std.specs.List.{prefix_len, range_with_len}
use Rattle.std.proofs.lemmas.Iterator.{YieldsList-from_range}
use Rattle.std.proofs.lemmas.Iterator.Consumers.{count_from_yields_List}
use Rattle.std.proofs.lemmas.Iterator.Search.{YieldsList-from_take_while}
use Rattle.std.proofs.lemmas.List.Folds.{length-prefix_len}
use Rattle.lists.specs.Choice.{pick}
use Rattle.numerals.specs.Numerals.{is_digit}
use Rattle.plan_text.specs.Reading.{digits_at}
use Rattle.plan_text.proofs.digits_at.Goals as goal

three : (f : ℕ → Bool) → (a b c : Bool) → f 0 ≡ a → f 1 ≡ b → f 2 ≡ c → prefix_len f (range_with_len 0 3) ≡ pick a (pick b (pick c 3 2) 1) 0
three f true true true p q r = rw (p, q, r)
three f true true false p q r = rw (p, q, r)
three f true false c p q r = rw (p, q)
three f false b c p q r = rw p

pub returns : goal.returns
unfolding digits_at
returns c =
    let u = c.args.text.now in
    let at = c.args.at in
    let f = λ (k : ℕ). is_digit 10 (get_or u (at + k) 0) in
    let e : at + 0 ≡ at = omega arith in
    count_from_yields_List _ _ c.count.ensures.ran
    (YieldsList-from_take_while _ f (YieldsList-from_range 0 3 3 c.take_while.ensures.source refl) c.take_while.ensures.closure (search rules) (λ x b q k. search (rules, tests)))
    ∙ length-prefix_len f (range_with_len 0 3)
    ∙ three f _ _ _ (ap (λ (n : ℕ). is_digit 10 (get_or u n 0)) e) refl refl
