-- `parity_table::address_ok`: the address is below m, and the search of those before it answers.
use Rattle.std.proofs.Common.{◌≡◌, sym, ◌∙◌, ap, arith, rules, ◌+◌, ◌<◌, length, ℕ, ◌-◌, Bool, eqb, List, get_or, take, drop, get_or-take, get_or-drop, length-take, length-drop, le-ltb}
use Rattle.std.proofs.Math.Bool.{not}
use Rattle.std.proofs.lemmas.Bool.{not-true}
use Rattle.std.proofs.lemmas.Bool.Decides.{Decides-eqb}
use Rattle.std.proofs.lemmas.List.Elements.{contains_decides}
use Rattle.std.proofs.lemmas.List.{get_or_default}
use Rattle.std.specs.List.{IsAnyAnswer}
use Rattle.lists.specs.ChoiceLaws.{false_of, clash, same_test}
use Rattle.parity_table.specs.Tables.{address_ok}
use Rattle.parity_table.specs.TableLaws.{address_yes, address_below, address_new}
use Rattle.parity_table.proofs.address_ok.Goals as goal

searched : (m from i : ℕ) (t : List ℕ) (r : Bool) → from + i < length t → get_or t (from + i) 0 < m
    → IsAnyAnswer (λ y b. eqb y (get_or t (from + i) 0) ≡ b) (take (from + i - from) (drop from t)) r → not r ≡ address_ok m t from i
searched m from i t r l b h =
    let a = get_or t (from + i) 0 in
    let u = take (from + i - from) (drop from t) in
    let n : length u ≡ i = omega (arith, length-take (from + i - from) (drop from t), length-drop from t) in
    let at : (k : ℕ) → k < i → get_or u k 0 ≡ get_or t (from + k) 0
    = λ k j. get_or-take (from + i - from) (drop from t) k 0 (omega arith) ∙ get_or-drop from t k 0 in
    let d = contains_decides eqb Decides-eqb u a r h in
    same_test (not r) (address_ok m t from i)
    (λ e. address_yes m t from i b (λ k j q. clash r (not-true r e) (d.1 (k, omega arith, λ x. get_or-take (from + i - from) (drop from t) k x (omega arith) ∙ get_or-drop from t k x ∙ get_or_default t (from + k) x 0 (omega arith) ∙ q))))
    (λ e. ap not (false_of r (λ f. let w = d.0 f in address_new m t from i e w.0 (omega arith) (sym (at w.0 (omega arith)) ∙ w.2 0))))

pub returns-then-from-m : goal.returns-then-from-m
returns-then-from-m c = search (rules, searched)

pub returns-else-from-m : goal.returns-else-from-m
returns-else-from-m c =
    let a = c.args in
    le-ltb _ _ c.if-from-m.false ∙ sym (false_of (address_ok a.m a.table.now a.from a.i) (λ h. omega (arith, address_below a.m a.table.now a.from a.i h)))
