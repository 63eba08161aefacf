-- `octet_numbers::all_zero`: each octet of a list is the one at each place.
use Rattle.std.proofs.Common.{◌≡◌, ℕ, length, get_or, rules, eq-eqb, eqb-true}
use Rattle.std.specs.Prelude.{IsTrue, ◌↔◌, EachIndex, slice_index, eqb}
use Rattle.lists.specs.ChoiceLaws.{same_test}
use Rattle.lists.specs.CountLaws.{every_at, every_all}
use Rattle.octet_numbers.specs.Numbers.{all_zero}
use Rattle.octet_numbers.proofs.all_zero.Goals as goal

pub returns : goal.returns
unfolding all_zero
returns c =
    let u = c.args.octets.now in
    let n = length u in
    let zero_at = λ (k : ℕ). eqb (get_or u k 0) 0 in
    let e : IsTrue c.all.result ↔ EachIndex u (λ k. slice_index u k ≡ 0) = search rules in
    same_test _ _
    (λ t. every_all n zero_at (λ k l. eq-eqb (get_or u k 0) 0 (e.0 t k l)))
    (λ t. e.1 (λ k l. eqb-true (get_or u k 0) 0 (every_at n zero_at t k l)))
