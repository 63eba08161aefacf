-- `octet_numbers::sum_of`: the sum of a list is the sum over its places.
use Rattle.std.proofs.Common.{◌≡◌, ◌%◌, ℕ, ap, ◌∙◌, rules}
use Rattle.std.specs.List.{sum}
use Rattle.octet_numbers.specs.Numbers.{sum_of}
use Rattle.octet_numbers.proofs.Places.{sum_places}
use Rattle.octet_numbers.proofs.sum_of.Goals as goal

pub returns : goal.returns
unfolding sum_of
returns c =
    let u = c.args.octets.now in
    let e : c.sum.result ≡ sum u = search rules in
    ap (λ (n : ℕ). n % 65536) (e ∙ sum_places u)
