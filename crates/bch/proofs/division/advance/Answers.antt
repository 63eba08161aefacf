-- `bch::division::advance`: the words shifted, and the table's entry for what the shift moves out with the octet.
use Rattle.std.proofs.Common.{◌/◌, ◌^◌, get_or, arith}
use Rattle.bch.specs.Polynomials.{◌⊕◌}
use Rattle.bch.specs.declared.division.Words.{Words}
use Rattle.bch.proofs.PolynomialLaws.{padd_lt}
use Rattle.bch.proofs.Entries.{entry_rule}
use Rattle.bch.proofs.Shifted.{advance_rule}
use Rattle.bch.proofs.division.advance.Goals as goal

pub bounds-table-out : goal.bounds-table-out
unfolding ◌⊕◌
bounds-table-out c = padd_lt 8 (c.args.rest.high / 2 ^ 56) c.args.octet (omega arith) c.requires.within

pub returns : goal.returns
unfolding ◌⊕◌
returns c =
    let r = c.args.rest in
    let o = r.high / 2 ^ 56 ⊕ c.args.octet in
    let e : Words = get_or c.args.table.now o record { high = 0; middle = 0; low = 0 } in
    let l = padd_lt 8 (r.high / 2 ^ 56) c.args.octet (omega arith) c.requires.within in
    advance_rule r.high r.middle r.low c.args.octet e.high e.middle e.low
    (omega arith) (omega arith) (omega arith) c.requires.within (omega arith) (omega arith) (entry_rule c.args.table.now o _ c.requires.table l)
