-- `tmcc_coder::check_code`: what is lent decides, then the last two bits.
use Rattle.std.proofs.Common.{◌≡◌, arith, sym, length, eq-eqb, ne_eqb}
use Rattle.tmcc.specs.Calls.{code_number}
use Rattle.tmcc.proofs.CallLaws.{lent}
use Rattle.tmcc_coder.specs.TailLaws.{tail_last}
use Rattle.tmcc_coder.proofs.check_code.Goals as goal

pub bounds-source : goal.bounds-source
bounds-source c =
    let long : length c.args.source.now ≡ 1178 = (lent _ _ _ _ _ (sym c.in_ok-check_lent.ensures)).areas.source_long in
    omega (arith, long)

pub returns-then-source-eq0 : goal.returns-then-source-eq0
unfolding code_number
returns-then-source-eq0 c =
    let long : length c.args.source.now ≡ 1178 = (lent _ _ _ _ _ (sym c.in_ok-check_lent.ensures)).areas.source_long in
    rw (← c.in_ok-check_lent.ensures, tail_last _ long, eq-eqb _ 0 c.if-source-eq0.true)

pub returns : goal.returns
unfolding code_number
returns c =
    let long : length c.args.source.now ≡ 1178 = (lent _ _ _ _ _ (sym c.in_ok-check_lent.ensures)).areas.source_long in
    rw (← c.in_ok-check_lent.ensures, tail_last _ long, ne_eqb _ 0 c.if-source-eq0.false)
