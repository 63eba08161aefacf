-- `bits::spread`: the digits are stored from the last; those still to come are the digits of what is left of x.
use Rattle.std.proofs.Common.{◌≡◌, ◌+◌, ◌-◌, ◌∙◌, arith}
use Rattle.bits.proofs.Turns.{spread_none, spread_turn, spread_end}
use Rattle.bits.proofs.octets.spread.Goals as goal

pub loop-k-init : goal.loop-k-init
loop-k-init c = spread_none c.args.x c.args.bits.now

pub loop-k-preserved : goal.loop-k-preserved
loop-k-preserved c =
    let l = c.loop-k in
    let e : l.k - 1 + 1 ≡ l.k = omega arith in
    spread_turn (l.k - 1) l.rest l.bits (omega arith) ∙ rw e l.invariant

pub returns : goal.returns
returns c =
    let l = c.loop-k in
    let z : l.k ≡ 0 = omega arith in
    spread_end l.k l.rest l.bits z ∙ l.invariant
