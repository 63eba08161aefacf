-- `tlv_read::Slots::next_begin`: no slot passed is sound with a report.
use mathlib.Core.Path.{ap, ◌∙◌}
use Prim.Native.Nat.{ℕ, ◌+◌, ◌*◌}
use borrow.Author.Rules.{rules}
use Rattle.tlv_read.specs.SlotTurns.{on_here, on_none}
use Rattle.tlv_read.proofs.slots.Slots.next_begin.Goals as goal

pub returns-then-self-k : goal.returns-then-self-k
returns-then-self-k c =
    let k = c.loop-k.k in
    ap (λ (r : ℕ). c.args.self.size * k + r) c.from.ensures
    ∙ on_here _ _ _ _ _ k (search rules) c.if-self-k-ne1.true c.if-self-k.true c.loop-k.invariant

pub returns : goal.returns
returns c = c.args.self.lending.long ∙ on_none _ _ _ _ _ c.loop-k.k (search rules) c.loop-k.invariant
