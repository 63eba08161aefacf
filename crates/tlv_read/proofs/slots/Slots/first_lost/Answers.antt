-- `tlv_read::Slots::first_lost`: no slot passed is met.
use native.Mathlib.Omega.{arith}
use borrow.Author.Rules.{rules}
use Rattle.tlv_read.specs.SlotTurns.{meets_here, meets_none}
use Rattle.tlv_read.proofs.slots.Slots.first_lost.Goals as goal

pub returns-then-to-self-clause-first : goal.returns-then-to-self-clause-first
returns-then-to-self-clause-first c = meets_none _ _ _ _ _ c.loop-k.k c.loop-k.invariant (λ _. search rules)

pub returns-then-self-k-eq1-clause-first : goal.returns-then-self-k-eq1-clause-first
returns-then-self-k-eq1-clause-first c = meets_here _ _ _ _ _ c.loop-k.k (search rules) (search rules) c.if-self-k-eq1.true c.loop-k.invariant

pub returns-clause-first : goal.returns-clause-first
returns-clause-first c = meets_none _ _ _ _ _ c.loop-k.k c.loop-k.invariant (λ l. absurd (omega arith))
