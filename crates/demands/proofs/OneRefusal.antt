-- The number tells the refusal, but for that of a parity, which has a position beside it.
use Rattle.std.specs.Prelude.{◌≡◌, ℕ, eqb}
use Rattle.std.proofs.Common.{refl, sym, ap, ◌∙◌}
use Rattle.lists.specs.Choice.{pick}
use Rattle.refusal.specs.Answers.{number_of}
use Rattle.refusal.specs.Numbers.{PLAN, DUMMY, FULL, LENGTH, TABLE, REGISTER, SYNC, PARITY, BCH, TAIL, LABEL, VALUE, ORDER, TOTAL, PACKET, BLOCK}
use Rattle.refusal.specs.declared.Refusal.{Refusal}
use Rattle.refusal.specs.declared.Refusal.TheVariants.{Plan, Dummy, Full, Length, Table, Register, Sync, Parity, Bch, Tail, Label, Value, Order, Total, Packet, Block, Coordinate}

refusal_of : ℕ → Refusal
refusal_of n =
    pick (eqb n PLAN) Plan
    (pick (eqb n DUMMY) Dummy
    (pick (eqb n FULL) Full
    (pick (eqb n LENGTH) Length
    (pick (eqb n TABLE) Table
    (pick (eqb n REGISTER) Register
    (pick (eqb n SYNC) Sync
    (pick (eqb n BCH) Bch
    (pick (eqb n TAIL) Tail
    (pick (eqb n LABEL) Label
    (pick (eqb n VALUE) Value
    (pick (eqb n ORDER) Order
    (pick (eqb n TOTAL) Total
    (pick (eqb n PACKET) Packet
    (pick (eqb n BLOCK) Block
    Coordinate))))))))))))))

back : (r : Refusal) → (number_of r ≡ PARITY → ⊥) → refusal_of (number_of r) ≡ r
unfolding refusal_of
back Plan h = refl
back Dummy h = refl
back Full h = refl
back Length h = refl
back Table h = refl
back Register h = refl
back Sync h = refl
back (Parity p) h = absurd (h refl)
back Bch h = refl
back Tail h = refl
back Label h = refl
back Value h = refl
back Order h = refl
back Total h = refl
back Packet h = refl
back Block h = refl
back Coordinate h = refl

pub one_refusal : (r s : Refusal) → number_of r ≡ number_of s → (number_of r ≡ PARITY → ⊥) → r ≡ s
one_refusal r s d h = sym (back r h) ∙ ap refusal_of d ∙ back s (λ z. h (d ∙ z))
