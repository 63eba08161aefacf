-- `setting_block::block_ok`: the tests of the definition, otherwise grouped.
use Rattle.std.proofs.Common.{◌≡◌, refl, sym, ap, ap₂, ◌∙◌, ℕ, List, Bool, true, false, ◌&&◌, eqb, take, arith}
use Rattle.std.proofs.lemmas.Bool.{false≢true}
use Rattle.bits.specs.Same.{same}
use Rattle.octet_numbers.specs.Numbers.{sum_of, all_zero}
use Rattle.setting_block.specs.Layout.{layout, mark, edition}
use Rattle.setting_block.specs.Blocks.{field_in, number_in, unused_in, block_ok}
use Rattle.setting_block.specs.BlockLaws.{field_number}
use Rattle.setting_block.proofs.blocks.block_ok.Goals.{then-head_ok, else-head_ok}
use Rattle.setting_block.proofs.blocks.block_ok.Goals as goal

all_hold : (m e u z s v : Bool) → v ≡ ((m && e) && (u && z)) → v ≡ true → s ≡ (m && (e && (u && (z && s))))
all_hold true true true true s v d h = refl
all_hold true true true false s v d h = absurd (false≢true (sym d ∙ h))
all_hold true true false z s v d h = absurd (false≢true (sym d ∙ h))
all_hold true false u z s v d h = absurd (false≢true (sym d ∙ h))
all_hold false e u z s v d h = absurd (false≢true (sym d ∙ h))

one_fails : (m e u z s v : Bool) → v ≡ ((m && e) && (u && z)) → v ≡ false → v ≡ (m && (e && (u && (z && s))))
one_fails true true true true s v d h = absurd (false≢true (sym h ∙ d))
one_fails true true true false s v d h = d
one_fails true true false z s v d h = d
one_fails true false u z s v d h = d
one_fails false e u z s v d h = d

-- whether head, fillers and sum are right
abbrev Head : List ℕ → Bool
Head b = same (field_in (layout edition).mark b) mark && eqb (number_in (layout edition).edition b) edition

abbrev Fillers : List ℕ → Bool
Fillers b = all_zero (unused_in edition b) && all_zero (field_in (layout edition).zeros b)

abbrev Sum : List ℕ → Bool
Sum b = eqb (number_in (layout edition).sum b) (sum_of (take (layout edition).sum.at b))

decides : (b : List ℕ) (v : Bool) → v ≡ (Head b && Fillers b) → v ≡ true → Sum b ≡ block_ok edition b
unfolding block_ok
decides b v =
    all_hold (same (field_in (layout edition).mark b) mark) (eqb (number_in (layout edition).edition b) edition)
    (all_zero (unused_in edition b)) (all_zero (field_in (layout edition).zeros b)) (Sum b) v

fails : (b : List ℕ) (v : Bool) → v ≡ (Head b && Fillers b) → v ≡ false → v ≡ block_ok edition b
unfolding block_ok
fails b v =
    one_fails (same (field_in (layout edition).mark b) mark) (eqb (number_in (layout edition).edition b) edition)
    (all_zero (unused_in edition b)) (all_zero (field_in (layout edition).zeros b)) (Sum b) v

pub returns-then-fillers_zero : goal.returns-then-fillers_zero
returns-then-fillers_zero c =
    let b = c.args.block.now in
    let d : c.if-head_ok.value ≡ (c.head_ok.result && Fillers b) =
    elim c.if-head_ok.branch [
      | then-head_ok w ↦ rw w.if-head_ok.true (w.value-is ∙ w.fillers_zero.ensures)
      | else-head_ok w ↦ rw w.if-head_ok.false (w.value-is ∙ w.if-head_ok.false)
    ] in
    let f = field_number b c.told-block (layout edition).sum (omega arith) in
    ap₂ eqb (c.number_of.ensures ∙ f) c.sum_of.ensures ∙ decides b _ (d ∙ ap (λ (x : Bool). x && Fillers b) c.head_ok.ensures) c.if-fillers_zero.true

pub returns-else-fillers_zero : goal.returns-else-fillers_zero
returns-else-fillers_zero c =
    let b = c.args.block.now in
    let d : c.if-head_ok.value ≡ (c.head_ok.result && Fillers b) =
    elim c.if-head_ok.branch [
      | then-head_ok w ↦ rw w.if-head_ok.true (w.value-is ∙ w.fillers_zero.ensures)
      | else-head_ok w ↦ rw w.if-head_ok.false (w.value-is ∙ w.if-head_ok.false)
    ] in
    fails b _ (d ∙ ap (λ (x : Bool). x && Fillers b) c.head_ok.ensures) c.if-fillers_zero.false
