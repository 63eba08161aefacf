-- `setting_block::head_ok`: what `==` says of the mark, and the number in the edition's field.
use Rattle.std.proofs.Common.{◌≡◌, refl, sym, ap, ◌∙◌, ℕ, Bool, List, [], ◌∷◌, ◌&&◌, eqb, arith}
use lib.Pointwise.{pointwise}
use Rattle.bits.specs.Same.{same}
use Rattle.setting_block.specs.Layout.{layout, mark, edition}
use Rattle.setting_block.specs.Blocks.{field_in}
use Rattle.setting_block.specs.BlockLaws.{field_number}
use Rattle.setting_block.proofs.blocks.head_ok.Goals as goal

-- what `==` says of two runs
same_eq : (xs ys : List ℕ) → pointwise eqb xs ys ≡ same xs ys
unfolding same
same_eq [] [] = refl
same_eq [] (y ∷ ys) = refl
same_eq (x ∷ xs) [] = refl
same_eq (x ∷ xs) (y ∷ ys) = ap (λ (b : Bool). eqb x y && b) (same_eq xs ys)

pub returns-then-eq : goal.returns-then-eq
returns-then-eq c =
    let b = c.args.block.now in
    let m : c.eq.result ≡ same (field_in (layout edition).mark b) mark = c.eq.ensures ∙ same_eq _ _ in
    rw (sym m ∙ c.if-eq.true) (ap (λ (n : ℕ). eqb n 1) (c.number_of.ensures ∙ field_number b c.told-block (layout edition).edition (omega arith)))

pub returns-else-eq : goal.returns-else-eq
returns-else-eq c =
    let m : c.eq.result ≡ same (field_in (layout edition).mark c.args.block.now) mark = c.eq.ensures ∙ same_eq _ _ in
    rw (sym m ∙ c.if-eq.false) c.if-eq.false
