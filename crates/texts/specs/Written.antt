-- A text written into an area from a place on, and texts written one behind the other.
use Rattle.std.specs.Prelude.{◌≡◌, refl, List, ◌++◌, [], ℕ, ◌+◌, ◌≤◌, length}
use Rattle.std.proofs.Common.{sym, ap, ◌∙◌, subst, arith, length-append}
use Rattle.lists.specs.Parts.{put}
use Rattle.lists.specs.PartLaws.{length_put, put_put, put_none}

-- the area with the text put into it, and the place behind the text
pub record Written (text : List ℕ) (at : ℕ) (found area : List ℕ) (next : ℕ) : Type 0 where
  pub filled : area ≡ put at text found
  pub reached : next ≡ at + length text
  pub same : length area ≡ length found

pub written : (text : List ℕ) (at : ℕ) (found area : List ℕ) (next : ℕ) → at + length text ≤ length found → area ≡ put at text found → next ≡ at + length text
    → Written text at found area next
written text at found area next h e n = record { filled = e; reached = n; same = ap length e ∙ length_put at text found h }

pub written_none : (at : ℕ) (found : List ℕ) → Written [] at found found at
written_none at found = record { filled = sym (put_none at found); reached = omega arith; same = refl }

-- one text behind the other
pub written_then : {x y : List ℕ} {at : ℕ} {a b c : List ℕ} {m n : ℕ} → at ≤ length a → Written x at a b m → Written y m b c n → Written (x ++ y) at a c n
written_then {x} {y} {at} {a} {b} {c} {m} {n} h f g =
    record {
      filled = g.filled ∙ ap (λ (k : ℕ). put k y b) f.reached ∙ ap (put (at + length x) y) f.filled ∙ put_put at x y a h;
      reached = omega (arith, f.reached, g.reached, length-append x y);
      same = g.same ∙ f.same;
    }

-- the same text by another name
pub written_is : {x y : List ℕ} {at : ℕ} {a b : List ℕ} {n : ℕ} → x ≡ y → Written x at a b n → Written y at a b n
written_is {at = at} {a = a} {b = b} {n = n} e w = subst (λ (t : List ℕ). Written t at a b n) e w
