-- `plan_octets::column_of`: each call of the closure gives its octet.
use Rattle.std.proofs.Common.{◌≡◌, refl, sym, ◌∙◌, ℕ, zero, suc, ◌+◌, ◌*◌, ◌<◌, ◌≤◌, List, length, get_or, subst, arith, rules, ext_get_or}
use Rattle.std.proofs.Math.Decide.{ℕ_discrete}
use Rattle.std.specs.Array.{IsFromFnResultFrom}
use Rattle.std.specs.Fn.{Called}
use denote.Param.Members.{Mut}
use Rattle.plan_octets.specs.Groups.{column}
use Rattle.plan_octets.specs.GroupLaws.{column_at}
use Rattle.plan_octets.proofs.column_of.Goals as goal

-- what a closure that changes nothing gives at each number
each_value : {F : Type 0} (g : Mut F (ℕ × Unit {0}) ℕ) (h : ℕ → ℕ) (f : F) → ((i y : ℕ) (q : F) → Called g f (i, tt) y q → (q ≡ f) × (y ≡ h i))
    → (ys : List ℕ) (i n j : ℕ) → IsFromFnResultFrom g f ys i n → i ≤ j → j < i + n → get_or ys j 0 ≡ h j
each_value g h f keeps ys i zero j r a l = absurd (omega arith)
each_value g h f keeps ys i (suc n) j r a l =
    let rest = subst (λ q. IsFromFnResultFrom g q ys (i + 1) n) (keeps i r.1 r.0 r.3).0 r.4 in
    go (ℕ_discrete i j) (λ b. each_value g h f keeps ys (i + 1) n j rest b (omega arith))
  where
    go : Dec (i ≡ j) → (i + 1 ≤ j → get_or ys j 0 ≡ h j) → get_or ys j 0 ≡ h j
    go (yes e) later = rw (← e) (r.2.1 0 ∙ (keeps i r.1 r.0 r.3).1)
    go (no d) later = later (omega arith)

length_column : (k : ℕ) (octets : List ℕ) → length (column k octets) ≡ 8
unfolding column
length_column k octets = refl

pub returns : goal.returns
returns c =
    let u = c.args.octets.now in
    let k = c.args.k in
    let r = c.from_fn.ensures.items in
    ext_get_or 0 _ (column k u) (r.long ∙ sym (length_column k u))
    (λ i l. each_value _ (λ g. get_or u (3 * g + k) 0) _ (λ j y q d. search rules) _ 0 8 i r.each (omega arith) (omega (arith, r.long)) ∙ sym (column_at k u i (omega (arith, r.long))))
