-- Laws of plans as octets: lengths, which plans fit, and there and back.
use Rattle.std.specs.Prelude.{◌≡◌, refl, List, [], ◌∷◌, ℕ, zero, suc, ◌+◌, ◌*◌, ◌-◌, ◌/◌, ◌%◌, ◌<◌, ◌≤◌, ltb, length, get_or, drop, set}
use Rattle.std.proofs.Math.Path.{sym}
use Rattle.std.proofs.Common.{ap, ◌∙◌, arith, add-one, lt-ltb, le-ltb, drop-cons, get_or-drop, get_or-take}
use Rattle.std.proofs.Math.Decide.{dec_lt}
use Rattle.std.proofs.Math.ListN.{get_or-eq_default}
use Rattle.lists.specs.Choice.{pick}
use Rattle.lists.specs.Count.{table, joined}
use Rattle.lists.specs.CountLaws.{get_or_table, joined_same}
use Rattle.lists.specs.Parts.{part}
use Rattle.lists.specs.Pieces.{length_pieces, pieces_at, pieces_whole}
use Rattle.plan.specs.declared.Plan.{Plan}
use Rattle.plan.proofs.RateLaws.{between}
use Rattle.plan.specs.Plans.{modulation_of, rate_of, slots_of, plan_number}
use Rattle.plan.proofs.PlanLaws.{accepted, group_values, before_more, before_mono, plan_same}
use Rattle.plan_octets.specs.Groups.{column, of_octets, used, group_of, groups_of, unused_zero}
use Rattle.plan_octets.specs.Needs.{Fits}

pub length_group_of : (p : Plan) (g : ℕ) → length (group_of p g) ≡ 3
unfolding group_of
length_group_of p g = refl

pub length_groups_of : (p : Plan) → length (groups_of p) ≡ 24
unfolding groups_of
length_groups_of p = length_pieces 8 3 (group_of p) (λ k l. length_group_of p k)

-- a group's octets in those of all
pub group_in : (p : Plan) (g : ℕ) → g < 8 → part (3 * g) (3 * g + 3) (groups_of p) ≡ group_of p g
unfolding groups_of
group_in p g h =
    let e : 3 * (g + 1) ≡ 3 * g + 3 = omega arith in
    rw e at (pieces_at 8 3 (group_of p) (λ k l. length_group_of p k) g h)

-- three octets set in an area of three are all of it
pub three_set : (xs : List ℕ) (a b c : ℕ) → length xs ≡ 3 → set (set (set xs 0 a) 1 b) 2 c ≡ a ∷ b ∷ c ∷ []
three_set [] a b c h = absurd (omega arith)
three_set (x ∷ []) a b c h = absurd (omega arith)
three_set (x ∷ y ∷ []) a b c h = absurd (omega arith)
three_set (x ∷ y ∷ z ∷ []) a b c h = refl
three_set (x ∷ y ∷ z ∷ w ∷ xs) a b c h = absurd (omega arith)

pub group_used : (p : Plan) (g : ℕ) → g < p.count → group_of p g ≡ modulation_of p g ∷ rate_of p g ∷ slots_of p g ∷ []
unfolding group_of
group_used p g h = rw (lt-ltb g p.count h)

pub group_unused : (p : Plan) (g : ℕ) → p.count ≤ g → group_of p g ≡ 0 ∷ 0 ∷ 0 ∷ []
unfolding group_of
group_unused p g h = rw (le-ltb g p.count h)

-- every accepted plan fits
pub accepted_fits : (p : Plan) → plan_number p ≡ 0 → Fits p
accepted_fits p z =
    let a = accepted p z in
    record {
      modulation = λ g h. omega (arith, (between 1 5 (modulation_of p g) (group_values p g a h).modulation).high);
      rate = λ g h. omega (arith, (between 1 11 (rate_of p g) (group_values p g a h).rate).high);
      slots = λ g h. omega (arith, before_more p g, before_mono p (g + 1) p.count (omega arith), a.total);
    }

-- zeros for the groups that are not used change no plan's number, where eight groups are enough
pub unused_same : (p : Plan) → p.count ≤ 8 → plan_number (unused_zero p) ≡ plan_number p
unfolding unused_zero
unused_same p h =
    plan_same (unused_zero p) p refl (in_use (modulation_of p)) (in_use (rate_of p)) (in_use (slots_of p))
  where
    in_use : (value : ℕ → ℕ) (g : ℕ) → g < p.count → get_or (table 8 (used p value)) g 0 ≡ value g
    in_use value g l = get_or_table 8 (used p value) g (omega arith) ∙ rw (lt-ltb g p.count l)

-- written and read again
pub read_written : (p : Plan) → of_octets p.count (groups_of p) ≡ unused_zero p
unfolding of_octets column groups_of group_of unused_zero joined table
read_written p = refl

-- the octet of group g in a column
pub column_at : (k : ℕ) (octets : List ℕ) (g : ℕ) → g < 8 → get_or (column k octets) g 0 ≡ get_or octets (3 * g + k) 0
unfolding column
column_at k octets zero h = ap (λ (i : ℕ). get_or octets i 0) (omega arith)
column_at k octets (suc zero) h = ap (λ (i : ℕ). get_or octets i 0) (omega arith)
column_at k octets (suc (suc zero)) h = ap (λ (i : ℕ). get_or octets i 0) (omega arith)
column_at k octets (suc (suc (suc zero))) h = ap (λ (i : ℕ). get_or octets i 0) (omega arith)
column_at k octets (suc (suc (suc (suc zero)))) h = ap (λ (i : ℕ). get_or octets i 0) (omega arith)
column_at k octets (suc (suc (suc (suc (suc zero))))) h = ap (λ (i : ℕ). get_or octets i 0) (omega arith)
column_at k octets (suc (suc (suc (suc (suc (suc zero)))))) h = ap (λ (i : ℕ). get_or octets i 0) (omega arith)
column_at k octets (suc (suc (suc (suc (suc (suc (suc zero))))))) h = ap (λ (i : ℕ). get_or octets i 0) (omega arith)
column_at k octets (suc (suc (suc (suc (suc (suc (suc (suc g)))))))) h = absurd (omega arith)

-- octets of groups that are not used are written as 0
pub unused_zeros : (p : Plan) (i : ℕ) → 3 * p.count ≤ i → get_or (groups_of p) i 0 ≡ 0
unused_zeros p i h = go (dec_lt i 24)
  where
    none : (k : ℕ) → ◌≡◌ {A = ℕ} (get_or (0 ∷ 0 ∷ 0 ∷ []) k 0) 0
    none zero = refl
    none (suc zero) = refl
    none (suc (suc zero)) = refl
    none (suc (suc (suc k))) = refl

    go : Dec (i < 24) → get_or (groups_of p) i 0 ≡ 0
    go (yes l) =
        let e : 3 * (i / 3) + i % 3 ≡ i = omega arith in
        ap (λ (j : ℕ). get_or (groups_of p) j 0) (sym e)
        ∙ sym (get_or-drop (3 * (i / 3)) (groups_of p) (i % 3) 0)
        ∙ sym (get_or-take (3 * (i / 3) + 3 - 3 * (i / 3)) (drop (3 * (i / 3)) (groups_of p)) (i % 3) 0 (omega arith))
        ∙ ap (λ (xs : List ℕ). get_or xs (i % 3) 0) (group_in p (i / 3) (omega arith) ∙ group_unused p (i / 3) (omega arith))
        ∙ none (i % 3)
    go (no l) = get_or-eq_default (groups_of p) 0 {n = i} (omega (arith, length_groups_of p))

-- three elements of a list
three_of : (octets : List ℕ) (i : ℕ) → i + 3 ≤ length octets → part i (i + 3) octets ≡ get_or octets (i + 0) 0 ∷ get_or octets (i + 1) 0 ∷ get_or octets (i + 2) 0 ∷ []
three_of octets i h =
    let n : i + 3 - i ≡ 3 = omega arith in
    let z : i + 0 ≡ i = omega arith in
    let two : i + 2 ≡ suc (suc i) = omega arith in
    rw (n, z, two, add-one i, drop-cons octets i 0 (omega arith), drop-cons octets (suc i) 0 (omega arith), drop-cons octets (suc (suc i)) 0 (omega arith))

-- read and written again, where the octets of groups that are not used are 0
module _ (n : ℕ) (octets : List ℕ) (zeros : (i : ℕ) → 3 * n ≤ i → get_or octets i 0 ≡ 0) where
  used_octet : (g k : ℕ) → k < 3 → pick (ltb g n) (get_or octets (3 * g + k) 0) 0 ≡ get_or octets (3 * g + k) 0
  used_octet g k h = go (dec_lt g n)
    where
      go : Dec (g < n) → pick (ltb g n) (get_or octets (3 * g + k) 0) 0 ≡ get_or octets (3 * g + k) 0
      go (yes l) = rw (lt-ltb g n l)
      go (no l) = rw (le-ltb g n (omega arith)) (sym (zeros (3 * g + k) (omega arith)))

  group_octets : (g : ℕ) → g < 8 → group_of (of_octets n octets) g ≡ get_or octets (3 * g + 0) 0 ∷ get_or octets (3 * g + 1) 0 ∷ get_or octets (3 * g + 2) 0 ∷ []
  unfolding group_of of_octets
  group_octets g h =
      rw (column_at 0 octets g h, column_at 1 octets g h, column_at 2 octets g h, used_octet g 0 (omega arith), used_octet g 1 (omega arith), used_octet g 2 (omega arith))

  three_here : length octets ≡ 24 → (g : ℕ) → g < 8 → part (3 * g) (3 * (g + 1)) octets ≡ get_or octets (3 * g + 0) 0 ∷ get_or octets (3 * g + 1) 0 ∷ get_or octets (3 * g + 2) 0 ∷ []
  three_here l g h = let e : 3 * (g + 1) ≡ 3 * g + 3 = omega arith in rw e (three_of octets (3 * g) (omega arith))

  pub written_read : length octets ≡ 24 → groups_of (of_octets n octets) ≡ octets
  unfolding groups_of
  written_read l =
      joined_same 8 (group_of (of_octets n octets)) (λ g. part (3 * g) (3 * (g + 1)) octets) (λ g h. group_octets g h ∙ sym (three_here l g h))
      ∙ pieces_whole 8 3 octets l
