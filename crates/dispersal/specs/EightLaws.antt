-- Laws of eight steps at a time. Whether register and mask share an odd number of ones is linear in both, so the feedback
-- of a later step is that of the register before it, with another mask. The bits given out are the register's own, from
-- the top.
use Rattle.std.specs.Prelude.{◌≡◌, refl, List, [], ◌∷◌, ℕ, zero, suc, ◌+◌, ◌-◌, ◌*◌, ◌/◌, ◌%◌, ◌^◌, ◌≤◌, ◌<◌, length, get_or}
use Rattle.std.proofs.Common.{sym, ap, ap₂, ◌∙◌, mul-one, mul_assoc, mul_right_comm, pow-suc, div-add-mod', mod-lt, mod-eq_of_lt, add-one, arith, pow_pos, shr-shr}
use Rattle.std.proofs.Math.Nat.{mul-add-mod_self_right}
use Rattle.std.proofs.Math.Arith.{bin_ind}
use Rattle.std.specs.Int.Bits.{bit_and, bit_xor, and_zero_r, xor_add_and}
use Rattle.std.proofs.lemmas.Nat.{and_mod, and_shr, and_mask, and_comm, and_le_l, xor_shr, xor_lt}
use Rattle.std.specs.Int.Count.{ones, ones_step, ones-ones}
use Rattle.std.proofs.Math.Pow.{field}
use Rattle.lists.specs.CountLaws.{length_table, get_or_table}
use Rattle.lists.specs.Parts.{part}
use Rattle.lists.specs.PartLaws.{length_part}
use Rattle.bits.specs.Digits.{digits}
use Rattle.bits.specs.DigitParts.{digits_low, digits_add}
use Rattle.bits.specs.Sums.{added}
use Rattle.dispersal.specs.Register.{step, after, top}
use Rattle.dispersal.specs.RegisterLaws.{after_none, after_first, step_lt, after_lt, top_lt}
use Rattle.dispersal.specs.Dispersal.{dispersed}
use Rattle.dispersal.specs.DispersalLaws.{dispersed_part}
use Rattle.dispersal.specs.Eights.{drawn, mask_at, masks_of, feedback}

xor_last : (x y : ℕ) → bit_xor x y % 2 ≡ (x + y) % 2
xor_last x y = omega (arith, xor_add_and x y)

and_bit : (x b : ℕ) → b < 2 → bit_and (x % 2) b ≡ x % 2 * b
and_bit x zero h = and_zero_r (x % 2) ∙ omega arith
and_bit x (suc zero) h = and_mask (x % 2) 1 ∙ omega arith
and_bit x (suc (suc b)) h = absurd (omega arith)

-- the ones that a register and the mask share: those at the lowest place, and the others
shared_step : (x m : ℕ) → ones (bit_and x m) ≡ x % 2 * (m % 2) + ones (bit_and (x / 2) (m / 2))
shared_step x m =
    ones_step (bit_and x m)
    ∙ ap₂ (λ (b s : ℕ). b + ones s) (and_mod x m 1 ∙ and_bit x (m % 2) (omega arith)) (and_shr x m 1)

two_odd : (a c : ℕ) → (a % 2 + c % 2) % 2 ≡ (a + c) % 2
two_odd a c = omega arith

-- the sum of two counts modulo 2, the lowest place apart, where the mask has b
odd_sum : (x y z b p q s : ℕ) → b < 2 → z % 2 ≡ (x + y) % 2 → s % 2 ≡ (p + q) % 2 → (z * b + s) % 2 ≡ (x * b + p + (y * b + q)) % 2
odd_sum x y z zero p q s h d e = omega arith
odd_sum x y z (suc zero) p q s h d e =
    rw (mul-one z, ← two_odd z s, d, e) (two_odd (x + y) (p + q) ∙ ap (λ (n : ℕ). n % 2) (omega arith))
odd_sum x y z (suc (suc b)) p q s h d e = absurd (omega arith)

-- whether a register and the mask share an odd number of ones is linear in the register
odd_xor : (x y m : ℕ) → ones (bit_and (bit_xor x y) m) % 2 ≡ (ones (bit_and x m) + ones (bit_and y m)) % 2
odd_xor =
    bin_ind (λ (x : ℕ). (y m : ℕ) → ones (bit_and (bit_xor x y) m) % 2 ≡ (ones (bit_and x m) + ones (bit_and y m)) % 2)
    (λ y m. omega (arith, ones-ones 0))
    (λ x half y m.
    let h : ones (bit_and (bit_xor x y / 2) (m / 2)) % 2 ≡ (ones (bit_and (x / 2) (m / 2)) + ones (bit_and (y / 2) (m / 2))) % 2
    = ap (λ (z : ℕ). ones (bit_and z (m / 2)) % 2) (xor_shr x y 1) ∙ half (y / 2) (m / 2) in
    ap (λ (n : ℕ). n % 2) (shared_step (bit_xor x y) m)
    ∙ odd_sum (x % 2) (y % 2) (bit_xor x y % 2) (m % 2) _ _ _ (omega arith) (omega (arith, xor_last x y)) h
    ∙ ap₂ (λ (n k : ℕ). (n + k) % 2) (sym (shared_step x m)) (sym (shared_step y m)))

-- and in the mask
odd_mask : (r x y : ℕ) → ones (bit_and r (bit_xor x y)) % 2 ≡ (ones (bit_and r x) + ones (bit_and r y)) % 2
odd_mask r x y = rw (and_comm r (bit_xor x y), and_comm r x, and_comm r y) (odd_xor x y r)

-- a mask counts only as far as the register goes
and_cut : (w x m : ℕ) → x < 2 ^ w → bit_and x (m % 2 ^ w) ≡ bit_and x m
and_cut w x m h =
    let l : bit_and x m < 2 ^ w = omega (arith, and_le_l x m) in
    ap (λ (y : ℕ). bit_and y (m % 2 ^ w)) (sym (mod-eq_of_lt h)) ∙ sym (and_mod x m w) ∙ mod-eq_of_lt l

-- the feedback alone, where the mask drawn back has a lowest bit
fed_back : (r mask b p : ℕ) → b < 2 → (ones (bit_and r mask) % 2 * b + p) % 2 ≡ (p + ones (bit_and r (b * mask))) % 2
fed_back r mask zero p h = let e : zero * mask ≡ 0 = omega arith in rw (e, and_zero_r r) (omega (arith, ones-ones 0))
fed_back r mask (suc zero) p h = let e : 1 * mask ≡ mask = omega arith in rw e (omega arith)
fed_back r mask (suc (suc b)) p h = absurd (omega arith)

-- the ones shared with a mask after a step are those shared before it with the mask drawn back
odd_step : (w mask r m : ℕ) → m < 2 ^ w → ones (bit_and (step w mask r) m) % 2 ≡ ones (bit_and r (drawn mask m)) % 2
unfolding step drawn
odd_step w mask r m h =
    let f = ones (bit_and r mask) % 2 in
    let a : bit_and ((r * 2 + f) % 2 ^ w) m ≡ bit_and (r * 2 + f) m
    = and_comm _ m ∙ and_cut w m (r * 2 + f) h ∙ and_comm m _ in
    let b : (r * 2 + f) % 2 ≡ f = omega arith in
    let c : (r * 2 + f) / 2 ≡ r = omega arith in
    ap (λ (x : ℕ). ones x % 2) a
    ∙ ap (λ (x : ℕ). x % 2) (shared_step (r * 2 + f) m)
    ∙ ap₂ (λ (x y : ℕ). (x * (m % 2) + ones (bit_and y (m / 2))) % 2) b c
    ∙ fed_back r mask (m % 2) (ones (bit_and r (m / 2))) (omega arith)
    ∙ sym (odd_mask r (m / 2) (m % 2 * mask))

bit_le : (b x : ℕ) → b < 2 → b * x ≤ x
bit_le zero x h = omega arith
bit_le (suc zero) x h = omega arith
bit_le (suc (suc b)) x h = absurd (omega arith)

-- what the product of the lowest bit and the mask keeps below
pub drawn_part : (m mask : ℕ) → m % 2 * mask ≤ mask
drawn_part m mask = bit_le (m % 2) mask (omega arith)

pub mask_none : (mask : ℕ) → mask_at mask 0 ≡ mask
unfolding mask_at
mask_none mask = refl

pub mask_more : (mask n : ℕ) → mask_at mask (n + 1) ≡ bit_xor (mask_at mask n / 2) (mask_at mask n % 2 * mask)
unfolding mask_at drawn
mask_more mask n = rw add-one

pub mask_lt : (w mask n : ℕ) → mask < 2 ^ w → mask_at mask n < 2 ^ w
unfolding mask_at drawn
mask_lt w mask zero h = h
mask_lt w mask (suc n) h =
    let m = mask_at mask n in
    xor_lt w (m / 2) (m % 2 * mask) (omega (arith, mask_lt w mask n h)) (omega (arith, drawn_part m mask))

-- the feedback n steps on
odd_after : (w mask r n : ℕ) → mask < 2 ^ w → ones (bit_and (after w mask r n) mask) % 2 ≡ ones (bit_and r (mask_at mask n)) % 2
unfolding mask_at
odd_after w mask r zero h = ap (λ (x : ℕ). ones (bit_and x mask) % 2) (after_none w mask r)
odd_after w mask r (suc n) h =
    let e : after w mask r (suc n) ≡ after w mask (step w mask r) n = rw add-one at (after_first w mask r n) in
    ap (λ (x : ℕ). ones (bit_and x mask) % 2) e
    ∙ odd_after w mask (step w mask r) n h
    ∙ odd_step w mask r (mask_at mask n) (mask_lt w mask n h)

-- the mask cut to the width steps as the mask does
after_cut : (w mask r n : ℕ) → r < 2 ^ w → after w (mask % 2 ^ w) r n ≡ after w mask r n
unfolding after step
after_cut w mask r zero h = refl
after_cut w mask r (suc n) h =
    let s = after w mask r n in
    ap (step w (mask % 2 ^ w)) (after_cut w mask r n h)
    ∙ ap (λ (x : ℕ). (s * 2 + ones x % 2) % 2 ^ w) (and_cut w s mask (after_lt w mask r n h))

pub length_masks : (w mask : ℕ) → length (masks_of w mask) ≡ 8
unfolding masks_of
length_masks w mask = length_table 8 (mask_at (mask % 2 ^ w))

pub masks_at : (w mask n : ℕ) → n < 8 → get_or (masks_of w mask) n 0 ≡ mask_at (mask % 2 ^ w) n
unfolding masks_of
masks_at w mask n h = get_or_table 8 (mask_at (mask % 2 ^ w)) n h

pub feedback_none : (t : List ℕ) (r : ℕ) → feedback t r 0 ≡ 0
unfolding feedback
feedback_none t r = refl

pub feedback_more : (t : List ℕ) (r n : ℕ) → feedback t r (n + 1) ≡ feedback t r n * 2 + ones (bit_and r (get_or t n 0)) % 2
unfolding feedback
feedback_more t r n = rw add-one

pub feedback_lt : (t : List ℕ) (r n : ℕ) → feedback t r n < 2 ^ n
unfolding feedback
feedback_lt t r zero = omega arith
feedback_lt t r (suc n) = omega (arith, feedback_lt t r n, pow-suc 2 n)

shift_mod : (x f m : ℕ) → (x % m * 2 + f) % m ≡ (x * 2 + f) % m
shift_mod x f m =
    let e : x * 2 + f ≡ (x / m * 2) * m + (x % m * 2 + f)
    = ap (λ (z : ℕ). z * 2 + f) (sym (div-add-mod' x m)) ∙ omega (arith, mul_right_comm (x / m) 2 m) in
    sym (ap (λ (z : ℕ). z % m) e ∙ mul-add-mod_self_right (x / m * 2) m (x % m * 2 + f))

-- the register after n steps: shifted up n places, with their feedback behind it, and cut to the width
pub after_fed : (w mask r n : ℕ) → n ≤ 8 → r < 2 ^ w → after w mask r n ≡ (r * 2 ^ n + feedback (masks_of w mask) r n) % 2 ^ w
unfolding after step feedback
after_fed w mask r zero l h = let e : r * 2 ^ zero + 0 ≡ r = omega arith in rw e (sym (mod-eq_of_lt h))
after_fed w mask r (suc n) l h =
    let cut = mask % 2 ^ w in
    let s = after w mask r n in
    let fed = feedback (masks_of w mask) r n in
    let f = ones (bit_and r (get_or (masks_of w mask) n 0)) % 2 in
    let g =
    ap (λ (x : ℕ). ones x % 2) (sym (and_cut w s mask (after_lt w mask r n h)))
    ∙ ap (λ (x : ℕ). ones (bit_and x cut) % 2) (sym (after_cut w mask r n h))
    ∙ odd_after w cut r n (mod-lt mask (pow_pos w))
    ∙ ap (λ (m : ℕ). ones (bit_and r m) % 2) (sym (masks_at w mask n l)) in
    let e : (r * 2 ^ n + fed) * 2 + f ≡ r * 2 ^ suc n + (fed * 2 + f) = omega (arith, mul_assoc r (2 ^ n) 2, ap (λ (p : ℕ). r * p) (pow-suc 2 n)) in
    ap₂ (λ (y z : ℕ). (y * 2 + z) % 2 ^ w) (after_fed w mask r n (omega arith) h) g
    ∙ shift_mod (r * 2 ^ n + fed) f (2 ^ w)
    ∙ ap (λ (x : ℕ). x % 2 ^ w) e

-- bit k of n, the first being the highest
pub digit_at_law : (n x k : ℕ) → k < n → get_or (digits n x) k 0 ≡ x / 2 ^ (n - 1 - k) % 2
unfolding digits
digit_at_law zero x k h = absurd (omega arith)
digit_at_law (suc n) x zero h =
    let e : 1 + n ≡ suc n = omega arith in
    let f : digits (suc n) x ≡ x / 2 ^ n % 2 ∷ digits n x = rw e at (digits_add 1 n x) in
    let d : suc n - 1 - zero ≡ n = omega arith in
    rw (f, d)
digit_at_law (suc n) x (suc k) h =
    let e : 1 + n ≡ suc n = omega arith in
    let f : digits (suc n) x ≡ x / 2 ^ n % 2 ∷ digits n x = rw e at (digits_add 1 n x) in
    let d : suc n - 1 - suc k ≡ n - 1 - k = omega arith in
    rw (f, d) (digit_at_law n x k (omega arith))

-- the top n bits after a step stood one place lower before it
step_down : (w mask r n m : ℕ) → w ≡ n + suc m → digits n (step w mask r / 2 ^ suc m) ≡ digits n (r / 2 ^ m)
unfolding step
step_down w mask r n m e =
    let f = ones (bit_and r mask) % 2 in
    let d : 1 + m ≡ suc m = omega arith in
    let h : (r * 2 + f) / 2 ≡ r = omega arith in
    rw (e, field (r * 2 + f) n (suc m)) (digits_low n ((r * 2 + f) / 2 ^ suc m) ∙ ap (digits n) (rw d at (sym (shr-shr (r * 2 + f) 1 m)) ∙ ap (λ (z : ℕ). z / 2 ^ m) h))

-- a run no longer than the register meets the register's own bits, from the top
pub dispersed_few : (w mask r m : ℕ) (u : List ℕ) → w ≡ length u + m → r < 2 ^ w → dispersed w mask r u ≡ added u (digits (length u) (r / 2 ^ m))
unfolding dispersed added top digits
dispersed_few w mask r m [] e h = refl
dispersed_few w mask r m (b ∷ u) e h =
    let n = length u in
    let k : 1 + n ≡ suc n = omega arith in
    let d : digits (suc n) (r / 2 ^ m) ≡ r / 2 ^ m / 2 ^ n % 2 ∷ digits n (r / 2 ^ m) = rw k at (digits_add 1 n (r / 2 ^ m)) in
    let i : m + n ≡ w - 1 = omega arith in
    let t : r / 2 ^ m / 2 ^ n % 2 ≡ r / 2 ^ (w - 1) = ap (λ (z : ℕ). z % 2) (rw i at (shr-shr r m n)) ∙ mod-eq_of_lt (top_lt w r (omega arith) h) in
    rw (d, t) (ap (λ (v : List ℕ). (b + top w r) % 2 ∷ v) (dispersed_few w mask (step w mask r) (suc m) u (omega arith) (step_lt w mask r) ∙ ap (added u) (step_down w mask r n m (omega arith))))

-- so the eight bits from a on meet the top eight of the register after a steps
pub dispersed_eight : (w mask r a : ℕ) (u : List ℕ) → 8 ≤ w → r < 2 ^ w → a + 8 ≤ length u
    → part a (a + 8) (dispersed w mask r u) ≡ added (part a (a + 8) u) (digits 8 (after w mask r a / 2 ^ (w - 8)))
dispersed_eight w mask r a u hw hr h =
    let l : length (part a (a + 8) u) ≡ 8 = length_part a (a + 8) u h ∙ omega arith in
    dispersed_part w mask r a (a + 8) u
    ∙ dispersed_few w mask (after w mask r a) (w - 8) (part a (a + 8) u) (omega arith) (after_lt w mask r a hr)
    ∙ ap (λ (n : ℕ). added (part a (a + 8) u) (digits n (after w mask r a / 2 ^ (w - 8)))) l
