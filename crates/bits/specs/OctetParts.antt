-- Laws of parts of octets that bits make, and of octets added at each bit.
use Rattle.std.specs.Prelude.{◌≡◌, refl, List, ◌∷◌, ◌++◌, ℕ, zero, suc, ◌+◌, ◌-◌, ◌*◌, ◌≤◌, length, take, drop}
use Rattle.std.proofs.Common.{sym, ap, ap₂, ◌∙◌, arith, length-drop, take-append-drop, drop-drop, length-take-le}
use Rattle.std.proofs.lemmas.List.{drop-append-le}
use Rattle.lists.specs.Parts.{part}
use Rattle.bits.specs.Digits.{number}
use Rattle.bits.specs.DigitLaws.{number_append}
use Rattle.bits.specs.Octets.{bits_of, octets_of}
use Rattle.bits.specs.OctetLaws.{length_bits_of, take_bits_of, drop_bits_of, length_octets_of}
use Rattle.bits.specs.Sums.{added, added_three, added_octets}
use Rattle.bits.specs.SumLaws.{length_three, added_take, added_drop}

octets_of_drop : (a n : ℕ) (u : List ℕ) → drop a (octets_of (a + n) u) ≡ octets_of n (drop (8 * a) u)
unfolding octets_of
octets_of_drop zero n u = let e : zero + n ≡ n = omega arith in rw e
octets_of_drop (suc a) n u =
    let e : suc a + n ≡ suc (a + n) = omega arith in
    let d : 8 + 8 * a ≡ 8 * suc a = omega arith in
    rw e (octets_of_drop a n (drop 8 u) ∙ ap (octets_of n) (drop-drop (8 * a) 8 u ∙ ap (λ (k : ℕ). drop k u) d))

octets_of_take : (m n : ℕ) (u : List ℕ) → take m (octets_of (m + n) u) ≡ octets_of m u
unfolding octets_of
octets_of_take zero n u = refl
octets_of_take (suc m) n u =
    let e : suc m + n ≡ suc (m + n) = omega arith in
    rw e (ap (λ (l : List ℕ). number 8 u ∷ l) (octets_of_take m n (drop 8 u)))

-- what follows the bits of m octets counts for nothing
octets_of_front : (m : ℕ) (u v : List ℕ) → length u ≡ 8 * m → octets_of m (u ++ v) ≡ octets_of m u
unfolding octets_of
octets_of_front zero u v l = refl
octets_of_front (suc m) u v l =
    let d : length (drop 8 u) ≡ 8 * m = length-drop 8 u ∙ omega arith in
    ap₂ (λ (x : ℕ) (xs : List ℕ). x ∷ xs) (number_append 8 u v (omega arith)) (ap (octets_of m) (drop-append-le 8 u v (omega arith)) ∙ octets_of_front m (drop 8 u) v d)

-- a part of octets that bits make
part_octets_of : (a m n : ℕ) (u : List ℕ) → take m (drop a (octets_of (a + (m + n)) u)) ≡ octets_of m (drop (8 * a) u)
part_octets_of a m n u = ap (take m) (octets_of_drop a (m + n) u) ∙ octets_of_take m n (drop (8 * a) u)

-- the bits of a part
part_bits_of : (a m : ℕ) (xs : List ℕ) → a + m ≤ length xs → bits_of (take m (drop a xs)) ≡ take (8 * m) (drop (8 * a) (bits_of xs))
part_bits_of a m xs h =
    sym (take_bits_of m (drop a xs) (omega (arith, length-drop a xs))) ∙ ap (take (8 * m)) (sym (drop_bits_of a xs (omega arith)))

pub length_added_octets : (n : ℕ) (x y z : List ℕ) → length (added_octets n x y z) ≡ n
unfolding added_octets
length_added_octets n x y z = length_octets_of n (added_three (bits_of x) (bits_of y) (bits_of z))

three_drop : (n : ℕ) (u v x : List ℕ) → drop n (added_three u v x) ≡ added_three (drop n u) (drop n v) (drop n x)
three_drop n u v x = added_drop n (added u v) x ∙ ap (λ (s : List ℕ). added s (drop n x)) (added_drop n u v)

three_take : (n : ℕ) (u v x : List ℕ) → take n (added_three u v x) ≡ added_three (take n u) (take n v) (take n x)
three_take n u v x = added_take n (added u v) x ∙ ap (λ (s : List ℕ). added s (take n x)) (added_take n u v)

-- m octets from a on
added_from : (a m n : ℕ) (x y z : List ℕ) → length x ≡ a + (m + n) → length y ≡ a + (m + n) → length z ≡ a + (m + n)
    → take m (drop a (added_octets (a + (m + n)) x y z)) ≡ added_octets m (take m (drop a x)) (take m (drop a y)) (take m (drop a z))
unfolding added_octets
added_from a m n x y z lx ly lz =
    let cut : List ℕ → List ℕ = λ (w : List ℕ). drop (8 * a) (bits_of w) in
    let v = added_three (cut x) (cut y) (cut z) in
    let long : length v ≡ 8 * (m + n) = length_three (cut x) (cut y) (cut z) ∙ length-drop (8 * a) (bits_of x) ∙ omega (arith, length_bits_of x) in
    let front : octets_of m v ≡ octets_of m (take (8 * m) v)
    = ap (octets_of m) (sym (take-append-drop (8 * m) v)) ∙ octets_of_front m (take (8 * m) v) (drop (8 * m) v) (length-take-le (8 * m) v (omega arith)) in
    part_octets_of a m n (added_three (bits_of x) (bits_of y) (bits_of z))
    ∙ ap (octets_of m) (three_drop (8 * a) (bits_of x) (bits_of y) (bits_of z))
    ∙ front
    ∙ ap (octets_of m) (three_take (8 * m) (cut x) (cut y) (cut z))
    ∙ sym (ap (octets_of m)
    (ap₂ (λ (s t : List ℕ). added_three s t (bits_of (take m (drop a z)))) (part_bits_of a m x (omega arith)) (part_bits_of a m y (omega arith))
    ∙ ap (added_three (take (8 * m) (cut x)) (take (8 * m) (cut y))) (part_bits_of a m z (omega arith))))

-- octets are added part by part
pub added_part : (a e n : ℕ) (x y z : List ℕ) → a ≤ e → e ≤ n → length x ≡ n → length y ≡ n → length z ≡ n
    → part a e (added_octets n x y z) ≡ added_octets (e - a) (part a e x) (part a e y) (part a e z)
added_part a e n x y z h k lx ly lz =
    let d : a + (e - a + (n - e)) ≡ n = omega arith in
    ap (λ (i : ℕ). part a e (added_octets i x y z)) (sym d) ∙ added_from a (e - a) (n - e) x y z (lx ∙ sym d) (ly ∙ sym d) (lz ∙ sym d)
