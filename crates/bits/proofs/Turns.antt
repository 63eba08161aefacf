-- One turn of the loops that do not fill an area from the front.
use mathlib.Core.Path.{◌≡◌, refl, sym, ap, ap₂, ◌∙◌}
use mathlib.Core.List.{List, [], ◌∷◌, ◌++◌, append-nil}
use Prim.Native.Nat.{ℕ, suc, ◌+◌, ◌*◌, ◌-◌, ◌/◌, ◌%◌, ◌<◌, ◌≤◌}
use native.Mathlib.Numerals.{add-one}
use native.Mathlib.Omega.{arith}
use lib.ListN.{length, length-append, length-drop, get_or, take, drop, set}
use lib.Seq.{drop-drop, take_at, drop-length, set_split, drop_at, length-take-le, append_snoc}
use lib.Dec.{eqb}
use lib.Pointwise.{pointwise}
use Rattle.std.specs.Int.Bits.{bit_and, bit_xor, xor_add_and}
use Rattle.std.proofs.lemmas.Nat.{and_mask}
use Rattle.lists.specs.Parts.{part}
use Rattle.lists.specs.PartLaws.{length_part}
use Rattle.bits.specs.Digits.{digits, number}
use Rattle.bits.specs.DigitLaws.{digits_more, number_take}
use Rattle.bits.specs.Octets.{bits_of, octets_of}
use Rattle.bits.specs.OctetLaws.{bits_of_at, octets_of_at}
use Rattle.bits.specs.Same.{same}

-- all digits are still to come
pub spread_none : (x : ℕ) (bits : List ℕ) → digits (length bits) x ++ drop (length bits) bits ≡ digits (length bits) x
spread_none x bits = rw (drop-length bits) (append-nil (digits (length bits) x))

-- the digit at k stored
pub spread_turn : (k rest : ℕ) (bits : List ℕ) → k < length bits → digits k (rest / 2) ++ drop k (set bits k (rest % 2)) ≡ digits (k + 1) rest ++ drop (k + 1) bits
spread_turn k rest bits h =
    rw (digits_more, add-one, set_split bits k _ h, drop_at (take k bits) (rest % 2 ∷ drop (suc k) bits) k (length-take-le k bits (omega arith)))
    (sym (append_snoc (digits k (rest / 2)) (rest % 2) (drop (suc k) bits)))

-- no digit is left
pub spread_end : (k rest : ℕ) (bits : List ℕ) → k ≡ 0 → bits ≡ digits k rest ++ drop k bits
unfolding digits
spread_end k rest bits z = rw z

pub eight_part : (i : ℕ) (u : List ℕ) → 8 * i + 8 ≤ length u → length (part (8 * i) (8 * i + 8) u) ≡ 8
eight_part i u h = length_part (8 * i) (8 * i + 8) u h ∙ omega arith

-- the eight bits of octet i, as spread leaves them
pub expand_turn : (octets ys : List ℕ) (i x n : ℕ) → i < length octets → x ≡ get_or octets i 0 → n ≡ 8 → ys ≡ digits n x
    → ys ≡ part (8 * i) (8 * i + 8) (bits_of octets)
expand_turn octets ys i x n h v e d =
    let w : 8 * i + 8 - 8 * i ≡ 8 = omega arith in
    rw (w, d, e, v) (sym (bits_of_at octets i h))

-- the eight that are given out next where what is left of u begins at 8 * k
pub record Next (u eight left : List ℕ) (k : ℕ) : Type 0 where
  pub within : 8 * k + 8 ≤ length u
  pub is : eight ≡ part (8 * k) (8 * k + 8) u
  pub long : length eight ≡ 8
  pub behind : left ≡ drop (8 * (k + 1)) u

pub next_eight : (u rest eight left : List ℕ) (k n : ℕ) → rest ≡ drop (8 * k) u → rest ≡ eight ++ left → length eight ≡ n → n ≡ 8 → Next u eight left k
next_eight u rest eight left k n d e l z =
    let w : 8 * k + 8 - 8 * k ≡ 8 = omega arith in
    let m : 8 * (k + 1) ≡ 8 * k + 8 = omega arith in
    let h : drop (8 * k) u ≡ eight ++ left = sym d ∙ e in
    record {
      within = omega (arith, length-drop (8 * k) u, length-append eight left, ap length h);
      is = rw (w, h) (sym (take_at eight left 8 (l ∙ z)));
      long = l ∙ z;
      behind = rw (m, ← drop-drop 8 (8 * k) u, h) (sym (drop_at eight left 8 (l ∙ z)));
    }

-- octet i of the bits, from the eight that gather was lent
pub collect_turn : (u eight left : List ℕ) (n i x : ℕ) → Next u eight left i → i < n → x ≡ number (length eight) eight → x ≡ get_or (octets_of n u) i 0
collect_turn u eight left n i x t h d =
    let w : 8 * i + 8 - 8 * i ≡ 8 = omega arith in
    d ∙ ap₂ number t.long t.is ∙ rw w (number_take 8 8 (drop (8 * i) u) (omega arith) ∙ sym (octets_of_at n u i h))

-- the sum of two numbers modulo 2, reckoned bit by bit
pub lowest_of_both : (a b : ℕ) → bit_and (bit_xor a b) 1 ≡ (a + b) % 2
lowest_of_both a b = omega (arith, xor_add_and a b, and_mask (bit_xor a b) 1)

-- what `==` of two runs computes
pub pointwise_same : (a b : List ℕ) → pointwise eqb a b ≡ same a b
unfolding same
pointwise_same [] [] = refl
pointwise_same [] (y ∷ b) = refl
pointwise_same (x ∷ a) [] = refl
pointwise_same (x ∷ a) (y ∷ b) = rw (pointwise_same a b) refl
