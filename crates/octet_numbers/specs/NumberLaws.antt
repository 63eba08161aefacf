-- Laws of numbers in octets: there and back.
use Rattle.std.specs.Prelude.{◌≡◌, refl, true, List, [], ◌∷◌, ℕ, zero, suc, ◌*◌, ◌^◌, ◌<◌, eqb, length, get_or, replicate}
use Rattle.std.proofs.Common.{sym, ap, ap₂, ◌∙◌, append-nil, arith, eq-eqb, eqb-true, take_all}
use Rattle.std.proofs.Math.Decide.{dec_lt}
use Rattle.std.proofs.Math.ListN.{get_or-eq_default}
use Rattle.lists.specs.CountLaws.{every_at, every_all}
use Rattle.lists.specs.Runs.{Octets}
use Rattle.bits.specs.Digits.{digits, number}
use Rattle.bits.specs.DigitLaws.{length_digits, digits_bits, number_lt, number_of_digits, digits_number}
use Rattle.bits.specs.Octets.{bits_of, octets_of}
use Rattle.bits.specs.OctetLaws.{length_bits_of, length_octets_of, bits_of_bits, octets_bits, bits_octets}
use Rattle.octet_numbers.specs.Numbers.{big_endian, number_of, sum_of, all_zero}

pub length_big_endian : (n x : ℕ) → length (big_endian n x) ≡ n
unfolding big_endian
length_big_endian n x = length_octets_of n (digits (8 * n) x)

pub number_written : (n x : ℕ) → x < 2 ^ (8 * n) → number_of n (big_endian n x) ≡ x
unfolding big_endian number_of
number_written n x h =
    ap (number (8 * n)) (bits_octets n (digits (8 * n) x) (length_digits (8 * n) x) (digits_bits (8 * n) x) ∙ sym (append-nil (digits (8 * n) x)))
    ∙ number_of_digits (8 * n) x [] h

pub written_number : (n : ℕ) (octets : List ℕ) → length octets ≡ n → Octets octets → big_endian n (number_of n octets) ≡ octets
unfolding big_endian number_of
written_number n octets l o =
    let e : length (bits_of octets) ≡ 8 * n = length_bits_of octets ∙ ap (λ (k : ℕ). 8 * k) l in
    ap (octets_of n) (digits_number (8 * n) (bits_of octets) (omega arith) (bits_of_bits octets) ∙ take_all (8 * n) (bits_of octets) (omega arith))
    ∙ octets_bits n octets l o

pub number_below : (n : ℕ) (octets : List ℕ) → number_of n octets < 2 ^ (8 * n)
unfolding number_of
number_below n octets = number_lt (8 * n) (bits_of octets) (bits_of_bits octets)

pub sum_below : (octets : List ℕ) → sum_of octets < 65536
unfolding sum_of
sum_below octets = omega arith

pub zero_all : (octets : List ℕ) → ((k : ℕ) → get_or octets k 0 ≡ 0) → all_zero octets ≡ true
unfolding all_zero
zero_all octets h = every_all (length octets) (λ k. eqb (get_or octets k 0) 0) (λ k l. eq-eqb (get_or octets k 0) 0 (h k))

zeros_at : (n k : ℕ) → ◌≡◌ {A = ℕ} (get_or (replicate n 0) k 0) 0
zeros_at zero k = refl
zeros_at (suc n) zero = refl
zeros_at (suc n) (suc k) = zeros_at n k

pub zeros_zero : (n : ℕ) → all_zero (replicate n 0) ≡ true
zeros_zero n = zero_all (replicate n 0) (zeros_at n)

pub zero_at : (octets : List ℕ) → all_zero octets ≡ true → (k : ℕ) → get_or octets k 0 ≡ 0
unfolding all_zero
zero_at octets t k = go (dec_lt k (length octets))
  where
    go : Dec (k < length octets) → get_or octets k 0 ≡ 0
    go (yes h) = eqb-true _ 0 (every_at (length octets) (λ i. eqb (get_or octets i 0) 0) t k h)
    go (no h) = get_or-eq_default octets 0 {n = k} (omega arith)

pub zero_replicate : (octets : List ℕ) → all_zero octets ≡ true → octets ≡ replicate (length octets) 0
zero_replicate octets t = all_zero_law octets (zero_at octets t)
  where
    all_zero_law : (xs : List ℕ) → ((k : ℕ) → get_or xs k 0 ≡ 0) → xs ≡ replicate (length xs) 0
    all_zero_law [] h = refl
    all_zero_law (x ∷ xs) h = ap₂ (λ (y : ℕ) (ys : List ℕ). y ∷ ys) (h zero) (all_zero_law xs (λ k. h (suc k)))
