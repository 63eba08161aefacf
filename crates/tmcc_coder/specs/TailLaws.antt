-- The last two bits of an octet, as the code tests them: its remainder by 4.
use Rattle.std.specs.Prelude.{◌≡◌, List, ◌++◌, ℕ, suc, ◌+◌, ◌*◌, ◌/◌, ◌%◌, ◌<◌, eqb, length, get_or, drop}
use Rattle.std.proofs.Common.{sym, ap, ◌∙◌, append_assoc, arith, drop_at, drop-drop, drop-cons}
use Rattle.bits.specs.Digits.{digits, number}
use Rattle.bits.specs.DigitLaws.{length_digits, number_digits}
use Rattle.bits.specs.DigitParts.{digits_add}
use Rattle.bits.specs.Octets.{bits_of}
use Rattle.bits.specs.OctetLaws.{bits_of_cons, drop_bits_of}
use Rattle.tmcc.specs.Blocks.{source_octets}
use Rattle.tmcc.specs.Calls.{tail_ok}

-- the last two bits of an octet x, whatever follows them
octet_tail : (x : ℕ) (v : List ℕ) → number 2 (drop 6 (digits 8 x ++ v)) ≡ x % 4
octet_tail x v =
    let e : digits 8 x ++ v ≡ digits 6 (x / 4) ++ (digits 2 x ++ v) = ap (λ (u : List ℕ). u ++ v) (digits_add 6 2 x) ∙ append_assoc (digits 6 (x / 4)) (digits 2 x) v in
    ap (λ (u : List ℕ). number 2 (drop 6 u)) e
    ∙ ap (number 2) (drop_at (digits 6 (x / 4)) (digits 2 x ++ v) 6 (length_digits 6 (x / 4)))
    ∙ number_digits 2 x v

-- those of octet i
octets_tail : (xs : List ℕ) (i : ℕ) → i < length xs → number 2 (drop (8 * i + 6) (bits_of xs)) ≡ get_or xs i 0 % 4
octets_tail xs i h =
    ap (number 2) (sym (drop-drop 6 (8 * i) (bits_of xs)))
    ∙ ap (λ (u : List ℕ). number 2 (drop 6 u)) (drop_bits_of i xs (omega arith) ∙ ap bits_of (drop-cons xs i 0 h) ∙ bits_of_cons (get_or xs i 0) (drop (suc i) xs))
    ∙ octet_tail (get_or xs i 0) (bits_of (drop (suc i) xs))

-- 11: the last two TMCC bits stand at the end of the last octet
pub tail_last : (source : List ℕ) → length source ≡ source_octets → tail_ok source ≡ eqb (get_or source 1177 0 % 4) 0
unfolding tail_ok
tail_last source l = ap (λ (n : ℕ). eqb n 0) (octets_tail source 1177 (omega arith))
