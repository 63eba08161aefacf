-- The turns of the loops over a message, and a remainder stored word by word.
use mathlib.Core.Path.{◌≡◌, sym, ap, ◌∙◌}
use mathlib.Core.List.{List, [], ◌++◌, append_assoc, append-nil}
use Prim.Native.Nat.{ℕ, ◌+◌, ◌-◌, ◌*◌, ◌^◌, ◌<◌, ◌≤◌}
use native.Mathlib.Omega.{arith}
use lib.ListN.{length, get_or, take, drop, length-drop}
use lib.Pow.{pow_mono, shl_lt}
use lib.Seq.{take-add, length-take-le}
use borrow.Rule.Slice.PartMut.{put_mid}
use Rattle.lists.specs.Parts.{part}
use Rattle.lists.specs.PartLaws.{length_part, three_parts}
use Rattle.lists.specs.Runs.{Bits}
use Rattle.lists.specs.RunLaws.{below_take, below_drop}
use Rattle.bits.specs.Digits.{digits, number}
use Rattle.bits.specs.DigitLaws.{length_digits, number_lt, number_take, number_of_digits}
use Rattle.bits.specs.Octets.{bits_of}
use Rattle.bits.specs.OctetLaws.{bits_of_at}
use Rattle.bits.specs.DigitParts.{digits_above}
use Rattle.bch.specs.Polynomials.{◌⊕◌, polynomial_of}
use Rattle.bch.proofs.PolynomialLaws.{padd_none}
use Rattle.bch.specs.Division.{remainder, remainder_of}
use Rattle.bch.proofs.DivisionLaws.{remainder_is}
use Rattle.bch.proofs.MessageLaws.{remainder_of_append, remainder_of_same}
use Rattle.bch.specs.Bch.{generator}
use Rattle.bch.proofs.GeneratorLaws.{generator_top}
use Rattle.bch.specs.Words.{in_words}

taken_number : (n : ℕ) (u : List ℕ) → n ≤ length u → number (length (take n u)) (take n u) ≡ number n u
taken_number n u h = rw (length-take-le n u h) (number_take n n u (omega arith))

taken_polynomial : (n : ℕ) (u : List ℕ) → n ≤ length u → polynomial_of (take n u) ≡ number n u
unfolding polynomial_of
taken_polynomial n u h = taken_number n u h

-- the number that `gather` makes of a part of n bits
pub gathered : (u : List ℕ) (n k x : ℕ) → k ≡ n → n ≤ length u → x ≡ number (length (take k u)) (take k u) → x ≡ number n u
gathered u n k x e h d = d ∙ rw e (taken_number n u h)

-- octet i of a message, as the number of its bits
pub octet_number : (xs : List ℕ) (i : ℕ) → i < length xs → get_or xs i 0 < 256 → get_or xs i 0 ≡ number 8 (drop (8 * i) (bits_of xs))
octet_number xs i h l =
    let x = get_or xs i 0 in
    sym (number_of_digits 8 x [] l)
    ∙ ap (number 8) (append-nil (digits 8 x) ∙ sym (bits_of_at xs i h))
    ∙ number_take 8 8 (drop (8 * i) (bits_of xs)) (omega arith)

-- the eight bits at a place
pub eight_more : (u : List ℕ) (at r x q : ℕ) → Bits u → at + 8 ≤ length u → x ≡ number 8 (drop at u)
    → r ≡ remainder_of 192 generator (take at u) → q ≡ remainder 192 generator 8 (r * 2 ^ 8 ⊕ x * 2 ^ 192)
    → q ≡ remainder_of 192 generator (take (at + 8) u)
eight_more u at r x q z h e i j =
    let v = take 8 (drop at u) in
    let k : 8 ≤ length (drop at u) = rw length-drop (omega arith) in
    let l : length v ≡ 8 = length-take-le 8 (drop at u) k in
    let p : polynomial_of v ≡ x = taken_polynomial 8 (drop at u) k ∙ sym e in
    let a = remainder_of_append 192 generator generator_top (take at u) v (below_take 1 at u z) (below_take 1 8 (drop at u) (below_drop 1 at u z)) in
    j ∙ sym (ap (remainder_of 192 generator) (take-add at 8 u) ∙ a ∙ rw (l, p, ← i))

pub few_lt : (u : List ℕ) (n : ℕ) → Bits u → n ≤ 8 → number n u < 2 ^ 8
few_lt u n z h = omega (arith, number_lt n u z, pow_mono {i = n} {j = 8} h)

-- the bits before the first eight, less than eight, as an octet of their own
pub first_few : (u : List ℕ) (at x q : ℕ) → Bits u → at ≤ 8 → at ≤ length u → x ≡ number at u
    → q ≡ remainder 192 generator 8 (0 ⊕ x * 2 ^ 192) → q ≡ remainder_of 192 generator (take at u)
first_few u at x q z h l e j =
    let b : x < 2 ^ 8 = rw e (few_lt u at z h) in
    let i = remainder_is 192 generator generator_top 8 (x * 2 ^ 192) (shl_lt 8 192 b) in
    j ∙ rw padd_none (sym (remainder_of_same 192 generator generator_top (take at u) (below_take 1 at u z) (taken_polynomial at u l ∙ sym e) i))

-- the digits that `spread` leaves in a part
pub word_part : (a e : ℕ) (xs ys : List ℕ) (x : ℕ) → e ≤ length xs → ys ≡ digits (length (part a e xs)) x → ys ≡ digits (e - a) x
word_part a e xs ys x h d = d ∙ ap (λ (n : ℕ). digits n x) (length_part a e xs h)

-- the words of a remainder stored
pub words_stored : (xs u v w : List ℕ) (a b c : ℕ) → length xs ≡ 192 → b < 2 ^ 64 → c < 2 ^ 64
    → u ≡ digits 64 a → v ≡ digits 64 b → w ≡ digits 64 c
    → put_mid 128 64 (put_mid 64 64 (put_mid 0 64 xs u) v) w ≡ digits 192 (in_words a b c)
words_stored xs u v w a b c l hb hc eu ev ew =
    three_parts xs u v w 64 128 192 l (omega arith) (omega arith)
    (ap length eu ∙ length_digits 64 a) (ap length ev ∙ length_digits 64 b) (ap length ew ∙ length_digits 64 c)
    ∙ sym
    (digits_above 128 64 (a * 2 ^ 64 + b) c hc
    ∙ ap (λ (d : List ℕ). d ++ digits 64 c) (digits_above 64 64 a b hb)
    ∙ append_assoc (digits 64 a) (digits 64 b) (digits 64 c)
    ∙ cc)
