-- Demand 3 for words of one shape with one tail, under one parity table, one mask and one register (document 01, "What
-- demand 3 compares"): when two words are equal, when their BCH bits and their parities are, and that three words added
-- are the word of the added messages.
use Rattle.std.specs.Prelude.{◌≡◌, ◌↔◌}
use Rattle.std.proofs.Math.Path.{refl, sym, ap, ap₂}
use Rattle.std.proofs.Common.{◌∙◌, arith}
use mathlib.Core.List.{List, ◌++◌, append_assoc}
use Prim.Native.Nat.{ℕ}
use Rattle.std.proofs.Math.ListN.{length}
use Rattle.lists.specs.Runs.{Bits}
use Rattle.lists.specs.ThreeRuns.{second_of_three}
use Rattle.bits.specs.Octets.{bits_of, octets_of}
use Rattle.bits.specs.Sums.{added, added_three, added_octets}
use Rattle.bits.specs.SumLaws.{three_append, three_same}
use Rattle.dispersal.specs.Register.{after}
use Rattle.dispersal.specs.Dispersal.{dispersed}
use Rattle.dispersal.specs.DispersalLaws.{length_dispersed, dispersed_append, dispersed_one, dispersed_three}
use Rattle.bch.specs.Polynomials.{Divides, polynomial_of}
use Rattle.bch.specs.Bch.{generator, bch_bits}
use Rattle.bch.proofs.BchLaws.{length_bch_bits, bch_bits_bits, bch_bits_equal, bch_bits_three}
use Rattle.ldpc.specs.Parity.{parity_of}
use Rattle.ldpc.proofs.ParityLaws.{parity_of_equal, parity_of_three}
use Rattle.codeword.specs.declared.Shape.{Shape}
use Rattle.codeword.specs.Words.{plain, sent, zeros, parity_input, with_parity, word_of}
use Rattle.codeword.specs.Needs.{Fits}
use Rattle.codeword.proofs.WordLaws.{Message, length_plain, zeros_bits, length_input, length_run, word_bits, word_run, word_parity}
use Rattle.codeword.specs.Reading.{parity_in, taken_off, message_in, bch_in, EvenTimes}
use Rattle.codeword.proofs.RoundTrips.{coded_read, word_bch}

-- the BCH bits as sent: dispersed, with the register as it stands behind the message
bch_sent_law : (F : Shape) (t : List ℕ) (mask r : ℕ) (m e : List ℕ) → Fits F → Message F m e
    → bch_in F (bits_of (word_of F t mask r m e)) ≡ dispersed F.width mask (after F.width mask r F.message) (bch_bits m)
unfolding sent plain with_parity
bch_sent_law F t mask r m e f o =
    let w = F.width in
    let b = bch_bits m in
    let ra = after w mask r (length m) in
    let a = dispersed w mask r m in
    let v = dispersed w mask ra b in
    let x = dispersed w mask (after w mask ra (length b)) e in
    let q = parity_of F.rows t (parity_input F (sent F mask r m e)) in
    let runs : sent F mask r m e ≡ a ++ (v ++ x) = dispersed_append w mask r m (b ++ e) ∙ ap (λ (y : List ℕ). a ++ y) (dispersed_append w mask ra b e) in
    let whole : bits_of (word_of F t mask r m e) ≡ a ++ (v ++ (x ++ q)) =
    word_bits F t mask r m e f o
    ∙ ap (λ (y : List ℕ). y ++ q) runs
    ∙ append_assoc a (v ++ x) q
    ∙ ap (λ (y : List ℕ). a ++ y) (append_assoc v x q) in
    ap (bch_in F) whole
    ∙ second_of_three a v (x ++ q) F.message 192 (length_dispersed w mask r m ∙ o.long) (length_dispersed w mask ra b ∙ length_bch_bits m)
    ∙ ap (λ (n : ℕ). dispersed w mask (after w mask r n) b) o.long

-- two words
module _ (F : Shape) (t : List ℕ) (mask r : ℕ) (m n e : List ℕ) (f : Fits F) (a : Message F m e) (b : Message F n e) where
  -- they are equal exactly when their messages are
  pub words_equal : (word_of F t mask r m e ≡ word_of F t mask r n e) ↔ (m ≡ n)
  words_equal = (
    (λ d. sym (coded_read F t mask r m e f a).message ∙ ap (λ (c : List ℕ). message_in F (taken_off F mask r c)) d ∙ (coded_read F t mask r n e f b).message),
    ap (λ (u : List ℕ). word_of F t mask r u e),
  )

  bch_equal : (bch_bits m ≡ bch_bits n) ↔ Divides generator (polynomial_of (added m n))
  bch_equal = bch_bits_equal m n (a.long ∙ sym b.long) a.bits b.bits

  -- "all 192, both before dispersal ..", as they stand in the words once it is taken off: equal exactly when the generator
  -- divides the difference of the messages
  pub bch_plain_equal : (bch_in F (taken_off F mask r (word_of F t mask r m e)) ≡ bch_in F (taken_off F mask r (word_of F t mask r n e))) ↔ Divides generator (polynomial_of (added m n))
  bch_plain_equal = rw (word_bch F t mask r m e f a, word_bch F t mask r n e f b) bch_equal

  -- ".. and as sent"
  pub bch_sent_equal : (bch_in F (bits_of (word_of F t mask r m e)) ≡ bch_in F (bits_of (word_of F t mask r n e))) ↔ Divides generator (polynomial_of (added m n))
  bch_sent_equal =
      let s = after F.width mask r F.message in
      let p = bch_sent_law F t mask r m e f a in
      let q = bch_sent_law F t mask r n e f b in (
        (λ d. bch_equal.0 (dispersed_one F.width mask s (bch_bits m) (bch_bits n) (bch_bits_bits m) (bch_bits_bits n) (sym p ∙ d ∙ q))),
        (λ d. p ∙ ap (dispersed F.width mask s) (bch_equal.1 d) ∙ sym q),
      )

  -- the parities are equal exactly when the bits that differ in the parity inputs reach each position an even number of
  -- times
  pub parity_equal : (parity_in F (word_of F t mask r m e) ≡ parity_in F (word_of F t mask r n e)) ↔ EvenTimes F t (word_of F t mask r m e) (word_of F t mask r n e)
  parity_equal =
      let u = sent F mask r m e in
      let v = sent F mask r n e in
      let l : length (parity_input F u) ≡ length (parity_input F v) = length_input F u ∙ omega (arith, length_run F t mask r m e f a, length_run F t mask r n e f b) ∙ sym (length_input F v) in
      rw (word_parity F t mask r m e f a, word_parity F t mask r n e f b, word_run F t mask r m e f a, word_run F t mask r n e f b) (parity_of_equal F.rows t (parity_input F u) (parity_input F v) l)

-- each stage of coding keeps sums of three; what is the same in all three stands three times, and so once
module _ (u v x : List ℕ) (k : length u ≡ length v) (l : length u ≡ length x) where
  plain_three : (e : List ℕ) → Bits e → Bits u → Bits v → Bits x → plain (added_three u v x) e ≡ added_three (plain u e) (plain v e) (plain x e)
  unfolding plain
  plain_three e w p q z =
      let bk = length_bch_bits u ∙ sym (length_bch_bits v) in
      let bl = length_bch_bits u ∙ sym (length_bch_bits x) in
      ap₂ (λ (s d : List ℕ). added_three u v x ++ (s ++ d)) (bch_bits_three u v x k l p q z) (sym (three_same e w))
      ∙ ap (λ (s : List ℕ). added_three u v x ++ s) (sym (three_append (bch_bits u) e (bch_bits v) e (bch_bits x) e bk bl))
      ∙ sym (three_append u (bch_bits u ++ e) v (bch_bits v ++ e) x (bch_bits x ++ e) k l)

  input_three : (F : Shape) → parity_input F (added_three u v x) ≡ added_three (parity_input F u) (parity_input F v) (parity_input F x)
  unfolding parity_input
  input_three F =
      let a = zeros F.before in
      let b = zeros F.behind in
      ap₂ (λ (s d : List ℕ). s ++ (added_three u v x ++ d)) (sym (three_same a (zeros_bits F.before))) (sym (three_same b (zeros_bits F.behind)))
      ∙ ap (λ (s : List ℕ). added_three a a a ++ s) (sym (three_append u b v b x b k l))
      ∙ sym (three_append a (u ++ b) a (v ++ b) a (x ++ b) refl refl)

  with_parity_three : (F : Shape) (t : List ℕ) → with_parity F t (added_three u v x) ≡ added_three (with_parity F t u) (with_parity F t v) (with_parity F t x)
  unfolding with_parity
  with_parity_three F t =
      let g : List ℕ → List ℕ = λ (d : List ℕ). parity_of F.rows t (parity_input F d) in
      let ik : length (parity_input F u) ≡ length (parity_input F v) = length_input F u ∙ omega (arith, length_input F v) in
      let il : length (parity_input F v) ≡ length (parity_input F x) = length_input F v ∙ omega (arith, length_input F x) in
      ap (λ (s : List ℕ). added_three u v x ++ s) (ap (parity_of F.rows t) (input_three F) ∙ parity_of_three F.rows t (parity_input F u) (parity_input F v) (parity_input F x) ik il)
      ∙ sym (three_append u (g u) v (g v) x (g x) k l)

  sent_three : (F : Shape) (mask r : ℕ) (e : List ℕ) → Bits e → Bits u → Bits v → Bits x
      → sent F mask r (added_three u v x) e ≡ added_three (sent F mask r u e) (sent F mask r v e) (sent F mask r x e)
  unfolding sent
  sent_three F mask r e w p q z =
      let pk : length (plain u e) ≡ length (plain v e) = length_plain u e ∙ omega (arith, length_plain v e) in
      let pl : length (plain u e) ≡ length (plain x e) = length_plain u e ∙ omega (arith, length_plain x e) in
      ap (dispersed F.width mask r) (plain_three e w p q z) ∙ dispersed_three F.width mask r (plain u e) (plain v e) (plain x e) pk pl

-- three words added are the word of the added messages
pub words_three : (F : Shape) (t : List ℕ) (mask r : ℕ) (m n q e : List ℕ) → Fits F → Message F m e → Message F n e → Message F q e
    → word_of F t mask r (added_three m n q) e ≡ added_octets F.octets (word_of F t mask r m e) (word_of F t mask r n e) (word_of F t mask r q e)
unfolding word_of added_octets
words_three F t mask r m n q e f a b c =
    let u = sent F mask r m e in
    let v = sent F mask r n e in
    let x = sent F mask r q e in
    let lu = length_run F t mask r m e f a in
    ap (λ (s : List ℕ). octets_of F.octets (with_parity F t s)) (sent_three m n q (a.long ∙ sym b.long) (a.long ∙ sym c.long) F mask r e a.tail_bits a.bits b.bits c.bits)
    ∙ ap (octets_of F.octets) (with_parity_three u v x (lu ∙ sym (length_run F t mask r n e f b)) (lu ∙ sym (length_run F t mask r q e f c)) F t)
    ∙ sym (ap (octets_of F.octets)
    (ap₂ (λ (s d : List ℕ). added_three s d (bits_of (word_of F t mask r q e))) (word_bits F t mask r m e f a) (word_bits F t mask r n e f b)
    ∙ ap (added_three (with_parity F t u) (with_parity F t v)) (word_bits F t mask r q e f c)))
