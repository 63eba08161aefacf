-- Laws of a coded word: lengths, bits, and its parts.
use Rattle.std.specs.Prelude.{◌≡◌, List, ◌++◌, ℕ, ◌+◌, ◌*◌, take, drop}
use Rattle.std.proofs.Math.Path.{ap}
use Rattle.std.proofs.Common.{◌∙◌, arith, take_at, drop_at}
use Rattle.std.proofs.Math.ListN.{length, length-append}
use Rattle.std.proofs.lemmas.List.{length-replicate}
use Rattle.lists.specs.Runs.{Bits, Octets}
use Rattle.lists.specs.RunLaws.{below_append, below_replicate}
use Rattle.bits.specs.Octets.{bits_of}
use Rattle.bits.specs.OctetLaws.{length_octets_of, octets_of_octets, bits_octets}
use Rattle.dispersal.specs.DispersalLaws.{length_dispersed, dispersed_bits}
use Rattle.bch.specs.Bch.{bch_bits}
use Rattle.bch.proofs.BchLaws.{length_bch_bits, bch_bits_bits}
use Rattle.parity_table.specs.Tables.{positions}
use Rattle.ldpc.specs.Parity.{parity_of}
use Rattle.ldpc.proofs.ParityLaws.{length_parity_of, parity_of_bits}
use Rattle.codeword.specs.declared.Shape.{Shape}
use Rattle.codeword.specs.Words.{run_bits, plain, sent, zeros, parity_input, with_parity, word_of}
use Rattle.codeword.specs.Needs.{Fits}

-- a message and a tail of these sizes
pub record Message (F : Shape) (m e : List ℕ) : Type 0 where
  pub long : length m ≡ F.message
  pub bits : Bits m
  pub tail_long : length e ≡ F.tail
  pub tail_bits : Bits e

pub length_plain : (m e : List ℕ) → length (plain m e) ≡ length m + (192 + length e)
unfolding plain
length_plain m e = simp (length-append, length_bch_bits)

bits_behind : (m x e : List ℕ) → Bits m → Bits e → Bits (m ++ (bch_bits x ++ e))
bits_behind m x e z w = below_append 1 m (bch_bits x ++ e) z (below_append 1 (bch_bits x) e (bch_bits_bits x) w)

pub plain_bits : (m e : List ℕ) → Bits m → Bits e → Bits (plain m e)
unfolding plain
plain_bits m e z w = bits_behind m _ e z w

pub length_zeros : (n : ℕ) → length (zeros n) ≡ n
unfolding zeros
length_zeros n = length-replicate {A = ℕ} n 0

pub zeros_bits : (n : ℕ) → Bits (zeros n)
unfolding zeros
zeros_bits n = below_replicate 1 n 0 (omega arith)

module _ (F : Shape) where
  pub length_sent : (mask r : ℕ) (m e : List ℕ) → length (sent F mask r m e) ≡ length m + (192 + length e)
  unfolding sent
  length_sent mask r m e = length_dispersed F.width mask r _ ∙ length_plain m e

  pub sent_bits : (mask r : ℕ) (m e : List ℕ) → Bits (sent F mask r m e)
  unfolding sent
  sent_bits mask r m e = dispersed_bits F.width mask r _

  pub length_input : (d : List ℕ) → length (parity_input F d) ≡ F.before + (length d + F.behind)
  unfolding parity_input
  length_input d = simp (length-append, length_zeros)

  pub length_with_parity : (t d : List ℕ) → length (with_parity F t d) ≡ length d + positions F.rows
  unfolding with_parity
  length_with_parity t d = length-append d _ ∙ ap (λ (n : ℕ). length d + n) (length_parity_of F.rows t _)

  pub with_parity_bits : (t d : List ℕ) → Bits d → Bits (with_parity F t d)
  unfolding with_parity
  with_parity_bits t d z = below_append 1 d _ z (parity_of_bits F.rows t _)

module _ (F : Shape) (t : List ℕ) (mask r : ℕ) (m e : List ℕ) (f : Fits F) (o : Message F m e) where
  -- the bits before the parity, as sent
  pub length_run : length (sent F mask r m e) ≡ run_bits F
  length_run = length_sent F mask r m e ∙ omega (arith, o.long, o.tail_long)

  -- all bits of the word
  pub length_all : length (with_parity F t (sent F mask r m e)) ≡ 8 * F.octets
  length_all = length_with_parity F t (sent F mask r m e) ∙ ap (λ (n : ℕ). n + positions F.rows) length_run ∙ f.whole

  pub word_bits : bits_of (word_of F t mask r m e) ≡ with_parity F t (sent F mask r m e)
  unfolding word_of
  word_bits = bits_octets F.octets (with_parity F t (sent F mask r m e)) length_all (with_parity_bits F t (sent F mask r m e) (sent_bits F mask r m e))

  pub word_run : take (run_bits F) (bits_of (word_of F t mask r m e)) ≡ sent F mask r m e
  unfolding with_parity
  word_run = rw word_bits (take_at (sent F mask r m e) _ (run_bits F) length_run)

  pub word_parity : drop (run_bits F) (bits_of (word_of F t mask r m e)) ≡ parity_of F.rows t (parity_input F (sent F mask r m e))
  unfolding with_parity
  word_parity = rw word_bits (drop_at (sent F mask r m e) _ (run_bits F) length_run)

module _ (F : Shape) where
  pub length_word_of : (t : List ℕ) (mask r : ℕ) (m e : List ℕ) → length (word_of F t mask r m e) ≡ F.octets
  unfolding word_of
  length_word_of t mask r m e = length_octets_of F.octets _

  pub word_of_octets : (t : List ℕ) (mask r : ℕ) (m e : List ℕ) → Octets (word_of F t mask r m e)
  unfolding word_of
  word_of_octets t mask r m e = octets_of_octets F.octets _ (with_parity_bits F t _ (sent_bits F mask r m e))
