-- Coding and then reading a word, and reading and then coding one. The tail comes back with the message: a word read with
-- a tail is the word of that tail.
use Rattle.std.specs.Prelude.{◌≡◌, ◌↔◌, ℕ, ◌+◌, ◌-◌, length, drop}
use Rattle.std.proofs.Common.{sym, ◌∙◌, arith, take-add}
use Rattle.std.proofs.Math.Path.{ap}
use mathlib.Core.List.{List, ◌++◌, append_assoc}
use Rattle.std.proofs.Math.ListN.{take, take-append-drop}
use Rattle.std.proofs.Math.Seq.{take_at}
use Rattle.lists.specs.ThreeRuns.{second_of_three, third_of_three}
use Rattle.bits.specs.Octets.{bits_of, octets_of}
use Rattle.bits.specs.OctetLaws.{octets_bits}
use Rattle.dispersal.specs.Dispersal.{dispersed}
use Rattle.dispersal.specs.DispersalLaws.{dispersed_twice}
use Rattle.bch.specs.Bch.{bch_bits}
use Rattle.bch.proofs.BchLaws.{length_bch_bits}
use Rattle.ldpc.specs.Parity.{parity_of}
use Rattle.codeword.specs.declared.Shape.{Shape}
use Rattle.codeword.specs.Words.{run_bits, plain, sent, parity_input, with_parity, word_of}
use Rattle.codeword.specs.Needs.{Fits}
use Rattle.codeword.proofs.WordLaws.{Message, plain_bits, word_run, word_parity, length_word_of}
use Rattle.codeword.specs.Reading.{run_in, taken_off, message_in, bch_in, tail_in, word_number, Good, with_tail}
use Rattle.codeword.proofs.ReadingLaws.{Received, word_good, run_in_bits}

-- what reading finds in the plain bits of a message m with a tail e
module _ (F : Shape) (m e : List ℕ) (l : length m ≡ F.message) where
  plain_message : message_in F (plain m e) ≡ m
  unfolding plain
  plain_message = take_at m _ F.message l

  plain_bch : bch_in F (plain m e) ≡ bch_bits m
  unfolding plain
  plain_bch = second_of_three m (bch_bits m) e F.message 192 l (length_bch_bits m)

  plain_tail : tail_in F (plain m e) ≡ e
  unfolding plain
  plain_tail = third_of_three m (bch_bits m) e F.message 192 l (length_bch_bits m)

-- that reading the word c answers 0 and gives this message and this tail
pub record ReadsAs (F : Shape) (t : List ℕ) (mask r : ℕ) (c m e : List ℕ) : Type 0 where
  pub number : word_number F t mask r c ≡ 0
  pub message : message_in F (taken_off F mask r c) ≡ m
  pub tail : tail_in F (taken_off F mask r c) ≡ e

module _ (F : Shape) (t : List ℕ) (mask r : ℕ) (m e : List ℕ) (f : Fits F) (o : Message F m e) where
  -- taking dispersal off a coded word gives the plain bits back
  pub word_taken_off : taken_off F mask r (word_of F t mask r m e) ≡ plain m e
  unfolding taken_off sent
  word_taken_off =
      ap (dispersed F.width mask r) (word_run F t mask r m e f o)
      ∙ dispersed_twice F.width mask r (plain m e) (plain_bits m e o.bits o.tail_bits)

  -- and among them the BCH bits of the message
  pub word_bch : bch_in F (taken_off F mask r (word_of F t mask r m e)) ≡ bch_bits m
  word_bch = ap (bch_in F) word_taken_off ∙ plain_bch F m e o.long

  good : Good F t mask r (word_of F t mask r m e)
  good =
      record {
        parity = word_parity F t mask r m e f o ∙ ap (λ (d : List ℕ). parity_of F.rows t (parity_input F d)) (sym (word_run F t mask r m e f o));
        bch = word_bch ∙ ap bch_bits (sym (ap (message_in F) word_taken_off ∙ plain_message F m e o.long));
      }

  -- coding and then reading returns message and tail
  pub coded_read : ReadsAs F t mask r (word_of F t mask r m e) m e
  coded_read =
      record {
        number = (word_good F t mask r (word_of F t mask r m e) f (length_word_of F t mask r m e)).1 good;
        message = ap (message_in F) word_taken_off ∙ plain_message F m e o.long;
        tail = ap (tail_in F) word_taken_off ∙ plain_tail F m e o.long;
      }

-- the bits before the tail are message and BCH bits
before_tail : (F : Shape) (u e : List ℕ) → message_in F u ++ (bch_in F u ++ e) ≡ take (F.message + 192) u ++ e
before_tail F u e =
    let n : F.message + 192 - F.message ≡ 192 = omega arith in
    rw (n, take-add F.message 192 u) (sym (append_assoc (message_in F u) (take 192 (drop F.message u)) e))

-- a word that was read and accepted, and its message coded again at the same register
module _ (F : Shape) (t : List ℕ) (mask r : ℕ) (c : List ℕ) (f : Fits F) (o : Received F c) (h : word_number F t mask r c ≡ 0) where
  -- with a tail it is the received word with that tail
  pub coded_again : (e : List ℕ) → word_of F t mask r (message_in F (taken_off F mask r c)) e ≡ with_tail F t mask r c e
  unfolding word_of sent plain with_tail
  coded_again e =
      let u = taken_off F mask r c in
      let p : plain (message_in F u) e ≡ take (F.message + 192) u ++ e = rw (← ((word_good F t mask r c f o.long).0 h).bch) (before_tail F u e) in
      ap (λ (d : List ℕ). octets_of F.octets (with_parity F t (dispersed F.width mask r d))) p

  -- the received word with its own tail is itself
  own_tail : with_tail F t mask r c (tail_in F (taken_off F mask r c)) ≡ c
  unfolding with_tail with_parity taken_off
  own_tail =
      let g = (word_good F t mask r c f o.long).0 h in
      let d : dispersed F.width mask r (taken_off F mask r c) ≡ run_in F c = dispersed_twice F.width mask r (run_in F c) (run_in_bits F c) in
      rw (take-append-drop (F.message + 192) (taken_off F mask r c), d, ← g.parity, take-append-drop (run_bits F) (bits_of c)) (octets_bits F.octets c o.long o.octets)

  -- so coding its message again with its own tail returns its octets
  pub read_coded : word_of F t mask r (message_in F (taken_off F mask r c)) (tail_in F (taken_off F mask r c)) ≡ c
  read_coded = coded_again (tail_in F (taken_off F mask r c)) ∙ own_tail

  -- and no other tail does
  pub coded_same : (e : List ℕ) → Message F (message_in F (taken_off F mask r c)) e
      → (word_of F t mask r (message_in F (taken_off F mask r c)) e ≡ c) ↔ (tail_in F (taken_off F mask r c) ≡ e)
  coded_same e m =
      let u = taken_off F mask r c in (
        (λ d. ap (λ (x : List ℕ). tail_in F (taken_off F mask r x)) (sym d) ∙ (coded_read F t mask r (message_in F u) e f m).tail),
        (λ d. ap (word_of F t mask r (message_in F u)) (sym d) ∙ read_coded),
      )
