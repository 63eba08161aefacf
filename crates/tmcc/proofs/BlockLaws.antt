-- Laws of a TMCC block, coded and read: its sizes, which are a codeword's, and its octets.
use Rattle.std.specs.Prelude.{◌≡◌, refl, List, [], ◌++◌, ℕ, length, drop}
use Rattle.std.proofs.Common.{◌∙◌, arith, length-append, length-take-le, take_at, drop_at}
use Rattle.std.proofs.Math.ListN.{replicate}
use Rattle.lists.specs.Runs.{Bits, Octets}
use Rattle.lists.specs.RunLaws.{below_take, below_append, below_replicate}
use Rattle.bits.specs.Octets.{bits_of}
use Rattle.bits.specs.OctetLaws.{length_bits_of, bits_of_bits, length_octets_of, bits_octets}
use Rattle.plan.specs.Sizes.{block_octets}
use Rattle.codeword.specs.Needs.{Fits}
use Rattle.codeword.proofs.WordLaws.{Message, length_word_of, word_of_octets}
use Rattle.codeword.specs.Reading.{taken_off, message_in}
use Rattle.codeword.proofs.ReadingLaws.{message_in_bits, message_in_long}
use Rattle.tmcc.specs.Blocks.{source_octets, message_bits, block_shape, message_of, block_of, tailed, source_of}

-- a block's sizes are those of a codeword
pub fits : Fits block_shape
fits = record { wide = omega arith; narrow = omega arith; some = omega arith; few = omega arith; input = refl; whole = refl }

-- its TMCC bits are the message, and there is no tail
pub message : (source : List ℕ) → length source ≡ source_octets → Message block_shape (message_of source) []
unfolding message_of
message source l =
    record {
      long = length-take-le message_bits (bits_of source) (omega (arith, length_bits_of source));
      bits = below_take 1 message_bits (bits_of source) (bits_of_bits source);
      tail_long = refl;
      tail_bits = below_replicate 1 0 0 (omega arith);
    }

pub length_block_of : (t : List ℕ) (mask start : ℕ) (source : List ℕ) → length (block_of t mask start source) ≡ block_octets
unfolding block_of
length_block_of t mask start source = length_word_of block_shape t mask _ _ _

pub block_of_octets : (t : List ℕ) (mask start : ℕ) (source : List ℕ) → Octets (block_of t mask start source)
unfolding block_of
block_of_octets t mask start source = word_of_octets block_shape t mask _ _ _

pub length_source_of : (mask start : ℕ) (c : List ℕ) → length (source_of mask start c) ≡ source_octets
unfolding source_of tailed
length_source_of mask start c = length_octets_of source_octets _

-- TMCC bits u with two zeros behind them
module _ (u : List ℕ) (l : length u ≡ message_bits) (z : Bits u) where
  tailed_bits : bits_of (tailed u) ≡ u ++ replicate 2 0
  unfolding tailed
  tailed_bits =
      bits_octets source_octets (u ++ replicate 2 0) (length-append u (replicate 2 0) ∙ omega arith) (below_append 1 u (replicate 2 0) z (below_replicate 1 2 0 (omega arith)))

  tailed_message : message_of (tailed u) ≡ u
  unfolding message_of
  tailed_message = rw tailed_bits (take_at u (replicate 2 0) message_bits l)

  tailed_tail : drop message_bits (bits_of (tailed u)) ≡ replicate 2 0
  tailed_tail = rw tailed_bits (drop_at u (replicate 2 0) message_bits l)

module _ (mask start : ℕ) (c : List ℕ) (l : length c ≡ block_octets) where
  -- the TMCC bits that they hold
  pub source_of_message : message_of (source_of mask start c) ≡ message_in block_shape (taken_off block_shape mask start c)
  unfolding source_of
  source_of_message = tailed_message _ (message_in_long block_shape c fits l mask start) (message_in_bits block_shape c mask start)

  -- "the last two bits are 0"
  pub source_of_tail : drop message_bits (bits_of (source_of mask start c)) ≡ replicate 2 0
  unfolding source_of
  source_of_tail = tailed_tail _ (message_in_long block_shape c fits l mask start) (message_in_bits block_shape c mask start)
