-- Demand 3 for TMCC blocks (document 01, "What demand 3 compares"), under one parity table, one mask and one start: three
-- blocks added. The clauses on two blocks are a codeword's as they stand.
use Rattle.std.specs.Prelude.{◌≡◌, true, List, [], ℕ, ◌*◌, length, drop, replicate}
use Rattle.std.proofs.Math.Path.{ap}
use Rattle.std.proofs.Common.{ap₂, ◌∙◌, arith}
use Rattle.lists.specs.RunLaws.{below_replicate}
use Rattle.bits.specs.Octets.{bits_of}
use Rattle.bits.specs.OctetLaws.{bits_octets, length_bits_of}
use Rattle.bits.specs.OctetParts.{length_added_octets}
use Rattle.bits.specs.Sums.{added, added_three, added_octets}
use Rattle.bits.specs.SumLaws.{added_take, added_drop, length_three, three_bits, three_same}
use Rattle.plan.specs.Sizes.{block_octets}
use Rattle.codeword.proofs.DemandThree as words
use Rattle.tmcc.specs.Blocks.{source_octets, message_bits, block_shape, message_of, block_of}
use Rattle.tmcc.proofs.BlockLaws.{fits, message}
use Rattle.tmcc.specs.Calls.{tail_ok}
use Rattle.tmcc.proofs.CallLaws.{tail_right}

-- the bits of three sources added, their TMCC bits and their last two
module _ (x y z : List ℕ) (a : length x ≡ source_octets) where
  bits_three : bits_of (added_octets source_octets x y z) ≡ added_three (bits_of x) (bits_of y) (bits_of z)
  unfolding added_octets
  bits_three =
      let u = added_three (bits_of x) (bits_of y) (bits_of z) in
      bits_octets source_octets u (length_three (bits_of x) (bits_of y) (bits_of z) ∙ length_bits_of x ∙ ap (λ (n : ℕ). 8 * n) a) (three_bits (bits_of x) (bits_of y) (bits_of z))

  message_three : message_of (added_octets source_octets x y z) ≡ added_three (message_of x) (message_of y) (message_of z)
  unfolding message_of
  message_three = rw (bits_three, added_take message_bits (added (bits_of x) (bits_of y)) (bits_of z), added_take message_bits (bits_of x) (bits_of y))

  -- the sum of three that are refused for no tail is refused for none
  pub tail_three : length y ≡ source_octets → length z ≡ source_octets → tail_ok x ≡ true → tail_ok y ≡ true → tail_ok z ≡ true
      → tail_ok (added_octets source_octets x y z) ≡ true
  tail_three b c p q r =
      let two : List ℕ = replicate 2 0 in
      let e : drop message_bits (added_three (bits_of x) (bits_of y) (bits_of z)) ≡ two
      = added_drop message_bits (added (bits_of x) (bits_of y)) (bits_of z)
      ∙ ap₂ added (added_drop message_bits (bits_of x) (bits_of y) ∙ ap₂ added ((tail_right x a).0 p) ((tail_right y b).0 q)) ((tail_right z c).0 r)
      ∙ three_same two (below_replicate 1 2 0 (omega arith)) in
      (tail_right (added_octets source_octets x y z) (length_added_octets source_octets x y z)).1 (ap (drop message_bits) bits_three ∙ e)

-- three blocks added are the block of the added TMCC bits
pub blocks_three : (t : List ℕ) (mask start : ℕ) (x y z : List ℕ) → length x ≡ source_octets → length y ≡ source_octets → length z ≡ source_octets
    → block_of t mask start (added_octets source_octets x y z) ≡ added_octets block_octets (block_of t mask start x) (block_of t mask start y) (block_of t mask start z)
unfolding block_of
blocks_three t mask start x y z a b c =
    rw (message_three x y z a)
    (words.words_three block_shape t mask _ (message_of x) (message_of y) (message_of z) [] fits (message x a) (message y b) (message z c))
