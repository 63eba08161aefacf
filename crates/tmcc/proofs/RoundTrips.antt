-- Coding and then reading a TMCC block, and reading and then coding one: over the definitions of a block, and over the
-- calls with their numbers and areas.
use Rattle.std.specs.Prelude.{◌≡◌, ℕ, ◌≤◌, length, drop, replicate}
use Rattle.std.proofs.Common.{sym, ap₂, ◌∙◌, arith, drop_of_length-le}
use mathlib.Core.List.{List, []}
use Rattle.std.proofs.Math.ListN.{take-append-drop}
use Rattle.lists.specs.ChoiceLaws.{then_zero, then_both}
use Rattle.lists.specs.Runs.{Octets}
use Rattle.refusal.specs.Answers.{BackAgain}
use Rattle.bits.specs.Octets.{bits_of}
use Rattle.bits.specs.OctetLaws.{octets_bits}
use Rattle.codeword.specs.Words.{word_of}
use Rattle.codeword.specs.Reading.{taken_off, tail_in, word_number}
use Rattle.codeword.proofs.ReadingLaws.{Received, taken_off_long}
use Rattle.codeword.proofs.CallLaws as given
use Rattle.codeword.proofs.RoundTrips as words
use Rattle.codeword.proofs.RoundTrips.{ReadsAs}
use Rattle.tmcc.specs.Blocks.{source_octets, message_bits, block_shape, message_of, block_of, tailed, source_of}
use Rattle.tmcc.proofs.BlockLaws.{fits, message, length_block_of, length_source_of, source_of_message, source_of_tail}
use Rattle.tmcc.specs.Calls.{lent_number, tail_ok, code_number, read_number}
use Rattle.tmcc.proofs.CallLaws.{lent, codable, tail_right}

module _ (t : List ℕ) (mask start : ℕ) (source : List ℕ) (l : length source ≡ source_octets) where
  word_back : ReadsAs block_shape t mask start (block_of t mask start source) (message_of source) []
  unfolding block_of
  word_back = words.coded_read block_shape t mask start (message_of source) [] fits (message source l)

  -- coding and then reading returns the octets whose last two bits are 0
  pub coded_read : Octets source → drop message_bits (bits_of source) ≡ replicate 2 0 → source_of mask start (block_of t mask start source) ≡ source
  unfolding source_of tailed message_of
  coded_read o e = rw (word_back.message, ← e, take-append-drop message_bits (bits_of source)) (octets_bits source_octets source l o)

-- reading an accepted block and coding it again returns its octets
pub read_coded : (t : List ℕ) (mask start : ℕ) (c : List ℕ) → Received block_shape c → word_number block_shape t mask start c ≡ 0
    → block_of t mask start (source_of mask start c) ≡ c
unfolding block_of
read_coded t mask start c o h =
    let u = taken_off block_shape mask start c in
    let short : length u ≤ 9614 = omega (arith, taken_off_long block_shape c fits o.long mask start) in
    let none : tail_in block_shape u ≡ [] = drop_of_length-le u short in
    ap₂ (word_of block_shape t mask start) (source_of_message mask start c o.long) (sym none) ∙ words.read_coded block_shape t mask start c fits o h

-- of the lent areas only the lengths count for the number of a call
pub lent_lengths : (mask start : ℕ) (t source block source' block' : List ℕ) → length source ≡ length source' → length block ≡ length block'
    → lent_number mask start t source block ≡ lent_number mask start t source' block'
unfolding lent_number
lent_lengths mask start t source block source' block' l m = rw (given.lent_lengths block_shape source_octets t source block source' block' l m)

-- a block that was coded with 0, read with the same table and settings: 0 and its octets
pub code_then_read : (mask start : ℕ) (t source block out : List ℕ) → Octets source → length out ≡ length source
    → code_number mask start t source block ≡ 0
    → BackAgain (read_number mask start t (block_of t mask start source) out) (source_of mask start (block_of t mask start source)) source
unfolding code_number read_number
code_then_read mask start t source block out o l h =
    let c = block_of t mask start source in
    let a = codable mask start t source block h in
    let k = a.lent.areas.source_long in
    let n = lent_lengths mask start t out c source block l (length_block_of t mask start source ∙ sym a.lent.areas.coded_long) in
    record {
      taken = then_both (lent_number mask start t out c) _ (n ∙ (then_zero (lent_number mask start t source block) _ h).0) (word_back t mask start source k).number;
      same = coded_read t mask start source k o ((tail_right source k).0 a.tail);
    }

-- a block that was read with 0, coded again with the same table and settings: 0 and its octets
pub read_then_code : (mask start : ℕ) (t block source out : List ℕ) → Octets block → length out ≡ length block
    → read_number mask start t block source ≡ 0
    → BackAgain (code_number mask start t (source_of mask start block) out) (block_of t mask start (source_of mask start block)) block
unfolding code_number read_number
read_then_code mask start t block source out o l h =
    let m = source_of mask start block in
    let z = then_zero (lent_number mask start t source block) _ h in
    let a = lent mask start t source block z.0 in
    let s = length_source_of mask start block in
    let n = lent_lengths mask start t m out source block (s ∙ sym a.areas.source_long) l in
    let e : tail_ok m ≡ _ = (tail_right m s).1 (source_of_tail mask start block a.areas.coded_long) in
    record {
      taken = then_both (lent_number mask start t m out) _ (n ∙ z.0) (rw e);
      same = read_coded t mask start block (record { octets = o; long = a.areas.coded_long }) z.1;
    }
