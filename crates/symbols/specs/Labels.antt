-- Labels of symbols, and the bits of labels (document 01, "Symbols", "TMCC block" and "Refusal list").
use Rattle.std.specs.Prelude.{Bool, false, ◌&&◌, List, ℕ, ◌*◌, ◌^◌, eqb, ltb, length, get_or}
use Rattle.lists.specs.Choice.{pick, and_then}
use Rattle.lists.specs.Count.{every, table}
use Rattle.refusal.specs.Numbers.{PLAN, LENGTH, LABEL}
use Rattle.bits.specs.Digits.{digits, number}
use Rattle.bits.specs.Octets.{bits_of, octets_of}
use Rattle.plan.specs.Sizes.{slot_octets, block_bits, block_octets}
use Rattle.plan.specs.Rates.{rate_ok, modulation_ok, symbols_of}
use Rattle.symbols.specs.Index.{right_to_left, bit_at, row_of, place_of}

-- the bits of row r in the order in which they are read
abbrev pub bits_of_row : ℕ → ℕ → Bool → List ℕ → ℕ → List ℕ
bits_of_row m s leftward bits r = table m (λ k. get_or bits (bit_at m s leftward r k) 0)

-- the labels of m * s bits: "The bit read first is the label's highest"
unfoldable pub labels_of : ℕ → ℕ → Bool → List ℕ → List ℕ
labels_of m s leftward bits = table s (λ r. number m (bits_of_row m s leftward bits r))

-- the m * s bits of s labels: bit j is a digit of the label of its row
unfoldable pub bits_of_labels : ℕ → ℕ → Bool → List ℕ → List ℕ
bits_of_labels m s leftward labels = table (m * s) (λ j. get_or (digits m (get_or labels (row_of m s j) 0)) (place_of m s leftward j) 0)

-- "One octet holds one label": the labels of octets, and the n octets of labels
unfoldable pub labels_of_octets : ℕ → ℕ → Bool → List ℕ → List ℕ
labels_of_octets m s leftward octets = labels_of m s leftward (bits_of octets)

unfoldable pub octets_of_labels : ℕ → ℕ → ℕ → Bool → List ℕ → List ℕ
octets_of_labels n m s leftward labels = octets_of n (bits_of_labels m s leftward labels)

-- "31,680 BPSK labels": one for each bit of a TMCC block
abbrev pub block_labels : ℕ
block_labels = block_bits

-- a slot under modulation m and a rate
abbrev pub labels_of_slot : ℕ → ℕ → List ℕ → List ℕ
labels_of_slot m rate slot = labels_of_octets m (symbols_of m) (right_to_left m rate) slot

abbrev pub slot_of_labels : ℕ → ℕ → List ℕ → List ℕ
slot_of_labels m rate labels = octets_of_labels slot_octets m (symbols_of m) (right_to_left m rate) labels

-- "As symbols the block is 31,680 BPSK labels in bit order"
abbrev pub labels_of_block : List ℕ → List ℕ
labels_of_block block = labels_of_octets 1 block_labels false block

abbrev pub block_of_labels : List ℕ → List ℕ
block_of_labels labels = octets_of_labels block_octets 1 block_labels false labels

-- 4: octets and labels, given as their lengths, are as many as they must be
unfoldable pub length_number : ℕ → ℕ → ℕ → ℕ → ℕ
length_number n s octets labels = pick (eqb octets n && eqb labels s) 0 LENGTH

-- 12: "a symbol is 2^modulation or more"
unfoldable pub label_number : ℕ → List ℕ → ℕ
label_number m labels = pick (every (length labels) (λ r. ltb (get_or labels r 0) (2 ^ m))) 0 LABEL

-- "Symbols: 1, 4, 12": both slot calls refuse 1 and 4
unfoldable pub slot_number : ℕ → ℕ → ℕ → ℕ → ℕ
slot_number m rate octets labels =
    and_then (pick (modulation_ok m && rate_ok rate) 0 PLAN) (length_number slot_octets (symbols_of m) octets labels)

-- the way back refuses 12 too
unfoldable pub slot_of_labels_number : ℕ → ℕ → List ℕ → ℕ → ℕ
slot_of_labels_number m rate labels room = and_then (slot_number m rate room (length labels)) (label_number m labels)

-- "by calls of their own both ways that refuse 4, then 12"
unfoldable pub block_number : ℕ → ℕ → ℕ
block_number octets labels = length_number block_octets block_labels octets labels

unfoldable pub block_of_labels_number : List ℕ → ℕ → ℕ
block_of_labels_number labels room = and_then (block_number room (length labels)) (label_number 1 labels)
