-- Laws of labels: how many there are, lengths, bounds, there and back, and that labels are equal exactly where the bits are.
use Rattle.std.specs.Prelude.{◌≡◌, ◌↔◌, Bool, List, [], length}
use Rattle.std.proofs.Math.Path.{sym, ap}
use Rattle.std.proofs.Common.{◌∙◌, append-nil, one-mul, arith, pow_pos, shl_exact, get_or-take}
use Prim.Native.Nat.{ℕ, ◌*◌, ◌%◌, ◌^◌, ◌<◌, ◌≤◌}
use Rattle.std.proofs.Math.Decide.{dec_lt}
use Rattle.std.proofs.Math.ListN.{get_or, get_or-eq_default}
use Rattle.lists.specs.Count.{table}
use Rattle.lists.specs.CountLaws.{length_table, get_or_table, table_is}
use Rattle.lists.specs.Runs.{Bits, Octets}
use Rattle.bits.specs.Digits.{digits, number}
use Rattle.bits.specs.DigitLaws.{digits_bits, number_lt, number_same, number_of_digits, digits_number}
use Rattle.bits.specs.Octets.{bits_of, octets_of}
use Rattle.bits.specs.OctetLaws.{length_bits_of, bits_of_bits, length_octets_of, octets_bits, bits_octets}
use Rattle.symbols.specs.Index.{bit_at, row_of, place_of}
use Rattle.symbols.specs.IndexLaws.{bit_below, row_of_bit, place_of_bit, bit_there, row_below, place_below}
use Rattle.symbols.specs.Labels.{bits_of_row, labels_of, bits_of_labels, labels_of_octets, octets_of_labels}

-- what the code makes of 2^m, by a shift
pub one_shifted : (m : ℕ) → m ≤ 5 → 1 * 2 ^ m % 2 ^ 64 ≡ 2 ^ m
one_shifted m h = shl_exact {a = 1} 1 m 64 (omega arith) (omega arith) ∙ one-mul (2 ^ m)

-- a bound that holds of a table's n values holds everywhere
pub table_below : (n b : ℕ) (f : ℕ → ℕ) → 0 < b → ((k : ℕ) → k < n → f k < b) → (k : ℕ) → get_or (table n f) k 0 < b
table_below n b f z h k = go (dec_lt k n)
  where
    go : Dec (k < n) → get_or (table n f) k 0 < b
    go (yes l) = rw (get_or_table n f k l) (h k l)
    go (no l) = rw (get_or-eq_default (table n f) 0 {n = k} (omega (arith, length_table n f))) z

-- the digits of a number, read one by one, make the number
number_read : (n x : ℕ) (f : ℕ → ℕ) → x < 2 ^ n → ((k : ℕ) → k < n → f k ≡ get_or (digits n x) k 0) → number n (table n f) ≡ x
number_read n x f h e =
    number_same n (table n f) (digits n x) (λ k l. get_or_table n f k l ∙ e k l)
    ∙ ap (number n) (sym (append-nil (digits n x)))
    ∙ number_of_digits n x [] h

-- digit k of the number that n bits make is bit k
digit_made : (n : ℕ) (f : ℕ → ℕ) → ((k : ℕ) → k < n → f k < 2) → (k : ℕ) → k < n → get_or (digits n (number n (table n f))) k 0 ≡ f k
digit_made n f z k h =
    ap (λ (u : List ℕ). get_or u k 0) (digits_number n (table n f) (omega (arith, length_table n f)) (table_below n 2 f (omega arith) z))
    ∙ get_or-take n (table n f) k 0 h
    ∙ get_or_table n f k h

module _ (m s : ℕ) (leftward : Bool) where
  pub length_labels : (bits : List ℕ) → length (labels_of m s leftward bits) ≡ s
  unfolding labels_of
  length_labels bits = length_table s (λ r. number m (bits_of_row m s leftward bits r))

  pub label_at : (bits : List ℕ) (r : ℕ) → r < s → get_or (labels_of m s leftward bits) r 0 ≡ number m (bits_of_row m s leftward bits r)
  unfolding labels_of
  label_at bits r h = get_or_table s (λ i. number m (bits_of_row m s leftward bits i)) r h

  -- every label is below 2^m
  pub labels_below : (bits : List ℕ) → Bits bits → (r : ℕ) → get_or (labels_of m s leftward bits) r 0 < 2 ^ m
  unfolding labels_of
  labels_below bits z =
      table_below s (2 ^ m) (λ r. number m (bits_of_row m s leftward bits r)) (pow_pos m)
      (λ r h. number_lt m (bits_of_row m s leftward bits r) (table_below m 2 (λ k. get_or bits (bit_at m s leftward r k) 0) (omega arith) (λ k l. z (bit_at m s leftward r k))))

  pub length_label_bits : (labels : List ℕ) → length (bits_of_labels m s leftward labels) ≡ m * s
  unfolding bits_of_labels
  length_label_bits labels = length_table (m * s) _

  pub label_bit_at : (labels : List ℕ) (j : ℕ) → j < m * s
      → get_or (bits_of_labels m s leftward labels) j 0 ≡ get_or (digits m (get_or labels (row_of m s j) 0)) (place_of m s leftward j) 0
  unfolding bits_of_labels
  label_bit_at labels j h = get_or_table (m * s) _ j h

  pub label_bits_bits : (labels : List ℕ) → Bits (bits_of_labels m s leftward labels)
  unfolding bits_of_labels
  label_bits_bits labels =
      table_below (m * s) 2 _ (omega arith) (λ j h. digits_bits m (get_or labels (row_of m s j) 0) (place_of m s leftward j))

  -- bits to labels and back
  pub bits_labels : (bits : List ℕ) → length bits ≡ m * s → Bits bits → bits_of_labels m s leftward (labels_of m s leftward bits) ≡ bits
  unfolding bits_of_labels
  bits_labels bits l z =
      sym (table_is (m * s) _ bits l
      (λ j h.
      let r = row_of m s j in
      let k = place_of m s leftward j in
      let f : ℕ → ℕ = λ i. get_or bits (bit_at m s leftward r i) 0 in
      sym
      (ap (λ (x : ℕ). get_or (digits m x) k 0) (label_at bits r (row_below m s leftward j h))
      ∙ digit_made m f (λ i p. z (bit_at m s leftward r i)) k (place_below m s leftward j h)
      ∙ ap (λ (i : ℕ). get_or bits i 0) (bit_there m s leftward j h))))

  -- labels to bits and back
  pub labels_bits : (labels : List ℕ) → length labels ≡ s → ((r : ℕ) → r < s → get_or labels r 0 < 2 ^ m)
      → labels_of m s leftward (bits_of_labels m s leftward labels) ≡ labels
  unfolding labels_of
  labels_bits labels l fit =
      sym (table_is s _ labels l
      (λ r h.
      sym
      (number_read m (get_or labels r 0) (λ k. get_or (bits_of_labels m s leftward labels) (bit_at m s leftward r k) 0) (fit r h)
      (λ k p.
      label_bit_at labels (bit_at m s leftward r k) (bit_below m s leftward r k h p)
      ∙ ap (λ (i : ℕ). get_or (digits m (get_or labels i 0)) (place_of m s leftward (bit_at m s leftward r k)) 0) (row_of_bit m s leftward r k h p)
      ∙ ap (λ (i : ℕ). get_or (digits m (get_or labels r 0)) i 0) (place_of_bit m s leftward r k h p)))))

  pub length_octet_labels : (octets : List ℕ) → length (labels_of_octets m s leftward octets) ≡ s
  unfolding labels_of_octets
  length_octet_labels octets = length_labels (bits_of octets)

  pub octet_labels_below : (octets : List ℕ) (r : ℕ) → get_or (labels_of_octets m s leftward octets) r 0 < 2 ^ m
  unfolding labels_of_octets
  octet_labels_below octets = labels_below (bits_of octets) (bits_of_bits octets)

  pub length_label_octets : (n : ℕ) (labels : List ℕ) → length (octets_of_labels n m s leftward labels) ≡ n
  unfolding octets_of_labels
  length_label_octets n labels = length_octets_of n (bits_of_labels m s leftward labels)

  module _ (n : ℕ) (whole : 8 * n ≡ m * s) where
    octet_bits : (octets : List ℕ) → length octets ≡ n → length (bits_of octets) ≡ m * s
    octet_bits octets l = length_bits_of octets ∙ ap (λ (i : ℕ). 8 * i) l ∙ whole

    -- n octets to labels and back
    pub octets_labels : (octets : List ℕ) → length octets ≡ n → Octets octets → octets_of_labels n m s leftward (labels_of_octets m s leftward octets) ≡ octets
    unfolding octets_of_labels labels_of_octets
    octets_labels octets l z =
        ap (octets_of n) (bits_labels (bits_of octets) (octet_bits octets l) (bits_of_bits octets)) ∙ octets_bits n octets l z

    -- labels to n octets and back: the octets' labels are the labels given
    pub labels_octets : (labels : List ℕ) → length labels ≡ s → ((r : ℕ) → r < s → get_or labels r 0 < 2 ^ m)
        → labels_of_octets m s leftward (octets_of_labels n m s leftward labels) ≡ labels
    unfolding octets_of_labels labels_of_octets
    labels_octets labels l fit =
        ap (labels_of m s leftward)
        (bits_octets n (bits_of_labels m s leftward labels) (length_label_bits labels ∙ sym whole) (label_bits_bits labels))
        ∙ labels_bits labels l fit

    -- the labels of two runs of n octets are equal exactly where the octets are
    pub labels_equal : (xs ys : List ℕ) → length xs ≡ n → length ys ≡ n → Octets xs → Octets ys
        → (labels_of_octets m s leftward xs ≡ labels_of_octets m s leftward ys) ↔ (xs ≡ ys)
    labels_equal xs ys p q y z = (
      λ e. sym (octets_labels xs p y) ∙ ap (octets_of_labels n m s leftward) e ∙ octets_labels ys q z,
      λ e. ap (labels_of_octets m s leftward) e,
    )
