-- One turn of the loops over the places of labels, s labels of m bits.
use mathlib.Core.Path.{◌≡◌, refl, sym, ap, ap₂, ◌∙◌}
use mathlib.Core.Bool.{Bool}
use mathlib.Core.List.{List, ◌∷◌, []}
use Prim.Native.Nat.{ℕ, zero, suc, ◌+◌, ◌-◌, ◌*◌, ◌/◌, ◌%◌, ◌^◌, ◌<◌, ◌≤◌}
use native.Mathlib.Nat.{div-one}
use native.Mathlib.Numerals.{add-one}
use native.Mathlib.Omega.{arith}
use lib.ListN.{length, get_or, replicate, length-replicate, get_or-replicate, get_or-append}
use lib.Pow.{pow_mono, shr-shr}
use lib.Seq.{get_or_at}
use Rattle.lists.specs.Count.{table}
use Rattle.lists.specs.CountLaws.{length_table, get_or_table, table_is, table_same}
use Rattle.lists.specs.Runs.{Bits}
use Rattle.bits.specs.Digits.{digits, number}
use Rattle.bits.specs.DigitLaws.{length_digits, number_none, number_more, number_lt}
use Rattle.plan.specs.Needs.{Between}
use Rattle.symbols.specs.Index.{bit_at, stride_of, row_of, place_of}
use Rattle.symbols.specs.IndexLaws.{bit_below, bit_one, bit_there, bit_stepped, stride_small, row_below, place_below}
use Rattle.symbols.specs.Labels.{bits_of_row, labels_of, bits_of_labels}
use Rattle.symbols.specs.LabelLaws.{table_below}
use Rattle.symbols.specs.Needs.{Strided, Taking, Put, weighed, grown}
use Rattle.symbols.proofs.Strides.{last_or_below}

-- a digit by its weight
pub digit_weighed : (n x k : ℕ) → k < n → x / 2 ^ (n - 1 - k) % 2 ≡ get_or (digits n x) k 0
unfolding digits
digit_weighed zero x k h = absurd (omega arith)
digit_weighed (suc n) x k h =
    last_or_below k n (rw (add-one n) h)
    (λ (w : k ≡ n).
    let z : suc n - 1 - k ≡ 0 = omega arith in
    rw z (ap (λ (y : ℕ). y % 2) (div-one x) ∙ sym (rw w (get_or_at (digits n (x / 2)) (x % 2) [] 0 n (length_digits n (x / 2))))))
    (λ (w : k < n).
    let e : suc n - 1 - k ≡ 1 + (n - 1 - k) = omega arith in
    rw e
    (ap (λ (y : ℕ). y % 2) (sym (shr-shr x 1 (n - 1 - k)))
    ∙ digit_weighed n (x / 2) k w
    ∙ sym (get_or-append (digits n (x / 2)) (x % 2 ∷ []) 0 k (omega (arith, length_digits n (x / 2))))))

module _ (m s : ℕ) (leftward : Bool) where
  -- the labels so far: of the bits at their first n places
  abbrev pub labels_to : List ℕ → ℕ → List ℕ
  labels_to bits n = table s (λ r. number n (bits_of_row m s leftward bits r))

  -- a place's bits lie within the run
  pub strided : (bits labels : List ℕ) (k : ℕ) → Between 1 5 m → length bits ≡ m * s → length labels ≡ s → k < m
      → Strided bits (bit_at m s leftward 0 k) (stride_of m) labels
  strided bits labels k b l n h =
      record { small = stride_small m b; within = λ r p. rw (← bit_stepped m s leftward r k, l) (bit_below m s leftward r k (omega arith) h) }

  pub to_none : (bits : List ℕ) → replicate s 0 ≡ labels_to bits 0
  to_none bits = table_is s _ (replicate s 0) (length-replicate s 0) (λ r h. get_or-replicate s r 0 0 h ∙ sym (number_none (bits_of_row m s leftward bits r)))

  pub to_more : (bits : List ℕ) (n : ℕ) → n < m → grown bits (bit_at m s leftward 0 n) (stride_of m) (labels_to bits n) ≡ labels_to bits (n + 1)
  unfolding grown
  to_more bits n h =
      let f : ℕ → ℕ → ℕ = λ r k. get_or bits (bit_at m s leftward r k) 0 in
      ap (λ (i : ℕ). table i (λ r. get_or (labels_to bits n) r 0 * 2 + get_or bits (bit_at m s leftward 0 n + stride_of m * r) 0)) (length_table s _)
      ∙ table_same s _ _
      (λ r p.
      ap₂ (λ (x y : ℕ). x * 2 + y)
      (get_or_table s _ r p)
      (ap (λ (i : ℕ). get_or bits i 0) (sym (bit_stepped m s leftward r n)) ∙ sym (get_or_table m (f r) n h))
      ∙ sym (number_more n (bits_of_row m s leftward bits r)))

  -- labels of fewer than 5 bits have room for one more
  pub to_room : (bits : List ℕ) (n : ℕ) → Bits bits → n < 5 → (r : ℕ) → get_or (labels_to bits n) r 0 < 128
  to_room bits n z h =
      let b : 2 ^ n ≤ 2 ^ 4 = pow_mono {i = n} {j = 4} (omega arith) in
      table_below s 128 _ (omega arith)
      (λ r p. omega (arith, number_lt n (bits_of_row m s leftward bits r) (table_below m 2 _ (omega arith) (λ k l. z (bit_at m s leftward r k)))))

  pub to_all : (bits : List ℕ) → labels_to bits m ≡ labels_of m s leftward bits
  unfolding labels_of
  to_all bits = refl

  module _ (bits labels : List ℕ) (n start step : ℕ) (h : n < m) (l : length labels ≡ s) (done : labels ≡ labels_to bits n)
      (first : start ≡ bit_at m (length labels) leftward 0 n) (stride : step ≡ stride_of m) where
    first_is : start ≡ bit_at m s leftward 0 n
    first_is = first ∙ ap (λ (i : ℕ). bit_at m i leftward 0 n) l

    -- what the next place's turn asks, and what it leaves
    pub taking : Between 1 5 m → Bits bits → length bits ≡ m * s → Taking bits start step labels
    taking b z w =
        record {
          strided = rw (first_is, stride) (strided bits labels n b w l h);
          bits = z;
          room = rw done (to_room bits n z (omega (arith, b.high)));
        }

    pub taken : (left : List ℕ) → left ≡ grown bits start step labels → left ≡ labels_to bits (n + 1)
    taken left e = e ∙ rw (first_is, stride, done) (to_more bits n h)

  -- the bits so far: those at the first n places of the labels stand where they belong
  pub record Placed (labels : List ℕ) (n : ℕ) (bits : List ℕ) : Type 0 where
    pub long : length bits ≡ m * s
    pub right : (r k : ℕ) → r < s → k < n → get_or bits (bit_at m s leftward r k) 0 ≡ get_or (digits m (get_or labels r 0)) k 0

  -- one place more: the bits put are those of weight 2^shift, which stand at place n where shift is m - 1 - n
  pub placed_more : (labels found left : List ℕ) (n shift : ℕ) → n < m → Placed labels n found
      → Put s (weighed labels shift) (bit_at m s leftward 0 n) (stride_of m) found left → shift ≡ m - 1 - n → Placed labels (n + 1) left
  placed_more labels found left n shift h d p e =
      record {
        long = p.long ∙ d.long;
        right =
            λ r k a b.
            last_or_below k n b
            (λ (w : k ≡ n).
            rw (w, bit_stepped m s leftward r n) (p.there r a ∙ rw e (digit_weighed m (get_or labels r 0) n h)))
            (λ (w : k < n).
            p.others (bit_at m s leftward r k)
            (λ i q f. let x = (bit_one m s leftward r k i n a (omega arith) q h (f ∙ sym (bit_stepped m s leftward i n))).1 in omega arith)
            ∙ d.right r k a w);
      }

  pub placed_all : (labels bits : List ℕ) → Placed labels m bits → bits ≡ bits_of_labels m s leftward labels
  unfolding bits_of_labels
  placed_all labels bits d =
      table_is (m * s) _ bits d.long
      (λ j h.
      ap (λ (i : ℕ). get_or bits i 0) (sym (bit_there m s leftward j h))
      ∙ d.right (row_of m s j) (place_of m s leftward j) (row_below m s leftward j h) (place_below m s leftward j h))
