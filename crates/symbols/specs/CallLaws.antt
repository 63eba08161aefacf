-- Laws of the calls: what a number 0 says, and there and back where accepted.
use Rattle.std.specs.Prelude.{◌≡◌, refl, ◌↔◌, Bool, true, false, ◌&&◌, List, ℕ, ◌*◌, ◌^◌, ◌<◌, eqb, ltb, length, get_or}
use Rattle.std.proofs.Common.{sym, ◌∙◌, arith, eqb-true, eq-eqb, ltb-true, lt-ltb}
use Rattle.lists.specs.Choice.{pick, and_then}
use Rattle.lists.specs.ChoiceLaws.{and_left, and_right, then_zero, then_both, not_refused}
use Rattle.refusal.specs.Numbers.{PLAN, LENGTH, LABEL}
use Rattle.lists.specs.Count.{every}
use Rattle.lists.specs.CountLaws.{every_at, every_all}
use Rattle.lists.specs.Runs.{Octets}
use Rattle.plan.specs.Sizes.{slot_octets, block_octets}
use Rattle.plan.specs.Rates.{rate_ok, modulation_ok, symbols_of}
use Rattle.plan.proofs.RateLaws.{symbols_whole}
use Rattle.refusal.specs.Answers.{BackAgain}
use Rattle.symbols.specs.Index.{right_to_left}
use Rattle.symbols.specs.Labels.{block_labels, labels_of_octets, octets_of_labels, labels_of_slot, slot_of_labels, labels_of_block, block_of_labels, length_number, label_number, slot_number, slot_of_labels_number, block_number, block_of_labels_number}
use Rattle.symbols.specs.LabelLaws.{length_octet_labels, octet_labels_below, length_label_octets, octets_labels, labels_octets, labels_equal}

-- what lengths with number 0 are
pub record Lengths (n s x y : ℕ) : Type 0 where
  pub octets : x ≡ n
  pub labels : y ≡ s

pub lengths : (n s x y : ℕ) → length_number n s x y ≡ 0 → Lengths n s x y
unfolding length_number
lengths n s x y h =
    let t = not_refused (eqb x n && eqb y s) LENGTH (omega arith) h in
    record { octets = eqb-true x n (and_left (eqb x n) _ t); labels = eqb-true y s (and_right (eqb x n) _ t) }

pub lengths_yes : (n s x y : ℕ) → Lengths n s x y → length_number n s x y ≡ 0
unfolding length_number
lengths_yes n s x y h = rw (eq-eqb x n h.octets, eq-eqb y s h.labels)

-- what labels with number 0 are
pub labels_fit : (m : ℕ) (labels : List ℕ) → label_number m labels ≡ 0 → (r : ℕ) → r < length labels → get_or labels r 0 < 2 ^ m
unfolding label_number
labels_fit m labels h r l =
    let f : ℕ → Bool = λ i. ltb (get_or labels i 0) (2 ^ m) in
    ltb-true (get_or labels r 0) (2 ^ m) (every_at (length labels) f (not_refused (every (length labels) f) LABEL (omega arith) h) r l)

pub labels_fit_yes : (m : ℕ) (labels : List ℕ) → ((r : ℕ) → r < length labels → get_or labels r 0 < 2 ^ m) → label_number m labels ≡ 0
unfolding label_number
labels_fit_yes m labels h =
    rw (every_all (length labels) (λ i. ltb (get_or labels i 0) (2 ^ m)) (λ r l. lt-ltb (get_or labels r 0) (2 ^ m) (h r l)))

module _ (n m s : ℕ) (leftward : Bool) (whole : 8 * n ≡ m * s) where
  -- what has labels of the right number also has octets of them again
  octets_back : (octets : List ℕ) (room : ℕ) → length_number n s (length octets) room ≡ 0 → Octets octets
      → BackAgain (and_then (length_number n s (length octets) (length (labels_of_octets m s leftward octets))) (label_number m (labels_of_octets m s leftward octets)))
      (octets_of_labels n m s leftward (labels_of_octets m s leftward octets)) octets
  octets_back octets room h z =
      let l = (lengths n s (length octets) room h).octets in
      let made = labels_of_octets m s leftward octets in
      record {
        taken =
            then_both (length_number n s (length octets) (length made)) (label_number m made)
            (lengths_yes n s (length octets) (length made) (record { octets = l; labels = length_octet_labels m s leftward octets }))
            (labels_fit_yes m made (λ r p. octet_labels_below m s leftward octets r));
        same = octets_labels m s leftward n whole octets l z;
      }

  -- and octets that were made of labels have these labels
  labels_back : (labels : List ℕ) (room : ℕ) → and_then (length_number n s room (length labels)) (label_number m labels) ≡ 0
      → BackAgain (length_number n s (length (octets_of_labels n m s leftward labels)) (length labels))
      (labels_of_octets m s leftward (octets_of_labels n m s leftward labels)) labels
  labels_back labels room h =
      let a = then_zero (length_number n s room (length labels)) (label_number m labels) h in
      let l = (lengths n s room (length labels) a.0).labels in
      record {
        taken = lengths_yes n s _ (length labels) (record { octets = length_label_octets m s leftward n labels; labels = l });
        same = labels_octets m s leftward n whole labels l (λ r p. labels_fit m labels a.1 r (omega arith));
      }

-- what a slot call with number 0 for modulation, rate and lengths had
pub record SlotReady (m r x y : ℕ) : Type 0 where
  pub known : modulation_ok m ≡ true
  pub rate : rate_ok r ≡ true
  pub lengths : Lengths slot_octets (symbols_of m) x y

pub slot_ready : (m rate x y : ℕ) → slot_number m rate x y ≡ 0 → SlotReady m rate x y
unfolding slot_number
slot_ready m rate x y h =
    let a = then_zero (pick (modulation_ok m && rate_ok rate) 0 PLAN) _ h in
    let t = not_refused (modulation_ok m && rate_ok rate) PLAN (omega arith) a.0 in
    record { known = and_left (modulation_ok m) _ t; rate = and_right (modulation_ok m) _ t; lengths = lengths slot_octets (symbols_of m) x y a.1 }

-- what the way back with number 0 had
pub slot_labels_ready : (m rate : ℕ) (labels : List ℕ) (room : ℕ) → slot_of_labels_number m rate labels room ≡ 0 → SlotReady m rate room (length labels)
unfolding slot_of_labels_number
slot_labels_ready m rate labels room h = slot_ready m rate room (length labels) (then_zero (slot_number m rate room (length labels)) _ h).0

-- with modulation and rate known, only the lengths are left to refuse
slot_next : (m rate x y : ℕ) → modulation_ok m ≡ true → rate_ok rate ≡ true → slot_number m rate x y ≡ length_number slot_octets (symbols_of m) x y
unfolding slot_number
slot_next m rate x y p q = rw (p, q)

-- a slot's bits are shared out among its symbols
pub slot_whole : (m : ℕ) → modulation_ok m ≡ true → 8 * slot_octets ≡ m * symbols_of m
slot_whole m h = sym (symbols_whole m h)

-- the labels of a slot make the slot again
pub slot_labels_slot : (m rate : ℕ) (slot : List ℕ) (room : ℕ) → slot_number m rate (length slot) room ≡ 0 → Octets slot
    → BackAgain (slot_of_labels_number m rate (labels_of_slot m rate slot) (length slot)) (slot_of_labels m rate (labels_of_slot m rate slot)) slot
unfolding slot_of_labels_number
slot_labels_slot m rate slot room h z =
    let r = slot_ready m rate (length slot) room h in
    let b = octets_back slot_octets m (symbols_of m) (right_to_left m rate) (slot_whole m r.known) slot room (sym (slot_next m rate (length slot) room r.known r.rate) ∙ h) z in
    record { taken = rw (slot_next m rate (length slot) (length (labels_of_slot m rate slot)) r.known r.rate) b.taken; same = b.same }

-- the slot made of labels has these labels
pub labels_slot_labels : (m rate : ℕ) (labels : List ℕ) (room : ℕ) → slot_of_labels_number m rate labels room ≡ 0
    → BackAgain (slot_number m rate (length (slot_of_labels m rate labels)) (length labels)) (labels_of_slot m rate (slot_of_labels m rate labels)) labels
unfolding slot_of_labels_number
labels_slot_labels m rate labels room h =
    let r = slot_labels_ready m rate labels room h in
    let b = labels_back slot_octets m (symbols_of m) (right_to_left m rate) (slot_whole m r.known) labels room (rw (slot_next m rate room (length labels) r.known r.rate) at h) in
    record { taken = slot_next m rate _ (length labels) r.known r.rate ∙ b.taken; same = b.same }

-- the labels of two slots are equal exactly where the slots are
pub slots_equal : (m rate : ℕ) → modulation_ok m ≡ true → (xs ys : List ℕ) → length xs ≡ slot_octets → length ys ≡ slot_octets → Octets xs → Octets ys
    → (labels_of_slot m rate xs ≡ labels_of_slot m rate ys) ↔ (xs ≡ ys)
slots_equal m rate h = labels_equal m (symbols_of m) (right_to_left m rate) slot_octets (slot_whole m h)

-- what a block call with number 0 had
pub block_ready : (x y : ℕ) → block_number x y ≡ 0 → Lengths block_octets block_labels x y
unfolding block_number
block_ready x y h = lengths block_octets block_labels x y h

pub block_labels_ready : (labels : List ℕ) (room : ℕ) → block_of_labels_number labels room ≡ 0 → Lengths block_octets block_labels room (length labels)
unfolding block_of_labels_number
block_labels_ready labels room h = block_ready room (length labels) (then_zero (block_number room (length labels)) _ h).0

-- the labels of a block make the block again
pub block_labels_block : (block : List ℕ) (room : ℕ) → block_number (length block) room ≡ 0 → Octets block
    → BackAgain (block_of_labels_number (labels_of_block block) (length block)) (block_of_labels (labels_of_block block)) block
unfolding block_number block_of_labels_number
block_labels_block = octets_back block_octets 1 block_labels false refl

-- the block made of labels has these labels
pub labels_block_labels : (labels : List ℕ) (room : ℕ) → block_of_labels_number labels room ≡ 0
    → BackAgain (block_number (length (block_of_labels labels)) (length labels)) (labels_of_block (block_of_labels labels)) labels
unfolding block_number block_of_labels_number
labels_block_labels = labels_back block_octets 1 block_labels false refl

-- the labels of two blocks are equal exactly where the blocks are
pub blocks_equal : (xs ys : List ℕ) → length xs ≡ block_octets → length ys ≡ block_octets → Octets xs → Octets ys
    → (labels_of_block xs ≡ labels_of_block ys) ↔ (xs ≡ ys)
blocks_equal = labels_equal 1 block_labels false block_octets refl
