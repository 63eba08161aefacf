-- What the calls hand to the work, and what they make of its answer, once their number is 0.
use mathlib.Core.Path.{◌≡◌, refl, sym, ap, ◌∙◌}
use mathlib.Core.Bool.{Bool}
use mathlib.Core.List.{List}
use Prim.Native.Nat.{ℕ, ◌*◌, ◌≤◌}
use native.Mathlib.Nat.{div-le_self}
use native.Mathlib.Omega.{arith}
use lib.ListN.{length}
use Rattle.plan.specs.Sizes.{slot_bits, slot_octets, block_bits, block_octets}
use Rattle.plan.specs.Rates.{symbols_of}
use Rattle.plan.specs.Needs.{Between}
use Rattle.plan.proofs.RateLaws.{between}
use Rattle.symbols.specs.CallLaws.{Lengths, SlotReady, slot_whole}
use Rattle.symbols.specs.Labels.{block_labels, labels_of_octets, octets_of_labels}
use Rattle.symbols.specs.Needs.{Areas}

-- the areas of n octets and s labels of m bits, with an area for the bits
pub areas : (n m s : ℕ) (octets run labels : List ℕ) → Between 1 5 m → 8 * n ≡ m * s → s ≤ slot_bits → Lengths n s (length octets) (length labels)
    → length run ≡ 8 * n → Areas m octets run labels
areas n m s octets run labels b whole few l r =
    record {
      eights = r ∙ ap (λ (k : ℕ). 8 * k) (sym l.octets);
      shared = record { known = b; long = r ∙ whole ∙ ap (λ (k : ℕ). m * k) (sym l.labels); few = omega (arith, l.labels) };
    }

pub slot_areas : (m rate i : ℕ) (slot run labels : List ℕ) → SlotReady m rate (length slot) (length labels) → i ≡ m → length run ≡ slot_bits → Areas i slot run labels
slot_areas m rate i slot run labels h e r =
    rw e (areas slot_octets m (symbols_of m) slot run labels (between 1 5 m h.known) (slot_whole m h.known) (div-le_self slot_bits m) h.lengths r)

pub block_areas : (block run labels : List ℕ) → Lengths block_octets block_labels (length block) (length labels) → length run ≡ block_bits → Areas 1 block run labels
block_areas block run labels l r = areas block_octets 1 block_labels block run labels (record { low = omega arith; high = omega arith }) refl (omega arith) l r

-- the labels, and the octets, that the work left, by the names that the call has for what they are made with
pub labels_left : (m i s j : ℕ) (b d : Bool) (octets left : List ℕ) → left ≡ labels_of_octets i j d octets → i ≡ m → j ≡ s → d ≡ b
    → left ≡ labels_of_octets m s b octets
labels_left m i s j b d octets left e p q r = cc

pub octets_left : (n k m i s j : ℕ) (b d : Bool) (labels left : List ℕ) → left ≡ octets_of_labels k i j d labels → k ≡ n → i ≡ m → j ≡ s → d ≡ b
    → left ≡ octets_of_labels n m s b labels
octets_left n k m i s j b d labels left e o p q r = cc
