-- Laws of rates and modulations.
use Rattle.std.specs.Prelude.{◌≡◌, refl, Bool, true, ◌&&◌, [], ◌∷◌, ℕ, ◌+◌, ◌-◌, ◌*◌, ◌/◌, ◌%◌, ◌≤◌, ◌<◌, leb, eqb}
use Rattle.std.proofs.Common.{ap, ◌∙◌, mul_assoc, mul_right_comm, arith, leb-true, eqb-true}
use Rattle.std.proofs.Math.Decide.{dec_lt}
use Rattle.std.proofs.Math.ListN.{get_or-eq_default}
use Rattle.lists.specs.ChoiceLaws.{and_left, and_right}
use Rattle.lists.specs.Count.{every, table}
use Rattle.lists.specs.CountLaws.{every_at}
use Rattle.plan.specs.Sizes.{slot_bits}
use Rattle.plan.specs.Rates.{rate_ok, row_counts, rows_of, data_bits_of, data_octets_of, packets_of, modulation_ok, symbols_of}
use Rattle.plan.specs.Needs.{Rows, Between}

pub between : (a b n : ℕ) → (leb a n && leb n b) ≡ true → Between a b n
between a b n h = record { low = leb-true a n (and_left (leb a n) _ h); high = leb-true n b (and_right (leb a n) _ h) }

-- a test of every number from 1 to n, computed, holds of each
each : (n : ℕ) (f : ℕ → Bool) → every n (λ k. f (k + 1)) ≡ true → (m : ℕ) → 1 ≤ m → m ≤ n → f m ≡ true
each n f t m l h = let e : m - 1 + 1 ≡ m = omega arith in rw e at (every_at n (λ k. f (k + 1)) t (m - 1) (omega arith))

rows_right : ℕ → Bool
rows_right r = leb 41 (rows_of r) && (leb (rows_of r) 109 && eqb (rows_of r % 4) 1)

pub rate_rows : (r : ℕ) → rate_ok r ≡ true → Rows (rows_of r)
unfolding every rows_of rows_right
rate_rows r h =
    let b = between 1 11 r h in
    let t = each 11 rows_right refl r b.low b.high in
    let u = and_right (leb 41 (rows_of r)) _ t in
    record {
      low = leb-true 41 (rows_of r) (and_left (leb 41 (rows_of r)) _ t);
      high = leb-true (rows_of r) 109 (and_left (leb (rows_of r) 109) _ u);
      fours = eqb-true (rows_of r % 4) 1 (and_right (leb (rows_of r) 109) _ u);
    }

-- no rate has more than 109 rows
pub rows_most : (r : ℕ) → rows_of r ≤ 109
unfolding rows_of every
rows_most r = go (dec_lt r 12)
  where
    go : Dec (r < 12) → rows_of r ≤ 109
    go (yes l) = leb-true (rows_of r) 109 (every_at 12 (λ k. leb (rows_of k) 109) refl r l)
    go (no l) = omega (arith, get_or-eq_default row_counts 0 {n = r} (omega arith))

-- what the data octets and packets of a known rate make
pub record Sizes (r : ℕ) : Type 0 where
  pub octets : data_bits_of r ≡ 8 * data_octets_of r
  pub packed : data_octets_of r ≡ 187 * packets_of r
  pub fours : 4 * packets_of r + 1 ≡ rows_of r

pub rate_sizes : (r : ℕ) → rate_ok r ≡ true → Sizes r
unfolding data_bits_of data_octets_of packets_of
rate_sizes r h =
    let w = rate_rows r h in
    let k = rows_of r / 4 in
    let e : rows_of r - 1 ≡ 4 * k = omega arith in
    record { octets = rw e (omega arith); packed = rw e (omega arith); fours = rw e (omega arith) }

-- "10, 12, 15, 18, 20, 22, 23, 24, 25, 26 or 27 packets"
pub packet_counts : table 12 packets_of ≡ 0 ∷ 10 ∷ 12 ∷ 15 ∷ 18 ∷ 20 ∷ 22 ∷ 23 ∷ 24 ∷ 25 ∷ 26 ∷ 27 ∷ []
unfolding table packets_of data_octets_of data_bits_of rows_of
packet_counts = refl

-- the symbols of as many slots as a symbol has bits
pub symbols_whole : (m : ℕ) → modulation_ok m ≡ true → m * symbols_of m ≡ slot_bits
unfolding every
symbols_whole m h =
    let b = between 1 5 m h in
    eqb-true (m * symbols_of m) slot_bits (each 5 (λ k. eqb (k * symbols_of k) slot_bits) refl m b.low b.high)

-- "The data slots of each five planned for one modulation hold 44,880 symbols in all"
pub five_hold : (m n : ℕ) → modulation_ok m ≡ true → n % 5 ≡ 0 → n * m / 5 * symbols_of m ≡ n / 5 * slot_bits
five_hold m n h f =
    let k = n / 5 in
    let e : n ≡ k * 5 = omega arith in
    let t : n * m ≡ k * m * 5 = ap (λ (x : ℕ). x * m) e ∙ mul_right_comm k 5 m in
    let d : n * m / 5 ≡ k * m = omega arith in
    ap (λ (x : ℕ). x * symbols_of m) d ∙ mul_assoc k m (symbols_of m) ∙ ap (λ (x : ℕ). k * x) (symbols_whole m h)
