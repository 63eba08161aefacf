-- Laws of adding bits to sums, one step after another, and of the sums that this leaves in columns.
use Rattle.std.specs.Prelude.{◌≡◌, refl, List, ℕ, ◌+◌, ◌*◌, ◌%◌, ◌<◌, length, get_or, replicate}
use Rattle.std.proofs.Common.{ap, ◌∙◌, zero-add, arith}
use Rattle.std.proofs.lemmas.List.{length-replicate, get_or-replicate}
use Rattle.lists.specs.Count.{sum, table}
use Rattle.lists.specs.CountLaws.{sum_more}
use Rattle.parity_table.specs.Tables.{positions}
use Rattle.ldpc.specs.Parity.{spacing, running}
use Rattle.ldpc.specs.Stepping.{times_stepped, parity_stepped}
use Rattle.ldpc.proofs.SteppedParityLaws.{parity_stepped_is}
use Rattle.ldpc.specs.Columns.{across, sum_at}
use Rattle.ldpc.proofs.ColumnLaws.{place_below, across_back}
use Rattle.ldpc.specs.Needs.{Added, AddedBySteps}

-- nothing is added yet
pub added_none : (s : List ℕ) (f : ℕ → ℕ) → ((j : ℕ) → f j ≡ 0) → Added s s f
added_none s f z = record { same = refl; at = λ j h. omega (arith, z j) }

sum_then : (x y z f g : ℕ) → x % 2 ≡ (y + f) % 2 → z % 2 ≡ (x + g) % 2 → z % 2 ≡ (y + (f + g)) % 2
sum_then x y z f g d e = omega arith

-- one sum after another
pub added_then : (s₀ s s' : List ℕ) (f g h : ℕ → ℕ) → Added s₀ s f → Added s s' g → ((j : ℕ) → h j ≡ f j + g j) → Added s₀ s' h
added_then s₀ s s' f g h a b e = record {
  same = b.same ∙ a.same;
  at = λ j l. rw (e j) (sum_then (get_or s j 0) (get_or s₀ j 0) (get_or s' j 0) (f j) (g j) (a.at j l) (b.at j (omega (arith, a.same))));
}

-- in the columns, the sum of a position has added to it what the position is reached by
pub added_at : (q : ℕ) (s₀ s : List ℕ) (f : ℕ → ℕ) → length s₀ ≡ 374 * q → Added s₀ s (λ n. f (across q 374 n))
    → (p : ℕ) → p < 374 * q → sum_at q s p % 2 ≡ (sum_at q s₀ p + f p) % 2
added_at q s₀ s f l a p h =
    a.at (across 374 q p) (omega (arith, place_below q p h)) ∙ ap (λ (k : ℕ). (sum_at q s₀ p + f k) % 2) (across_back q p h)

-- the running sum, one position on
pub carry_more : (last x : ℕ) (f : ℕ → ℕ) (j : ℕ) → last ≡ sum j f % 2 → x % 2 ≡ f j % 2 → (last + x) % 2 ≡ sum (j + 1) f % 2
carry_more last x f j e h = omega (arith, sum_more j f)

-- the coder and the check: cleared, added to in columns by steps, summed up in the order of the positions
module _ (rows : ℕ) (t u columns₀ columns : List ℕ) (e : columns₀ ≡ replicate (positions rows) 0)
    (a : AddedBySteps rows t u columns₀ columns) where
  -- the sum of a position
  pub sum_at_law : (p : ℕ) → p < positions rows → sum_at (spacing rows) columns p % 2 ≡ times_stepped (spacing rows) t u rows p % 2
  sum_at_law p h =
      let l : length columns₀ ≡ positions rows = rw e (length-replicate {A = ℕ} (positions rows) 0) in
      let z : sum_at (spacing rows) columns₀ p ≡ 0 = rw e (get_or-replicate {A = ℕ} (positions rows) _ 0 0 (place_below (spacing rows) p h)) in
      added_at (spacing rows) columns₀ columns (times_stepped (spacing rows) t u rows) l a p h ∙ rw (z, zero-add)

  -- their running sums are the parity
  pub coded : (sums : List ℕ) → sums ≡ table (positions rows) (running (sum_at (spacing rows) columns)) → sums ≡ parity_stepped rows t u
  coded sums r =
      r ∙ parity_stepped_is rows t u (sum_at (spacing rows) columns) sum_at_law
