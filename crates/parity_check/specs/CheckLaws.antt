-- Laws of the check: what its answer says, and the places of the positions that it passes.
use Rattle.std.specs.Prelude.{◌≡◌, ◌↔◌, false, List, ℕ, ◌+◌, ◌*◌, ◌%◌, ◌/◌, ◌<◌, ◌≤◌, eqb, length, get_or}
use Rattle.std.proofs.Common.{sym, ◌∙◌, mod-lt, mod-eq_of_lt, div-lt_iff_lt-mul, mul-add, arith, le-leb, eq-eqb, ne_eqb, ext_get_or}
use Rattle.std.proofs.Math.Path.{ap}
use Rattle.std.proofs.Math.Bool.{not}
use Rattle.std.proofs.Math.Nat.{div-eq_of_lt, div-add-mod}
use Rattle.std.proofs.Math.Decide.{ℕ_discrete, dec_lt}
use Rattle.std.proofs.lemmas.Bool.{lt-leb}
use Rattle.lists.specs.ChoiceLaws.{clash}
use Rattle.lists.specs.CountLaws.{first_first, first_is}
use Rattle.parity_table.specs.Tables.{positions}
use Rattle.ldpc.specs.Parity.{parity_of}
use Rattle.ldpc.proofs.ParityLaws.{length_parity_of}
use Rattle.ldpc.specs.Columns.{across}
use Rattle.ldpc.proofs.ColumnLaws.{across_at}
use Rattle.parity_check.specs.Check.{lowest_wrong, next_place}

-- position 0 stands at place 0
pub place_none : (q : ℕ) → 0 < q → across 374 q 0 ≡ 0
place_none q z = omega (arith, mod-eq_of_lt z, div-eq_of_lt z)

-- and a step on is that of the next position
pub place_next : (q edge p : ℕ) → edge + 374 ≡ 374 * q → p < 374 * q → next_place edge (across 374 q p) ≡ across 374 q (p + 1)
place_next q edge p w h =
    let z : 0 < q = omega arith in
    go ((div-lt_iff_lt-mul z).1 h) (div-add-mod p q) (mod-lt p z) (dec_lt (p % q + 1) q)
  where
    go : p / q < 374 → q * (p / q) + p % q ≡ p → p % q < q → Dec (p % q + 1 < q) → next_place edge (across 374 q p) ≡ across 374 q (p + 1)
    go b e r (yes l) =
        let n : p + 1 ≡ q * (p / q) + (p % q + 1) = omega arith in
        rw (lt-leb edge (across 374 q p) (omega arith), n) (omega (arith, across_at 374 q (p / q) (p % q + 1) l))
    go b e r (no l) =
        let n : p + 1 ≡ q * (p / q + 1) + 0 = omega (arith, mul-add q (p / q) 1) in
        rw (le-leb edge (across 374 q p) (omega arith), n) (omega (arith, across_at 374 q (p / q + 1) 0 (omega arith)))

module _ (rows : ℕ) (t u received : List ℕ) where
  -- what makes r the answer of the check
  pub lowest_wrong_is : (r : ℕ) → r ≤ positions rows
      → ((j : ℕ) → j < r → get_or (parity_of rows t u) j 0 ≡ get_or received j 0)
      → (r < positions rows → get_or (parity_of rows t u) r 0 ≡ get_or received r 0 → ⊥)
      → lowest_wrong rows t u received ≡ r
  unfolding lowest_wrong
  lowest_wrong_is r w b n =
      first_is (positions rows) _ r
      (record {
        within = w;
        before = λ j h. ap not (eq-eqb (get_or (parity_of rows t u) j 0) (get_or received j 0) (b j h));
        there = λ h. ap not (ne_eqb (get_or (parity_of rows t u) r 0) (get_or received r 0) (n h));
      })

  alike : (a b : ℕ) → not (eqb a b) ≡ false → a ≡ b
  alike a b h = go (ℕ_discrete a b)
    where
      go : Dec (a ≡ b) → a ≡ b
      go (yes e) = e
      go (no n) = absurd (clash _ h (ap not (ne_eqb a b n)))

  -- the bits below the answer are right
  pub lowest_wrong_before : (j : ℕ) → j < lowest_wrong rows t u received → get_or (parity_of rows t u) j 0 ≡ get_or received j 0
  unfolding lowest_wrong
  lowest_wrong_before j h =
      alike (get_or (parity_of rows t u) j 0) (get_or received j 0) ((first_first (positions rows) (λ j. not (eqb (get_or (parity_of rows t u) j 0) (get_or received j 0)))).before j h)

  -- and the one at the answer, where it is no M, is wrong
  pub lowest_wrong_there : lowest_wrong rows t u received < positions rows
      → get_or (parity_of rows t u) (lowest_wrong rows t u received) 0 ≡ get_or received (lowest_wrong rows t u received) 0 → ⊥
  unfolding lowest_wrong
  lowest_wrong_there h e =
      clash _ (ap not (eq-eqb _ _ e)) ((first_first (positions rows) (λ j. not (eqb (get_or (parity_of rows t u) j 0) (get_or received j 0)))).there h)

  pub lowest_wrong_within : lowest_wrong rows t u received ≤ positions rows
  unfolding lowest_wrong
  lowest_wrong_within = (first_first (positions rows) (λ j. not (eqb (get_or (parity_of rows t u) j 0) (get_or received j 0)))).within

  -- the check answers M exactly when the received parity is the parity
  pub lowest_wrong_none : length received ≡ positions rows → lowest_wrong rows t u received ≡ positions rows ↔ received ≡ parity_of rows t u
  lowest_wrong_none l = (
    (λ e.
        ext_get_or 0 received (parity_of rows t u) (l ∙ sym (length_parity_of rows t u))
        (λ j h. sym (lowest_wrong_before j (omega arith)))),
    (λ e. lowest_wrong_is (positions rows) (omega arith) (λ j h. ap (λ (x : List ℕ). get_or x j 0) (sym e)) (λ h. absurd (omega arith))),
  )
