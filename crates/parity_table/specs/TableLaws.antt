-- Laws of parity tables: what acceptance says, and a table at the head of a longer list.
use Rattle.std.specs.Prelude.{◌≡◌, Bool, false, ◌&&◌, List, ◌++◌, eqb, ltb, leb, length, take}
use Rattle.std.proofs.Math.Path.{refl, ap}
use Rattle.std.proofs.Common.{sym, ◌∙◌, add-one, arith, length-append, length-take-le, get_or-take}
use Rattle.std.proofs.Math.Bool.{true, not}
use Prim.Native.Nat.{ℕ, zero, suc, ◌+◌, ◌-◌, ◌<◌, ◌≤◌}
use borrow.Author.Tests.{lt-ltb, le-leb, eq-eqb, ne_eqb, ltb-true, leb-true, eqb-true}
use Rattle.std.proofs.Math.ListN.{get_or, get_or-append}
use Rattle.lists.specs.ChoiceLaws.{and_left, and_right, and_both, false_of, clash, same_test}
use Rattle.lists.specs.Count.{every}
use Rattle.lists.specs.CountLaws.{every_at, every_all}
use Rattle.parity_table.specs.Tables.{positions, row_start, address_ok, row_ok, rows_ok, table_ok, table_length}

pub row_start_none : (t : List ℕ) → row_start t 0 ≡ 0
unfolding row_start
row_start_none t = refl

pub row_start_more : (t : List ℕ) (r : ℕ) → row_start t (r + 1) ≡ row_start t r + 1 + get_or t (row_start t r) 0
unfolding row_start
row_start_more t r = rw add-one

start_le : (t : List ℕ) (r d : ℕ) → row_start t r ≤ row_start t (r + d)
start_le t r zero = let e : r + zero ≡ r = omega arith in rw e (omega arith)
start_le t r (suc d) = let e : r + suc d ≡ r + d + 1 = omega arith in rw e (omega (arith, row_start_more t (r + d), start_le t r d))

pub start_mono : (t : List ℕ) (r n : ℕ) → r ≤ n → row_start t r ≤ row_start t n
start_mono t r n h = let e : r + (n - r) ≡ n = omega arith in rw e at (start_le t r (n - r))

-- what an accepted row says
pub record Row (m : ℕ) (t : List ℕ) (s : ℕ) : Type 0 where
  pub here : s < length t
  pub some : 1 ≤ get_or t s 0
  pub few : get_or t s 0 ≤ 16
  pub whole : s + 1 + get_or t s 0 ≤ length t
  pub below : (i : ℕ) → i < get_or t s 0 → get_or t (s + 1 + i) 0 < m
  pub different : (k i : ℕ) → k < i → i < get_or t s 0 → get_or t (s + 1 + k) 0 ≡ get_or t (s + 1 + i) 0 → ⊥

module _ (m : ℕ) (t : List ℕ) (from i : ℕ) where
  pub address_yes : get_or t (from + i) 0 < m → ((k : ℕ) → k < i → get_or t (from + k) 0 ≡ get_or t (from + i) 0 → ⊥) → address_ok m t from i ≡ true
  unfolding address_ok
  address_yes h d =
      and_both _ _ (lt-ltb _ _ h) (every_all i _ (λ k l. ap not (ne_eqb (get_or t (from + k) 0) (get_or t (from + i) 0) (d k l))))

  pub address_below : address_ok m t from i ≡ true → get_or t (from + i) 0 < m
  unfolding address_ok
  address_below h = ltb-true (get_or t (from + i) 0) m (and_left _ _ h)

  pub address_new : address_ok m t from i ≡ true → (k : ℕ) → k < i → get_or t (from + k) 0 ≡ get_or t (from + i) 0 → ⊥
  unfolding address_ok
  address_new h k l e =
      clash _ (ap not (eq-eqb (get_or t (from + k) 0) (get_or t (from + i) 0) e)) (every_at i _ (and_right (ltb (get_or t (from + i) 0) m) _ h) k l)

module _ (m : ℕ) (t : List ℕ) (s : ℕ) where
  pub row_yes : Row m t s → row_ok m t s ≡ true
  unfolding row_ok
  row_yes r =
      let a : every (get_or t s 0) (address_ok m t (s + 1)) ≡ true
      = every_all (get_or t s 0) (address_ok m t (s + 1)) (λ i h. address_yes m t (s + 1) i (r.below i h) (λ k l. r.different k i l h)) in
      simp (lt-ltb _ _ r.here, le-leb _ _ r.some, le-leb _ _ r.few, le-leb _ _ r.whole, a)

  -- a row of accepted addresses
  pub row_made : s < length t → 1 ≤ get_or t s 0 → get_or t s 0 ≤ 16 → s + 1 + get_or t s 0 ≤ length t
      → ((i : ℕ) → i < get_or t s 0 → address_ok m t (s + 1) i ≡ true) → Row m t s
  row_made h n f w a = record {
    here = h;
    some = n;
    few = f;
    whole = w;
    below = λ i l. address_below m t (s + 1) i (a i l);
    different = λ k i j l. address_new m t (s + 1) i (a i l) k j;
  }

  pub row_of : row_ok m t s ≡ true → Row m t s
  unfolding row_ok
  row_of h =
      let h₁ = and_right (ltb s (length t)) _ h in
      let h₂ = and_right (leb 1 (get_or t s 0)) _ h₁ in
      let h₃ = and_right (leb (get_or t s 0) 16) _ h₂ in
      let h₄ = and_right (leb (s + 1 + get_or t s 0) (length t)) _ h₃ in
      row_made
      (ltb-true _ _ (and_left _ _ h))
      (leb-true _ _ (and_left _ _ h₁))
      (leb-true _ _ (and_left _ _ h₂))
      (leb-true _ _ (and_left _ _ h₃))
      (every_at (get_or t s 0) (address_ok m t (s + 1)) h₄)

  pub row_no : (Row m t s → ⊥) → row_ok m t s ≡ false
  row_no h = false_of (row_ok m t s) (λ e. h (row_of e))

-- the rows at the head of a list
module _ (rows : ℕ) (t : List ℕ) where
  pub rows_at_law : rows_ok rows t ≡ true → (r : ℕ) → r < rows → Row (positions rows) t (row_start t r)
  unfolding rows_ok
  rows_at_law h r l = row_of (positions rows) t (row_start t r) (every_at rows _ h r l)

  pub rows_all : ((r : ℕ) → r < rows → Row (positions rows) t (row_start t r)) → rows_ok rows t ≡ true
  unfolding rows_ok
  rows_all h = every_all rows _ (λ r l. row_yes (positions rows) t (row_start t r) (h r l))

  pub rows_no : (r : ℕ) → r < rows → row_ok (positions rows) t (row_start t r) ≡ false → rows_ok rows t ≡ false
  rows_no r l f = false_of (rows_ok rows t) (λ e. clash _ f (row_yes (positions rows) t (row_start t r) (rows_at_law e r l)))

  -- a row ends where the next begins, in the list
  pub row_ends : rows_ok rows t ≡ true → (r : ℕ) → r < rows → (row_start t r < row_start t (r + 1)) × (row_start t (r + 1) ≤ length t)
  row_ends h r l = let w = rows_at_law h r l in omega (arith, row_start_more t r)

  pub rows_within : rows_ok rows t ≡ true → (r : ℕ) → r ≤ rows → row_start t r ≤ length t
  rows_within h zero l = omega (arith, row_start_none t)
  rows_within h (suc r) l = omega (arith, row_ends h r l, ap (row_start t) (add-one r))

  pub table_rows : table_ok rows t ≡ true → rows_ok rows t ≡ true
  unfolding table_ok
  table_rows h = and_left (rows_ok rows t) _ h

  pub table_ends : table_ok rows t ≡ true → row_start t rows ≡ length t
  unfolding table_ok
  table_ends h = eqb-true (row_start t rows) (length t) (and_right (rows_ok rows t) _ h)

  pub table_yes : rows_ok rows t ≡ true → row_start t rows ≡ length t → table_ok rows t ≡ true
  unfolding table_ok
  table_yes h e = and_both (rows_ok rows t) _ h (eq-eqb (row_start t rows) (length t) e)

  -- the row of an accepted table that begins at s
  pub row_at : table_ok rows t ≡ true → (r s : ℕ) → r < rows → s ≡ row_start t r → Row (positions rows) t s
  row_at h r s l e = rw e (rows_at_law (table_rows h) r l)

  pub table_length_yes : rows_ok rows t ≡ true → table_length rows t ≡ row_start t rows
  unfolding table_length
  table_length_yes h = rw h

  pub table_length_no : rows_ok rows t ≡ false → table_length rows t ≡ 0
  unfolding table_length
  table_length_no h = rw h

  pub table_length_within : table_length rows t ≤ length t
  table_length_within = go (rows_ok rows t) refl
    where
      go : (b : Bool) → rows_ok rows t ≡ b → table_length rows t ≤ length t
      go true e = rw (table_length_yes e) (rows_within e rows (omega arith))
      go false e = rw (table_length_no e) (omega arith)

  -- where the length is not 0, a table stands at the head
  pub table_length_rows : (table_length rows t ≡ 0 → ⊥) → rows_ok rows t ≡ true
  table_length_rows h = go (rows_ok rows t) refl
    where
      go : (b : Bool) → rows_ok rows t ≡ b → rows_ok rows t ≡ true
      go true e = e
      go false e = absurd (h (table_length_no e))

  -- a table of at least one row is not empty
  pub table_length_some : 1 ≤ rows → rows_ok rows t ≡ true → table_length rows t ≡ 0 → ⊥
  table_length_some l h z =
      let n : rows - 1 + 1 ≡ rows = omega arith in
      omega (arith, row_ends h (rows - 1) (omega arith), ap (row_start t) n, table_length_yes h)

  -- an accepted table is one that fills its list
  pub table_length_all : 1 ≤ rows → table_ok rows t ≡ (not (eqb (table_length rows t) 0) && eqb (table_length rows t) (length t))
  table_length_all l = same_test (table_ok rows t) _ there back
    where
      there : table_ok rows t ≡ true → (not (eqb (table_length rows t) 0) && eqb (table_length rows t) (length t)) ≡ true
      there h =
          let r = table_rows h in
          and_both _ _ (ap not (ne_eqb _ 0 (table_length_some l r))) (eq-eqb _ _ (table_length_yes r ∙ table_ends h))

      some : (n : ℕ) → not (eqb n 0) ≡ true → n ≡ 0 → ⊥
      some n h z = clash _ (ap not (eq-eqb n 0 z)) h

      back : (not (eqb (table_length rows t) 0) && eqb (table_length rows t) (length t)) ≡ true → table_ok rows t ≡ true
      back h =
          let r = table_length_rows (some (table_length rows t) (and_left _ _ h)) in
          table_yes r (sym (table_length_yes r) ∙ eqb-true _ _ (and_right (not (eqb (table_length rows t) 0)) _ h))

-- what two lists have in common that agree up to n
module _ (t v : List ℕ) (n : ℕ) (here : n ≤ length v) (agree : (k : ℕ) → k < n → get_or v k 0 ≡ get_or t k 0) where
  row_moves : (m s : ℕ) → Row m t s → s + 1 + get_or t s 0 ≤ n → Row m v s
  row_moves m s r l =
      let c : get_or v s 0 ≡ get_or t s 0 = agree s (omega arith) in
      let a : (i : ℕ) → i < get_or t s 0 → get_or v (s + 1 + i) 0 ≡ get_or t (s + 1 + i) 0 = λ i h. agree (s + 1 + i) (omega arith) in
      record {
        here = omega arith;
        some = rw c r.some;
        few = rw c r.few;
        whole = rw c (omega arith);
        below = λ i h. let j : i < get_or t s 0 = rw c at h in rw (a i j) (r.below i j);
        different = λ k i h d e.
            let j : i < get_or t s 0 = rw c at d in
            r.different k i h j (sym (a k (omega arith)) ∙ e ∙ a i j);
      }

  start_moves : (r : ℕ) → row_start t r ≤ n → row_start v r ≡ row_start t r
  unfolding row_start
  start_moves zero l = refl
  start_moves (suc r) l =
      let e = start_moves r (omega arith) in
      rw (e, agree (row_start t r) (omega arith))

  rows_move : (rows : ℕ) → rows_ok rows t ≡ true → row_start t rows ≤ n → rows_ok rows v ≡ true
  rows_move rows h l =
      rows_all rows v (λ r j.
      let b = start_mono t (r + 1) rows (omega arith) in
      let w : row_start t r + 1 + get_or t (row_start t r) 0 ≤ n = omega (arith, row_start_more t r) in
      rw (start_moves r (omega arith)) (row_moves (positions rows) (row_start t r) (rows_at_law rows t h r j) w))

  table_length_moves : (rows : ℕ) → rows_ok rows t ≡ true → row_start t rows ≤ n → table_length rows v ≡ row_start t rows
  table_length_moves rows h l = table_length_yes rows v (rows_move rows h l) ∙ start_moves rows l

-- a table stays accepted, at its length, when anything follows
pub table_length_append : (rows : ℕ) (t rest : List ℕ) → table_ok rows t ≡ true → table_length rows (t ++ rest) ≡ length t
table_length_append rows t rest h =
    let l : length t ≤ length (t ++ rest) = rw length-append (omega arith) in
    table_length_moves t (t ++ rest) (length t) l (λ k j. get_or-append t rest 0 k j) rows (table_rows rows t h) (omega (arith, table_ends rows t h))
    ∙ table_ends rows t h

-- the table at the head of a list is an accepted table
pub table_head : (rows : ℕ) (list : List ℕ) → (table_length rows list ≡ 0 → ⊥) → table_ok rows (take (table_length rows list) list) ≡ true
table_head rows list h =
    let o = table_length_rows rows list h in
    let w = table_length_within rows list in
    let n : ℕ = table_length rows list in
    let e : n ≡ row_start list rows = table_length_yes rows list o in
    let l : length (take n list) ≡ n = length-take-le n list w in
    let agree : (k : ℕ) → k < n → get_or (take n list) k 0 ≡ get_or list k 0 = λ k j. get_or-take n list k 0 j in
    table_yes rows (take n list)
    (rows_move list (take n list) n (omega arith) agree rows o (omega arith))
    (start_moves list (take n list) n (omega arith) agree rows (omega arith) ∙ sym e ∙ sym l)
