-- Rows of bits that come one after another, as whole chunks of 374, each with the row of the table that begins at s.
use Rattle.std.proofs.Common.{◌≡◌, sym, ap, ◌∙◌, ℕ, ◌+◌, ◌*◌, ◌-◌, ◌<◌, ◌≤◌, ◌++◌, List, length, take, drop, get_or, get_or-take, get_or-drop, arith, length-append, length-drop, drop_at}
use Rattle.std.proofs.lemmas.List.{take_at, drop-drop}
use Rattle.std.specs.declared.slice.ChunksExact.{ChunksExact}
use Rattle.std.specs.Slice.Iter.{chunks_exact_rest, chunks_exact_size}
use Rattle.lists.specs.Parts.{part}
use Rattle.lists.specs.PartLaws.{length_part}
use Rattle.parity_table.specs.Tables.{positions, row_start}
use Rattle.parity_table.specs.TableLaws.{Row, row_start_none, row_start_more, row_at}
use Rattle.ldpc.specs.Parity.{spacing}
use Rattle.ldpc.specs.Stepping.{row_stepped, times_stepped}
use Rattle.ldpc.specs.Columns.{across}
use Rattle.ldpc.specs.Needs.{Ready, RowReady, Added, AddedBySteps}
use Rattle.ldpc.proofs.SteppedParityLaws.{times_stepped_none, times_stepped_more, row_stepped_part}
use Rattle.ldpc.proofs.AddedLaws.{added_none, added_then}

-- the first r rows of u are added, the others are left, and row r of the table begins at s
pub record Adding (rows : ℕ) (t u found columns : List ℕ) (s : ℕ) (left : ChunksExact ℕ) : Type 0 where
  pub r : ℕ
  pub within : r ≤ rows
  pub start : s ≡ row_start t r
  pub by : chunks_exact_size left ≡ 374
  pub left_is : chunks_exact_rest left ≡ drop (374 * r) u
  pub adding : Added found columns (λ n. times_stepped (spacing rows) t u r (across (spacing rows) 374 n))

-- x is row r of the bits, v what follows it, and row r of the table stands at s
pub record Next (rows : ℕ) (t u x v : List ℕ) (r s : ℕ) : Type 0 where
  pub more : r + 1 ≤ rows
  pub long : length x ≡ 374
  pub bits : x ≡ part (374 * r) (374 * r + 374) u
  pub left : v ≡ drop (374 * (r + 1)) u
  pub row : Row (positions rows) t s

module _ (rows : ℕ) (t u found : List ℕ) where
  pub adding_none : (left : ChunksExact ℕ) → chunks_exact_size left ≡ 374 → chunks_exact_rest left ≡ u → Adding rows t u found found 0 left
  adding_none left b e = record {
    r = 0;
    within = omega arith;
    start = sym (row_start_none t);
    by = b;
    left_is = e;
    adding = added_none found _ (λ n. times_stepped_none (spacing rows) t u (across (spacing rows) 374 n));
  }

  pub next : (columns x v c : List ℕ) (s : ℕ) (left : ChunksExact ℕ) → Ready rows t u c → (a : Adding rows t u found columns s left)
      → chunks_exact_rest left ≡ x ++ v → length x ≡ chunks_exact_size left → Next rows t u x v a.r s
  next columns x v c s left h a d l =
      let r = a.r in
      let f : drop (374 * r) u ≡ x ++ v = sym a.left_is ∙ d in
      let o : length x ≡ 374 = l ∙ a.by in
      let m : r + 1 ≤ rows = omega (arith, ap length f, length-append x v, length-drop (374 * r) u, h.long) in
      let n : 374 * r + 374 - 374 * r ≡ 374 = omega arith in
      let k : 374 * (r + 1) ≡ 374 * r + 374 = omega arith in
      record {
        more = m;
        long = o;
        bits = sym (rw n (ap (take 374) f ∙ take_at x v 374 o));
        left = sym (rw k (sym (drop-drop 374 (374 * r) u) ∙ ap (drop 374) f ∙ drop_at x v 374 o));
        row = row_at rows t h.ok r s (omega arith) a.start;
      }

  -- one row more is added through the addresses that follow its count
  pub adding_more : (columns columns' x : List ℕ) (s n : ℕ) (left left' : ChunksExact ℕ) → (a : Adding rows t u found columns s left) → length u ≡ 374 * rows
      → Next rows t u x (chunks_exact_rest left') a.r s → chunks_exact_size left' ≡ chunks_exact_size left → n ≡ get_or t s 0
      → Added columns columns' (λ k. row_stepped (spacing rows) (part (s + 1) (s + 1 + n) t) x 0 (length (part (s + 1) (s + 1 + n) t)) 0 (across (spacing rows) 374 k))
      → Adding rows t u found columns' (s + 1 + n) left'
  adding_more columns columns' x s n left left' a l w b e d =
      let r = a.r in
      let h : s + 1 + n ≤ length t = omega (arith, w.row) in
      let c : length (part (s + 1) (s + 1 + n) t) ≡ n = length_part (s + 1) (s + 1 + n) t h ∙ omega arith in
      record {
        r = r + 1;
        within = w.more;
        start = omega (arith, row_start_more t r, ap (λ (k : ℕ). get_or t k 0) a.start);
        by = b ∙ a.by;
        left_is = w.left;
        adding = added_then found columns columns' _ _ _ a.adding d (λ k.
            let j = across (spacing rows) 374 k in
            times_stepped_more (spacing rows) t u j r s a.start
            ∙ ap (λ (i : ℕ). times_stepped (spacing rows) t u r j + i)
            (rw (c, w.bits, ← e) (row_stepped_part (spacing rows) t u (s + 1) n (374 * r) j h (omega (arith, w.more)))));
      }

  -- no whole row is left
  pub adding_all : (columns : List ℕ) (s : ℕ) (left : ChunksExact ℕ) → Adding rows t u found columns s left → length u ≡ 374 * rows
      → length (chunks_exact_rest left) < chunks_exact_size left → AddedBySteps rows t u found columns
  adding_all columns s left a l h =
      let e : a.r ≡ rows = omega (arith, ap length a.left_is, length-drop (374 * a.r) u, a.by, a.within) in
      rw e at a.adding

-- an address of an accepted row is a position
pub row_below : (m s a e k : ℕ) (t : List ℕ) → Row m t s → s + 1 ≤ a → e ≤ s + 1 + get_or t s 0 → k < length (part a e t) → get_or (part a e t) k 0 < m
row_below m s a e k t w b l h =
    let d = length_part a e t (omega (arith, w)) in
    let o : s + 1 + (a - (s + 1) + k) ≡ a + k = omega arith in
    let g : get_or (part a e t) k 0 ≡ get_or t (a + k) 0 = get_or-take (e - a) (drop a t) k 0 (omega arith) ∙ get_or-drop a t k 0 in
    rw (g, ← o) (w.below (a - (s + 1) + k) (omega arith))

-- a row's addresses, and its bits, for columns of the length of the sums
pub row_ready : (rows s a e : ℕ) (t x columns c u : List ℕ) → Ready rows t u c → Row (positions rows) t s → s + 1 ≤ a → e ≤ s + 1 + get_or t s 0
    → length x ≡ 374 → length columns ≡ length c → RowReady (spacing rows) (part a e t) x columns
row_ready rows s a e t x columns c u h w b l m p = record {
  some = omega (arith, h.rate.few);
  below = λ k j. row_below (positions rows) s a e k t w b l j;
  bits = m;
  places = p ∙ h.room;
}
