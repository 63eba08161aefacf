-- `parity_table::row_ok`: each refusal contradicts what an accepted row says, and every address of the row is tested.
use Rattle.std.proofs.Common.{rules, ◌≡◌, sym, ◌∙◌, arith, ◌+◌, ◌<◌, length, ℕ, ◌-◌, ◌≤◌, Bool, List, get_or, refl}
use Rattle.std.proofs.lemmas.Bool.{leb-false}
use Rattle.std.proofs.lemmas.List.FromFn.{length-range_with_len, get_or-range_with_len}
use Rattle.std.proofs.lemmas.List.Sums.{AllPass-from_list_all, list_all-from_AllPass}
use Rattle.std.proofs.lemmas.Iterator.{YieldsList-from_range}
use Rattle.std.proofs.lemmas.Iterator.Search.{all_from_yields_List}
use Rattle.std.specs.List.{list_all, range_with_len}
use Rattle.lists.specs.ChoiceLaws.{same_test}
use Rattle.parity_table.specs.Tables.{address_ok, row_ok}
use Rattle.parity_table.specs.TableLaws.{address_yes, row_made, row_yes, row_no, row_of}
use Rattle.parity_table.proofs.row_ok.Goals as goal
use Rattle.parity_table.proofs.row_ok.Goals.{then-contains, else-contains}

checked : (m s count : ℕ) (t : List ℕ) (r : Bool) → s < length t → get_or t s 0 ≡ count → 1 ≤ count → count ≤ 16 → s + 1 + count ≤ length t
    → r ≡ list_all (address_ok m t (s + 1)) (range_with_len 0 count) → r ≡ row_ok m t s
checked m s count t r h c n f w e =
    let g = address_ok m t (s + 1) in
    let xs = range_with_len 0 count in
    let l : length xs ≡ count = length-range_with_len 0 count in
    same_test r (row_ok m t s)
    (λ y. row_yes m t s (row_made m t s h (omega arith) (omega arith) (omega arith)
    (λ i j. let b : get_or xs i 0 ≡ i = get_or-range_with_len 0 count i 0 (omega arith) ∙ omega arith in rw b at (AllPass-from_list_all g xs (sym e ∙ y) i 0 (omega arith)))))
    (λ y. e ∙ list_all-from_AllPass g xs (λ i d j.
    let o = row_of m t s y in
    let b : get_or xs i d ≡ i = get_or-range_with_len 0 count i d (omega arith) ∙ omega arith in
    rw b (address_yes m t (s + 1) i (o.below i (omega arith)) (λ k q. o.different k i q (omega arith)))))

pub returns-in_default : goal.returns-in_default
returns-in_default c =
    let a = c.args in
    let d = c.in_default.ensures in
    sym (row_no a.m a.table.now a.s (λ r. omega (arith, r.here)))

pub returns-then-count-table : goal.returns-then-count-table
returns-then-count-table c =
    let a = c.args in
    let d = c.in-Some.ensures.lookup in
    let n = c.from-count.result in
    let p : 1 ≤ n = elim c.if-contains.branch [ then-contains w ↦ search rules | else-contains w ↦ search rules ] in
    let q : n ≤ 16 = elim c.if-contains.branch [ then-contains w ↦ search rules | else-contains w ↦ search rules ] in
    let w : n ≤ length a.table.now - (a.s + 1) = elim c.if-contains.branch [ then-contains w ↦ search rules | else-contains w ↦ search rules ] in
    checked a.m a.s n a.table.now c.all.result (omega arith) (sym (d.3.1 0) ∙ sym c.from-count.ensures) p q (omega (arith, w))
    (all_from_yields_List (address_ok a.m a.table.now (a.s + 1)) _ _ _ c.all.ensures.ran (YieldsList-from_range 0 _ n refl (omega arith)) (λ x b q k. search rules))

pub returns-else-count-table : goal.returns-else-count-table
returns-else-count-table c =
    let a = c.args in
    let d = c.in-Some.ensures.lookup in
    let n = c.from-count.result in
    c.if-count-table.false ∙ sym (row_no a.m a.table.now a.s (λ r. elim c.if-contains.branch [ then-contains w ↦ omega (arith, d.3.1 0, c.from-count.ensures, leb-false _ _ (sym w.value-is ∙ c.if-count-table.false)) | else-contains w ↦ let h : 1 ≤ n = omega (arith, d.3.1 0, c.from-count.ensures) in let k : n ≤ 16 = omega (arith, d.3.1 0, c.from-count.ensures) in search rules ]))
