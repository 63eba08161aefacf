-- The sum of a list as the sum over its places.
use Rattle.std.specs.Prelude.{◌≡◌, List, ℕ, zero, suc, ◌+◌, ◌≤◌, ◌<◌, length, get_or, take}
use Rattle.std.specs.List.{sum}
use Rattle.std.proofs.Common.{◌∙◌, sym, ap, add-one, arith, take_all}
use Rattle.std.proofs.lemmas.List.Sums.{sum_by_more}
use Rattle.lists.specs.Count as Count
use Rattle.lists.specs.CountLaws.{sum_none, sum_more}

sum_first : (n : ℕ) (u : List ℕ) → n ≤ length u → sum (take n u) ≡ Count.sum n (λ k. get_or u k 0)
sum_first zero u h = sym (sum_none _)
sum_first (suc n) u h =
    let l : n < length u = omega arith in
    rw (← add-one n)
    (sum_by_more (λ x. x) u n 0 l
    ∙ ap (λ (x : ℕ). x + get_or u n 0) (sum_first n u (omega arith))
    ∙ sym (sum_more n (λ k. get_or u k 0)))

pub sum_places : (u : List ℕ) → sum u ≡ Count.sum (length u) (λ k. get_or u k 0)
sum_places u = ap sum (sym (take_all (length u) u (omega arith))) ∙ sum_first (length u) u (omega arith)
