-- Laws of lists made of pieces: where each begins, each as a part of the whole, and a list as its pieces end to end.
use Rattle.std.specs.Prelude.{◌≡◌, List, ◌++◌, ℕ, zero, suc, ◌+◌, ◌-◌, ◌*◌, ◌<◌, ◌≤◌, length, take}
use Rattle.std.proofs.Common.{sym, ap, ◌∙◌, mul_comm, mul-zero, mul-le-mul_left, add-one, arith, take-add}
use Rattle.std.proofs.Math.Seq.{take-length}
use Rattle.lists.specs.Count.{joined}
use Rattle.lists.specs.CountLaws.{sum_each, joined_at, joined_part, length_joined}
use Rattle.lists.specs.Parts.{part}

-- piece k, where it is known that the pieces begin at `from`
pub pieces_cut : (n : ℕ) (f : ℕ → List ℕ) (from : ℕ → ℕ) → ((k : ℕ) → k ≤ n → joined_at f k ≡ from k) → (k : ℕ) → k < n → part (from k) (from (k + 1)) (joined n f) ≡ f k
pieces_cut n f from e k h = rw (← e k (omega arith), ← e (k + 1) (omega arith)) (joined_part n f k h)

pieces_take : (n : ℕ) (from : ℕ → ℕ) (xs : List ℕ) → from 0 ≡ 0 → ((k : ℕ) → k < n → from k ≤ from (k + 1)) → joined n (λ k. part (from k) (from (k + 1)) xs) ≡ take (from n) xs
unfolding joined
pieces_take zero from xs z up = ap (λ (k : ℕ). take k xs) (sym z)
pieces_take (suc n) from xs z up =
    let h = up n (omega arith) in
    let e : from n + (from (n + 1) - from n) ≡ from (n + 1) = omega arith in
    ap (λ (u : List ℕ). u ++ part (from n) (from (n + 1)) xs) (pieces_take n from xs z (λ k l. up k (omega arith)))
    ∙ sym (take-add (from n) (from (n + 1) - from n) xs)
    ∙ ap (λ (k : ℕ). take k xs) (e ∙ ap from (add-one n))

-- a list is its pieces end to end
pub pieces_all : (n : ℕ) (from : ℕ → ℕ) (xs : List ℕ) → from 0 ≡ 0 → ((k : ℕ) → k < n → from k ≤ from (k + 1)) → length xs ≡ from n
    → joined n (λ k. part (from k) (from (k + 1)) xs) ≡ xs
pieces_all n from xs z up l = pieces_take n from xs z up ∙ ap (λ (k : ℕ). take k xs) (sym l) ∙ take-length xs

-- pieces of w elements each
module _ (n w : ℕ) (f : ℕ → List ℕ) (each : (k : ℕ) → k < n → length (f k) ≡ w) where
  pieces_from : (k : ℕ) → k ≤ n → joined_at f k ≡ w * k
  pieces_from k h = sum_each k w (λ i. length (f i)) (λ i l. each i (omega arith)) ∙ mul_comm k w

  pub length_pieces : length (joined n f) ≡ w * n
  length_pieces = length_joined n f ∙ pieces_from n (omega arith)

  pub pieces_at : (k : ℕ) → k < n → part (w * k) (w * (k + 1)) (joined n f) ≡ f k
  pieces_at k h = pieces_cut n f (λ (i : ℕ). w * i) pieces_from k h

pub pieces_whole : (n w : ℕ) (xs : List ℕ) → length xs ≡ w * n → joined n (λ k. part (w * k) (w * (k + 1)) xs) ≡ xs
pieces_whole n w xs l = pieces_all n (λ (k : ℕ). w * k) xs (mul-zero w) (λ k h. mul-le-mul_left w (omega arith)) l
