-- `codeword::put_input`: the zeros, the bits and the zeros stand one behind the other.
use Rattle.std.proofs.Common.{◌≡◌, ℕ, List, ◌++◌, ap, ap₂, ◌∙◌, arith, length, replicate}
use Rattle.codeword.specs.Words.{zeros, parity_input}
use Rattle.codeword.proofs.input.put_input.Goals as goal

-- an area of k zeros
zeros_are : (made area : List ℕ) (k : ℕ) → made ≡ replicate (length area) 0 → length area ≡ k → made ≡ zeros k
unfolding zeros
zeros_are made area k e l = e ∙ ap (λ (i : ℕ). replicate i 0) l

pub returns : goal.returns
unfolding parity_input
returns c =
    let F = c.args.shape in
    let front = c.split_at_mut-before.ensures.front_len in
    let behind : length c.split_at_mut-sent.result.1.now ≡ F.behind = omega (arith, c.split_at_mut-before.ensures.back_len, c.split_at_mut-sent.ensures.back_len, c.requires.fits.input, c.requires.room, c.requires.run_long) in
    ap₂ (λ (p q : List ℕ). p ++ q) (zeros_are _ _ F.before (c.fill.ensures.after (λ y e. e)) (omega (arith, front)))
    (ap₂ (λ (p q : List ℕ). p ++ q) c.copy.ensures (zeros_are _ _ F.behind (c.fill-2.ensures.after (λ y e. e)) behind))
