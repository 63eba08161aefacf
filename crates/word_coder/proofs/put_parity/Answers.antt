-- `word_coder::put_parity`: the parity stands behind the bits.
use Rattle.std.proofs.Common.{◌≡◌, ℕ, List, ◌++◌, take, ap, ap₂, ◌∙◌}
use Rattle.ldpc.specs.Parity.{parity_of}
use Rattle.codeword.specs.Words.{run_bits, parity_input, with_parity}
use Rattle.word_coder.proofs.put_parity.Goals as goal

pub returns : goal.returns
unfolding with_parity
returns c =
    let a = c.args in
    let F = a.shape in
    let e : c.split_at_mut-run.result.0.now ≡ take (run_bits F) a.bits.now = c.split_at_mut-run.ensures.front ∙ ap (λ (k : ℕ). take k a.bits.now) c.run_bits.ensures in
    ap₂ (λ (x y : List ℕ). x ++ y) e (c.parity.ensures ∙ ap (parity_of F.rows a.table.now) (c.put_input.ensures ∙ ap (parity_input F) e))
