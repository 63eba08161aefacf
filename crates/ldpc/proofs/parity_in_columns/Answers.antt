-- `ldpc::parity_in_columns`: cleared, added to, summed up.
use mathlib.Core.Path.{ap, ◌∙◌}
use Prim.Native.Nat.{ℕ}
use lib.ListN.{replicate}
use Rattle.ldpc.proofs.AddedLaws.{coded}
use Rattle.ldpc.proofs.parity_in_columns.Goals as goal

pub returns : goal.returns
returns c =
    let x = c.args in
    coded x.rows x.table.now x.bits.now c.fill.new.self c.add_rows.new.columns
    (c.fill.ensures.after (λ y e. e) ∙ ap (λ (n : ℕ). replicate n 0) c.requires.places) c.add_rows.ensures c.run_sums.new.sums c.run_sums.ensures
