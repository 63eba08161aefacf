-- `ldpc::parity`: the columns have a place for each position.
use mathlib.Core.Path.{◌≡◌, ◌∙◌}
use mathlib.Core.List.{List}
use Prim.Native.Nat.{ℕ, ◌-◌}
use native.Mathlib.Omega.{arith}
use lib.ListN.{length, take, replicate, length-replicate}
use lib.Seq.{length-take-le}
use Rattle.parity_table.specs.Tables.{positions}
use Rattle.parity_table.specs.Needs.{Rows}
use Rattle.ldpc.proofs.SteppedParityLaws.{parity_stepped_law}
use Rattle.ldpc.proofs.parity.Goals as goal

lent : (rows : ℕ) (xs sums : List ℕ) → Rows rows → length sums ≡ positions rows → length xs ≡ 44506 → length (take (length sums - 0) xs) ≡ positions rows
lent rows xs sums r m n = length-take-le (length sums - 0) xs (omega arith) ∙ omega arith

pub parity_in_columns-requires : goal.parity_in_columns-requires
parity_in_columns-requires c =
    let s = c in
    record {
      ready = s.requires;
      places = lent s.args.rows (replicate 44506 0) s.args.sums.now s.requires.rate s.requires.room (length-replicate {A = ℕ} 44506 0);
    }

pub returns : goal.returns
returns c =
    let p = c in
    let s = p in
    p.parity_in_columns.ensures ∙ parity_stepped_law s.args.rows s.args.table.now s.args.bits.now s.requires.ok
