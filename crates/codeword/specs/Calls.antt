-- What a call on a codeword tests of what it is lent (document 01, "Refusal list").
use Rattle.std.specs.Prelude.{◌&&◌, List, ℕ, eqb, length}
use Rattle.lists.specs.Choice.{pick, and_then}
use Rattle.refusal.specs.Numbers.{LENGTH, TABLE}
use Rattle.parity_table.specs.Tables.{table_ok}
use Rattle.codeword.specs.declared.Shape.{Shape}

-- "4, 5": the n octets of the message, the word's octets, and the parity table
unfoldable pub lent_number : Shape → ℕ → List ℕ → List ℕ → List ℕ → ℕ
lent_number F n t source coded =
    and_then (pick (eqb (length source) n && eqb (length coded) F.octets) 0 LENGTH) (pick (table_ok F.rows t) 0 TABLE)
