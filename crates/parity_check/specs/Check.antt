-- The check of received parity (document 01, "Checks in the slot").
use Rattle.std.specs.Prelude.{not, List, ℕ, ◌+◌, ◌-◌, eqb, leb, get_or}
use Rattle.lists.specs.Choice.{pick}
use Rattle.lists.specs.Count.{first}
use Rattle.parity_table.specs.Tables.{positions}
use Rattle.ldpc.specs.Parity.{parity_of}

-- the lowest position at which the received parity is wrong, or M where there is none ("The parity check stops
-- where the first wrong position shows")
unfoldable pub lowest_wrong : ℕ → List ℕ → List ℕ → List ℕ → ℕ
lowest_wrong rows t u received = first (positions rows) (λ j. not (eqb (get_or (parity_of rows t u) j 0) (get_or received j 0)))

-- the place behind place n: in the column behind it, and behind the last column, from edge on, in the first, one place on
abbrev pub next_place : ℕ → ℕ → ℕ
next_place edge n = pick (leb edge n) (n - edge + 1) (n + 374)
