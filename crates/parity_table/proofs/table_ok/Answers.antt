-- `parity_table::table_ok`: an accepted table is one whose length is not 0 and fills the list.
use Rattle.std.proofs.Common.{sym, ◌∙◌, rules, eq-eqb, ne_eqb}
use Rattle.parity_table.specs.TableLaws.{table_length_all}
use Rattle.parity_table.proofs.table_ok.Goals as goal

pub returns-then-length-ne0 : goal.returns-then-length-ne0
returns-then-length-ne0 c =
    let a = c.args in
    let e = c.table_length-length.ensures in
    sym (table_length_all a.rows a.table.now (search rules) ∙ rw (← e, ne_eqb _ 0 c.if-length-ne0.true))

pub returns-else-length-ne0 : goal.returns-else-length-ne0
returns-else-length-ne0 c =
    let a = c.args in
    let e = c.table_length-length.ensures in
    sym (table_length_all a.rows a.table.now (search rules) ∙ rw (← e, eq-eqb _ 0 c.if-length-ne0.false))
