-- `ldpc::add_rows`: the rows that came are added, and the next begins at s.
use Rattle.ldpc.proofs.RowLaws.{Adding}
use Rattle.ldpc.proofs.add_rows.Given as goal

abbrev pub invariant-loop-row : goal.invariant-loop-row
invariant-loop-row l = Adding l.rows l.table l.bits l.initial.columns l.columns l.s l.row-iterator
