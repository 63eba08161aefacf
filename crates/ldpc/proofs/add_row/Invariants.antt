-- `ldpc::add_row`: the row is added through the addresses passed.
use Rattle.ldpc.specs.Stepping.{row_stepped}
use Rattle.ldpc.specs.Columns.{across}
use Rattle.ldpc.specs.Needs.{Added}
use Rattle.ldpc.proofs.add_row.Given as goal

abbrev pub invariant-loop-address : goal.invariant-loop-address
invariant-loop-address l = Added l.initial.columns l.columns (λ n. row_stepped l.q l.addresses l.row 0 l.address-index 0 (across l.q 374 n))
