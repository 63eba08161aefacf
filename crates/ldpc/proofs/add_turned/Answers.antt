-- `ldpc::add_turned`: the two runs are the turned row.
use Rattle.ldpc.proofs.Turning.{two_runs}
use Rattle.ldpc.proofs.add_turned.Goals as goal

pub returns : goal.returns
returns c =
    let d = c in
    let b = d in
    let s = b in
    two_runs s.args.row.now s.args.by s.args.column.now b.add_run.new.to d.add_run-2.new.to s.requires b.add_run.ensures d.add_run-2.ensures
