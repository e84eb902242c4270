use Rattle.cept_run.proofs.WholeRuns.{runs_at_end}
use Rattle.cept_run.proofs.run.run_request.Goals as goal

pub returns : goal.returns
returns g c = λ words is.
    rw c.at_end.ensures (runs_at_end words _ _ _ c.report_request.result is c.report_request.ensures)
