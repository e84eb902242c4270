use Rattle.std.proofs.Common.{sym}
use Rattle.cept_run.proofs.WholeRuns.{runs_nothing}
use Rattle.cept_run.proofs.run.run.Goals as goal

pub returns-in_default : goal.returns-in_default
returns-in_default g c = runs_nothing _ _ (sym (rw c.as_slice.ensures.value at c.in_default.ensures.request))

pub returns : goal.returns
returns g c = c.run_request.ensures _ (sym (rw c.as_slice.ensures.value at c.in-Some.ensures.request))
