use Rattle.std.proofs.Common.{ap}
use Rattle.std.proofs.lemmas.Result.{err_from_is_err_and}
use Rattle.cept_run.specs.Course.{Drawings}
use Rattle.cept_run.specs.Events.{Figures}
use Rattle.cept_run.specs.inside.ScriptReading.{as_script_fault}
use Rattle.cept_run.proofs.ReadScripts.{script_unread, script_good, script_faulty, drawing_faulty}
use Rattle.cept_run.proofs.script.read_drawing.Goals as goal

-- it wasn't taken to its end
pub returns-in_err-bytes-clause-ends : goal.returns-in_err-bytes-clause-ends
returns-in_err-bytes-clause-ends g c =
    let p = err_from_is_err_and c.from_residual.result c.from_residual.ensures.1 in
    rw (p.1, p.2) (script_unread Drawings _ _ _ _ _ c.in_err-bytes.ensures.stopped)

-- it was read
pub returns-in-Ok-clause-ends : goal.returns-in-Ok-clause-ends
returns-in-Ok-clause-ends g c = script_good Drawings _ _ _ _ c.in_ok-bytes.ensures.whole Figures _ _
    (rw c.as_slice.ensures.value at c.in-Ok.ensures.good)
    (ap Figures (rw c.as_slice.ensures.value at c.in-Ok.ensures.figures))

-- it is outside the grammar, or there is no memory
pub returns-clause-ends : goal.returns-clause-ends
returns-clause-ends g c = script_faulty Drawings _ _ _ _ c.in_ok-bytes.ensures.whole (as_script_fault c.in-Err.fault) _ _ _
    (drawing_faulty _ c.in-Err.fault (rw c.as_slice.ensures.value at c.in-Err.ensures.fault))
    (rw c.as_script_fault.ensures at c.stop_at.ensures)
