use Rattle.std.proofs.Common.{ap}
use Rattle.std.proofs.lemmas.Result.{err_from_is_err_and}
use Rattle.cept_run.specs.Course.{Scripts}
use Rattle.cept_run.specs.Events.{Edits}
use Rattle.cept_run.proofs.ReadScripts.{script_unread, script_good, script_faulty}
use Rattle.cept_run.proofs.script.read_script.Goals as goal

-- it wasn't taken to its end
pub returns-in_err-bytes-clause-ends : goal.returns-in_err-bytes-clause-ends
returns-in_err-bytes-clause-ends g c =
    let p = err_from_is_err_and c.from_residual.result c.from_residual.ensures.1 in
    rw (p.1, p.2) (script_unread Scripts _ _ _ _ _ c.in_err-bytes.ensures.stopped)

-- it was read
pub returns-in-Ok-clause-ends : goal.returns-in-Ok-clause-ends
returns-in-Ok-clause-ends g c = script_good Scripts _ _ _ _ c.in_ok-bytes.ensures.whole Edits _ _ c.in-Ok.ensures.good
    (ap Edits c.in-Ok.ensures.edits)

-- it is outside the grammar, or there is no memory
pub returns-in-Err-clause-ends : goal.returns-in-Err-clause-ends
returns-in-Err-clause-ends g c = script_faulty Scripts _ _ _ _ c.in_ok-bytes.ensures.whole c.in-Err.fault _ _ _
    c.in-Err.ensures.fault c.stop_at.ensures
