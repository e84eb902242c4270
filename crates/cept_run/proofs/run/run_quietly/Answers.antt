use Rattle.std.proofs.Common.{arith}
use Rattle.cept_run.specs.declared.run.Status.TheVariants as statuses
use Rattle.cept_run.proofs.WholeRuns.{ended}
use Rattle.cept_run.proofs.run.run_quietly.Goals as goal

pub returns-clause-read_fault : goal.returns-clause-read_fault
returns-clause-read_fault g c = λ is.
    ended _ _ _ statuses.ReadFault ⊥ (λ e. cc) (rw is at c.run.ensures)
    (λ course ends. absurd (omega (arith, ends.0)))

pub returns-clause-write_fault : goal.returns-clause-write_fault
returns-clause-write_fault g c = λ is.
    ended _ _ _ statuses.WriteFault ⊥ (λ e. cc) (rw is at c.run.ensures)
    (λ course ends. absurd (omega (arith, ends.0)))
