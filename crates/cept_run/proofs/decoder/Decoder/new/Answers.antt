use Rattle.std.proofs.Common.{sym, ap, ◌∙◌}
use Rattle.cept_run.specs.Reporting.{ReporterState}
use Rattle.cept_run.proofs.ReportedItems.{HasRead-none, Stands-none}
use Rattle.cept_run.proofs.decoder.Decoder.new.Goals as goal

pub returns-clause-read : goal.returns-clause-read
returns-clause-read c = λ plan same is start. HasRead-none plan _ start c.new.ensures
    (Stands-none plan _ (ap (λ (r : ReporterState). r.options) c.new-2.ensures ∙ sym same)
    (ap (λ (r : ReporterState). r.target) c.new-2.ensures ∙ is)
    (ap (λ (r : ReporterState). r.items) c.new-2.ensures) (ap (λ (r : ReporterState). r.refused) c.new-2.ensures)
    (ap (λ (r : ReporterState). r.painted) c.new-2.ensures))
