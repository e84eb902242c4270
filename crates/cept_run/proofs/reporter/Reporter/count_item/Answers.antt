use Rattle.std.proofs.Common.{ap, ◌∙◌}
use Rattle.cept_run.specs.Reporting.{ReporterState}
use Rattle.cept_run.specs.inside.Reporting.{is_quiet}
use Rattle.cept_run.proofs.ReportedItems.{quiet_more, quiet_refusal, refusal_more}
use Rattle.cept_run.proofs.reporter.Reporter.count_item.Goals as goal

pub returns-in-Command : goal.returns-in-Command
returns-in-Command g c = λ glass.
    rw (← c.self.view_is) (quiet_more _ c.args.item.now c.in-Command.field-0 _ glass _ c.in-Command.is
    (ap (λ (r : ReporterState). is_quiet r.options.way) c.self.view_is ∙ c.requires.quiet))

pub returns-in-Refused : goal.returns-in-Refused
returns-in-Refused g c = λ glass.
    rw (← c.self.view_is) (refusal_more _ c.args.item.now c.in-Refused.reason _ _ glass c.name_alone.result c.in-Refused.is
    (quiet_refusal c.self.inside.options c.args.item.now c.in-Refused.reason _ _ _
    (ap (λ (r : ReporterState). is_quiet r.options.way) c.self.view_is ∙ c.requires.quiet) c.name_alone.ensures))
