use Rattle.std.proofs.Common.{ap, subst, ◌∙◌}
use Rattle.cept_codes.specs.Command.{IsValidSaid}
use Rattle.cept_run.specs.Reporting.{ReporterState}
use Rattle.cept_run.specs.inside.Reporting.{is_quiet}
use Rattle.cept_run.proofs.ReportedItems.{loud_more, refusal_more}
use Rattle.cept_run.proofs.reporter.Reporter.report_item.Goals as goal

pub returns-in-Command : goal.returns-in-Command
returns-in-Command g c =
    rw (← c.self.view_is) (loud_more _ c.apply.new.self c.args.item.now c.in-Command.command _ _ _ _ c.apply.result
    c.in-Command.is (subst IsValidSaid c.in-Command.is c.requires.valid)
    (ap (λ (r : ReporterState). is_quiet r.options.way) c.self.view_is ∙ c.requires.loud) c.apply.ensures)

pub returns-in-Refused : goal.returns-in-Refused
returns-in-Refused g c =
    rw (← c.self.view_is) (refusal_more _ c.args.item.now c.in-Refused.reason _ _ _ c.name_refusal.result c.in-Refused.is
    c.name_refusal.ensures)
