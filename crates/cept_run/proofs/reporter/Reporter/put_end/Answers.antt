use Rattle.std.proofs.Common.{ap, ◌∙◌}
use Rattle.cept_run.specs.Reporting.{ReporterState, screen_of}
use Rattle.cept_run.proofs.EndTexts.{screen_is, no_screen, painted_text, counted_text}
use Rattle.cept_run.proofs.reporter.Reporter.put_end.Goals as goal

pub returns-in-None : goal.returns-in-None
returns-in-None g c = λ plan page stands has count.
    counted_text plan _ page stands _ _ _ _
    (no_screen plan _ page stands (c.in-None.ensures ∙ ap (λ (r : ReporterState). screen_of r.target) c.self.view_is))
    c.put_counts.ensures

pub returns-in-Some : goal.returns-in-Some
returns-in-Some g c = λ plan page stands has count.
    let there = screen_is plan _ page stands _
    (c.in-Some.ensures ∙ ap (λ (r : ReporterState). screen_of r.target) c.self.view_is) in
    painted_text plan _ page stands _ _ _ _ there.0
    (c.put_painted.ensures plan page stands has there.1 count)
