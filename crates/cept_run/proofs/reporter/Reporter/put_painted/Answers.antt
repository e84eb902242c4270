use Rattle.std.proofs.Common.{◌≡◌, length, sym, ap, subst, ◌∙◌, cond}
use Rattle.cept_outside.specs.SinkState.{PutsText}
use Rattle.cept_parser.specs.Items.{closed_items}
use Rattle.cept_profile.specs.State.{State, core_of}
use Rattle.cept_report.specs.Screen.{screen_text, cells_text}
use Rattle.cept_report.specs.Text.{load_line}
use Rattle.cept_writer.specs.CompactCommands.{page_text}
use Rattle.cept_run.specs.declared.words.ReportOptions.{ReportOptions}
use Rattle.cept_run.specs.declared.words.End.TheVariants as ends
use Rattle.cept_run.specs.declared.words.End.{End}
use Rattle.cept_run.specs.Words.{is_counted}
use Rattle.cept_run.specs.Events.{painted_count}
use Rattle.cept_run.specs.Reporting.{ReporterState}
use Rattle.cept_run.proofs.EndTexts.{end_as}
use Rattle.cept_run.proofs.ReportedItems.{PutsText-nothing}
use Rattle.cept_run.proofs.reporter.Reporter.put_painted.Goals as goal

pub returns-in-Nothing : goal.returns-in-Nothing
returns-in-Nothing g c = λ plan page stands has screen count.
    end_as ends.Nothing plan.options.end plan.options _ page _ _ _ _
    (sym c.in-Nothing.is ∙ ap (λ (r : ReporterState). r.options.end) c.self.view_is ∙ ap (λ (a : ReportOptions). a.end) stands.options_are)
    (PutsText-nothing (g.T.Sink.state c.args.sink.now))

pub returns-in-Screen : goal.returns-in-Screen
returns-in-Screen g c = λ plan page stands has screen count.
    end_as ends.Screen plan.options.end plan.options _ page _ _ _ _
    (sym c.in-Screen.is ∙ ap (λ (r : ReporterState). r.options.end) c.self.view_is ∙ ap (λ (a : ReportOptions). a.end) stands.options_are)
    (subst (λ n. PutsText (g.T.Sink.state c.args.sink.now) (screen_text (g.G.Glass.state c.args.glass.now).grid n)
    c.put_screen.result (g.T.Sink.state c.put_screen.new.sink))
    (c.rows.ensures.rows ∙ ap (λ (s : State). s.control.rows) screen) c.put_screen.ensures)

pub returns-in-Cells : goal.returns-in-Cells
returns-in-Cells g c = λ plan page stands has screen count.
    end_as ends.Cells plan.options.end plan.options _ page _ _ _ _
    (sym c.in-Cells.is ∙ ap (λ (r : ReporterState). r.options.end) c.self.view_is ∙ ap (λ (a : ReportOptions). a.end) stands.options_are)
    (subst (λ n. PutsText (g.T.Sink.state c.args.sink.now) (cells_text (g.G.Glass.state c.args.glass.now).grid n)
    c.put_cells.result (g.T.Sink.state c.put_cells.new.sink))
    (c.rows-in-Cells.ensures.rows ∙ ap (λ (s : State). s.control.rows) screen) c.put_cells.ensures)

pub returns-in-Page : goal.returns-in-Page
returns-in-Page g c = λ plan page stands has screen count.
    end_as ends.Page plan.options.end plan.options _ page _ _ _ _
    (sym c.in-Page.is ∙ ap (λ (r : ReporterState). r.options.end) c.self.view_is ∙ ap (λ (a : ReportOptions). a.end) stands.options_are)
    (subst (λ (s : State). PutsText (g.T.Sink.state c.args.sink.now) (page_text (core_of s)) c.write_page.result
    (g.T.Sink.state c.write_page.new.sink)) screen c.write_page.ensures)

pub returns-in-Counts : goal.returns-in-Counts
returns-in-Counts g c = λ plan page stands has screen count.
    let sink = g.T.Sink.state c.args.sink.now in
    let now = g.T.Sink.state c.put_load.new.sink in
    let all = closed_items page in
    let items = ap (λ (r : ReporterState). r.items) c.self.view_is ∙ stands.items in
    let end = sym c.in-Counts.is ∙ ap (λ (r : ReporterState). r.options.end) c.self.view_is
    ∙ ap (λ (a : ReportOptions). a.end) stands.options_are in
    let painted : c.self.inside.painted ≡ painted_count plan.options all =
    ap (λ (r : ReporterState). r.painted) c.self.view_is ∙ stands.painted
    ∙ ap (λ (e : End). cond (is_counted e) (painted_count plan.options all) 0) (sym end) in
    end_as ends.Counts plan.options.end plan.options _ page _ _ _ _ end
    (subst (λ n. PutsText sink (load_line n (length all) (painted_count plan.options all)) c.put_load.result now) count
    (subst (λ n. PutsText sink (load_line c.args.bytes n (painted_count plan.options all)) c.put_load.result now) items
    (subst (λ n. PutsText sink (load_line c.args.bytes c.self.inside.items n) c.put_load.result now) painted
    c.put_load.ensures)))
