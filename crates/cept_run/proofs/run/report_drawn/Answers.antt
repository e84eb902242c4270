use Rattle.std.proofs.Common.{refl, ◌∙◌, ap, subst}
use Rattle.std.proofs.lemmas.Result.{err_from_is_err_and}
use Rattle.cept_outside.specs.SinkState.{SinkState}
use Rattle.cept_run.specs.declared.words.ReportOptions.{ReportOptions}
use Rattle.cept_run.specs.Course.{File, Drawings, ScriptFile, report_course}
use Rattle.cept_run.specs.Events.{Figures}
use Rattle.cept_run.specs.Outside.{outside_of}
use Rattle.cept_run.specs.Reporting.{sequel_of}
use Rattle.cept_run.specs.Run.{RunsCourse, status_at_end}
use Rattle.cept_run.specs.declared.words.End.TheVariants as ends
use Rattle.cept_run.specs.Words.{painting_options}
use Rattle.cept_run.proofs.FreshDecoders.{target_drawn, plan_followed, sequel_followed, fresh_by, followed}
use Rattle.cept_run.proofs.StoppedScripts.{script_read, ends_at_script}
use Rattle.cept_run.proofs.run.report_drawn.Goals as goal

abbrev options_to_draw : ReportOptions
options_to_draw = record painting_options { end = ends.Page }

-- the reading of the drawing stopped
pub returns-in_err-drawing : goal.returns-in_err-drawing
returns-in_err-drawing g c =
    let p = err_from_is_err_and c.from_residual-in_err-drawing.result c.from_residual-in_err-drawing.ensures.1 in
    rw (p.1, p.2) (ends_at_script options_to_draw Drawings _ _ _ _ _ refl c.requires c.read_drawing.ensures.shelf _
    (g.met.F.Shelf.sound c.read_drawing.new.shelf) c.in_err-drawing.ensures.ends)

pub report_stored-requires-clause-fresh : goal.report_stored-requires-clause-fresh
report_stored-requires-clause-fresh g c = λ start.
    let figures = c.in_ok-drawing.drawing in
    let plan = followed options_to_draw (Figures figures) in
    fresh_by _ plan start (plan_followed c.new-decoder.result.reporter options_to_draw _ (Figures figures)
    c.new-decoder.ensures.options c.new-decoder.ensures.target refl)
    (c.new-decoder.ensures.read plan refl (target_drawn options_to_draw _ figures refl c.in_ok-screen.ensures) start)

pub returns : goal.returns
returns g c =
    let figures = c.in_ok-drawing.drawing in
    let plan = plan_followed c.new-decoder.result.reporter options_to_draw _ (Figures figures) c.new-decoder.ensures.options
    c.new-decoder.ensures.target refl in
    let ends = c.in_ok-drawing.ensures.ends in
    subst (λ (s : SinkState). RunsCourse
    (report_course options_to_draw (File c.args.page.now) (ScriptFile Drawings c.args.drawing.now))
    (outside_of (g.F.Shelf.state c.args.shelf.now) s (g.G.Glass.state c.args.glass.now))
    (outside_of (g.F.Shelf.state c.report_stored.new.shelf) (g.T.Sink.state c.report_stored.new.sink)
    (g.G.Glass.state c.report_stored.new.glass)) (status_at_end c.report_stored.result)) ends.1
    (subst (λ (a : ReportOptions). RunsCourse
    (report_course a (File c.args.page.now) (ScriptFile Drawings c.args.drawing.now))
    (outside_of (g.F.Shelf.state c.args.shelf.now) (g.T.Sink.state c.read_drawing.new.sink)
    (g.G.Glass.state c.args.glass.now))
    (outside_of (g.F.Shelf.state c.report_stored.new.shelf) (g.T.Sink.state c.report_stored.new.sink)
    (g.G.Glass.state c.report_stored.new.glass)) (status_at_end c.report_stored.result))
    c.new-decoder.ensures.options
    (c.report_stored.ensures (ScriptFile Drawings c.args.drawing.now) ends.0.bytes _
    (script_read Drawings _ (Figures figures) _ _ c.read_drawing.ensures.shelf ends.0)
    (ap sequel_of plan ∙ sequel_followed options_to_draw (Figures figures) refl ∙ ends.0.are)))
