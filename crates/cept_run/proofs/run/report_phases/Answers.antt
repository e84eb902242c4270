use Rattle.std.proofs.Common.{[], refl, ◌∙◌, ap, subst}
use Rattle.cept_run.specs.declared.words.ReportOptions.{ReportOptions}
use Rattle.cept_run.specs.Course.{File, NoScript, report_course}
use Rattle.cept_run.specs.Outside.{outside_of}
use Rattle.cept_run.specs.Reporting.{sequel_of}
use Rattle.cept_run.specs.Run.{RunsCourse, status_at_end}
use Rattle.cept_run.proofs.FreshDecoders.{plan_alone, nothing_alone, fresh_by, alone}
use Rattle.cept_run.proofs.StoppedScripts.{no_script}
use Rattle.cept_run.proofs.run.report_phases.Goals as goal

pub report_stored-requires-clause-fresh : goal.report_stored-requires-clause-fresh
report_stored-requires-clause-fresh g c = λ start.
    let options = c.options_of_phases-options.result in
    fresh_by _ (alone options) start (plan_alone c.new-decoder.result.reporter options _ c.new-decoder.ensures.options c.new-decoder.ensures.target
    c.in_ok-target.ensures.start) (c.new-decoder.ensures.read (alone options) refl c.in_ok-target.ensures.start start)

pub returns : goal.returns
returns g c =
    let options = c.options_of_phases-options.result in
    let plan = plan_alone c.new-decoder.result.reporter options _ c.new-decoder.ensures.options c.new-decoder.ensures.target c.in_ok-target.ensures.start in
    subst (λ (a : ReportOptions). RunsCourse (report_course a (File c.args.page.now) NoScript)
    (outside_of (g.F.Shelf.state c.args.shelf.now) (g.T.Sink.state c.args.sink.now) (g.G.Glass.state c.args.glass.now))
    (outside_of (g.F.Shelf.state c.report_stored.new.shelf) (g.T.Sink.state c.report_stored.new.sink)
    (g.G.Glass.state c.report_stored.new.glass)) (status_at_end c.report_stored.result))
    (c.new-decoder.ensures.options ∙ c.options_of_phases-options.ensures)
    (c.report_stored.ensures NoScript [] _ (no_script _)
    (ap sequel_of plan ∙ nothing_alone options))
