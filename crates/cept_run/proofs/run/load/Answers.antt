use Rattle.std.proofs.Common.{refl, ◌∙◌, ap, subst}
use Rattle.cept_generator.specs.Generated.{generated}
use Rattle.cept_run.specs.declared.words.ReportOptions.{ReportOptions}
use Rattle.cept_run.specs.Course.{Given, NoScript, report_course}
use Rattle.cept_run.specs.Outside.{outside_of}
use Rattle.cept_run.specs.Reporting.{sequel_of}
use Rattle.cept_run.specs.Run.{RunsCourse, status_at_end}
use Rattle.cept_run.specs.declared.words.End.TheVariants as ends
use Rattle.cept_run.specs.Words.{painting_options}
use Rattle.std.proofs.lemmas.Result.{err_from_is_err_and}
use Rattle.cept_run.proofs.NothingTouched.{runs_without_memory}
use Rattle.cept_run.proofs.FreshDecoders.{plan_alone, nothing_alone, fresh_by, alone}
use Rattle.cept_run.proofs.run.load.Goals as goal

abbrev options_to_load : ReportOptions
options_to_load = record painting_options { end = ends.Counts }

-- there is no memory
pub returns-in_err-target : goal.returns-in_err-target
returns-in_err-target g c = λ shelf.
    let p = err_from_is_err_and c.from_residual.result c.from_residual.ensures.1 in
    rw (p.1, p.2) (runs_without_memory _ _ refl)

pub report_generated-requires-clause-fresh : goal.report_generated-requires-clause-fresh
report_generated-requires-clause-fresh g c = λ start.
    fresh_by _ (alone options_to_load) start (plan_alone c.new-decoder.result.reporter options_to_load _ c.new-decoder.ensures.options
    c.new-decoder.ensures.target c.in_ok-target.ensures.start)
    (c.new-decoder.ensures.read (alone options_to_load) refl c.in_ok-target.ensures.start start)

pub report_generated-requires-clause-alone : goal.report_generated-requires-clause-alone
report_generated-requires-clause-alone g c = ap sequel_of (plan_alone c.new-decoder.result.reporter options_to_load _ c.new-decoder.ensures.options
    c.new-decoder.ensures.target c.in_ok-target.ensures.start) ∙ nothing_alone options_to_load

pub returns : goal.returns
returns g c = λ shelf.
    subst (λ (a : ReportOptions). RunsCourse (report_course a (Given (generated c.args.number)) NoScript)
    (outside_of shelf (g.T.Sink.state c.args.sink.now) (g.G.Glass.state c.args.glass.now))
    (outside_of shelf (g.T.Sink.state c.report_generated.new.sink) (g.G.Glass.state c.report_generated.new.glass))
    (status_at_end c.report_generated.result)) c.new-decoder.ensures.options (c.report_generated.ensures shelf)
