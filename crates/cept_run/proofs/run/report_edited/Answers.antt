use Rattle.std.proofs.Common.{None, refl, sym, ◌∙◌, ap, subst}
use Rattle.std.proofs.lemmas.Result.{err_from_is_err_and}
use Rattle.cept_outside.specs.SinkState.{SinkState}
use Rattle.cept_run.specs.declared.words.ReportOptions.{ReportOptions}
use Rattle.cept_run.specs.Course.{File, Scripts, ScriptFile, report_course}
use Rattle.cept_run.specs.Events.{Edits}
use Rattle.cept_run.specs.Outside.{outside_of}
use Rattle.cept_run.specs.Reporting.{HasBlink, sequel_of}
use Rattle.cept_run.specs.Run.{RunsCourse, status_at_end}
use Rattle.cept_run.specs.Words.{options_of_script, is_painted}
use Rattle.cept_run.proofs.FreshDecoders.{script_paints, target_edited, plan_followed, sequel_followed, fresh_by}
use Rattle.cept_run.proofs.FreshDecoders.{followed, script_blink}
use Rattle.cept_run.proofs.StoppedScripts.{script_read, ends_at_script}
use Rattle.cept_run.proofs.run.report_edited.Goals as goal

-- the reading of the script stopped
pub returns-in_err-script : goal.returns-in_err-script
returns-in_err-script g c =
    let p = err_from_is_err_and c.from_residual-in_err-script.result c.from_residual-in_err-script.ensures.1 in
    rw (p.1, p.2) (ends_at_script _ Scripts _ _ _ _ _ (script_paints c.args.action) c.requires c.read_script.ensures.shelf _
    (g.met.F.Shelf.sound c.read_script.new.shelf) c.in_err-script.ensures.ends)

pub report_stored-requires-clause-fresh : goal.report_stored-requires-clause-fresh
report_stored-requires-clause-fresh g c = λ start.
    let options = c.options.result in
    let lines = c.in_ok-script.script in
    let painting = ap (λ (a : ReportOptions). is_painted a.way) c.options.ensures ∙ script_paints c.args.action in
    fresh_by _ (followed options (Edits lines)) start (plan_followed c.new-decoder.result.reporter options _ (Edits lines)
    c.new-decoder.ensures.options c.new-decoder.ensures.target refl)
    (c.new-decoder.ensures.read (followed options (Edits lines)) refl
    (target_edited options _ lines painting c.in_ok-editor.ensures.start) start)

pub report_stored-requires-clause-blink : goal.report_stored-requires-clause-blink
report_stored-requires-clause-blink g c =
    subst (λ (a : ReportOptions). HasBlink a.end None) (sym (c.new-decoder.ensures.options ∙ c.options.ensures))
    (script_blink c.args.action)

pub returns : goal.returns
returns g c =
    let options = c.options.result in
    let lines = c.in_ok-script.script in
    let painting = ap (λ (a : ReportOptions). is_painted a.way) c.options.ensures ∙ script_paints c.args.action in
    let plan = plan_followed c.new-decoder.result.reporter options _ (Edits lines) c.new-decoder.ensures.options
    c.new-decoder.ensures.target refl in
    let ends = c.in_ok-script.ensures.ends in
    subst (λ (s : SinkState). RunsCourse
    (report_course (options_of_script c.args.action) (File c.args.page.now) (ScriptFile Scripts c.args.script.now))
    (outside_of (g.F.Shelf.state c.args.shelf.now) s (g.G.Glass.state c.args.glass.now))
    (outside_of (g.F.Shelf.state c.report_stored.new.shelf) (g.T.Sink.state c.report_stored.new.sink)
    (g.G.Glass.state c.report_stored.new.glass)) (status_at_end c.report_stored.result)) ends.1
    (subst (λ (a : ReportOptions). RunsCourse
    (report_course a (File c.args.page.now) (ScriptFile Scripts c.args.script.now))
    (outside_of (g.F.Shelf.state c.args.shelf.now) (g.T.Sink.state c.read_script.new.sink)
    (g.G.Glass.state c.args.glass.now))
    (outside_of (g.F.Shelf.state c.report_stored.new.shelf) (g.T.Sink.state c.report_stored.new.sink)
    (g.G.Glass.state c.report_stored.new.glass)) (status_at_end c.report_stored.result))
    (c.new-decoder.ensures.options ∙ c.options.ensures)
    (c.report_stored.ensures (ScriptFile Scripts c.args.script.now) ends.0.bytes _
    (script_read Scripts _ (Edits lines) _ _ c.read_script.ensures.shelf ends.0)
    (ap sequel_of plan ∙ sequel_followed options (Edits lines) painting ∙ ends.0.are)))
