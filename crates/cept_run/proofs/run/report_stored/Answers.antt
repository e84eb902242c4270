use Rattle.std.proofs.Common.{refl}
use Rattle.std.proofs.lemmas.Result.{err_from_is_err_and}
use Rattle.cept_parser.specs.Items.{closed_items}
use Rattle.cept_profile.specs.State.{core, state}
use Rattle.cept_run.specs.Reporting.{plan_in, remaining_at_end}
use Rattle.cept_run.proofs.EndsOfRuns.{ends_unselected, ends_stopped, ends_unedited, ends_put}
use Rattle.cept_run.proofs.RestoredPages.{restores}
use Rattle.cept_run.proofs.run.report_stored.Goals as goal

-- the page couldn't be selected
pub returns-in_default : goal.returns-in_default
returns-in_default g c = λ script bytes start known sequel.
    ends_unselected (plan_in c.args.decoder.now.reporter) _ script bytes _ _ known _ _
    c.in_default.ensures.selects c.in_default.ensures.cause

-- the reading of the page stopped
pub returns-in_err-bytes : goal.returns-in_err-bytes
returns-in_err-bytes g c = λ script bytes start known sequel.
    let p = err_from_is_err_and c.from_residual.result c.from_residual.ensures.1 in
    rw (p.1, p.2) (ends_stopped (plan_in c.args.decoder.now.reporter) _ script bytes _ _ known
    (g.F.Shelf.state c.select.new.self) _ _ (g.met.F.Shelf.sound c.args.shelf.now)
    c.in-Ok.ensures.selects c.in-Ok.ensures.cause.stays c.read_page.ensures.shelf _
    (g.met.F.Shelf.sound c.read_page.new.shelf) c.in_err-bytes.ensures.ends)

-- the sink failed at an edit
pub returns-in_err-make_edits : goal.returns-in_err-make_edits
returns-in_err-make_edits g c = λ script bytes start known sequel.
    let plan = plan_in c.args.decoder.now.reporter in
    let p = err_from_is_err_and c.from_residual-in_err-make_edits.result c.from_residual-in_err-make_edits.ensures.1 in
    let read = c.in_ok-bytes.ensures.ends in
    rw (p.1, p.2) (ends_unedited plan _ script bytes _ _ known (g.F.Shelf.state c.select.new.self) _ _
    (g.met.F.Shelf.sound c.args.shelf.now) c.in-Ok.ensures.selects
    c.in-Ok.ensures.cause.stays c.read_page.ensures.shelf read.bytes read.takes sequel _ refl
    (c.in_err-make_edits.ensures.cut plan (closed_items read.bytes) _ read.reported))

-- it was reported to its end
pub returns : goal.returns
returns g c = λ script bytes start known sequel.
    let plan = plan_in c.args.decoder.now.reporter in
    let read = c.in_ok-bytes.ensures.ends in
    let edited = c.in_ok-make_edits.ensures.edited plan (closed_items read.bytes) _ read.reported in
    let h = remaining_at_end plan (closed_items read.bytes) in
    ends_put plan _ script bytes _ _ known (g.F.Shelf.state c.select.new.self) _ _
    (g.met.F.Shelf.sound c.args.shelf.now) c.in-Ok.ensures.selects
    c.in-Ok.ensures.cause.stays c.read_page.ensures.shelf read.bytes read.takes sequel _
    edited.made edited.stays
    (restores h (c.compact_pages_are_spelled.ensures.none (core h) (c.validity_is_kept.ensures.core (state h)
    (c.validity_is_kept.ensures.always h edited.valid))) (c.compact_texts_bring_pages_back.ensures.always h edited.valid))
    c.end_report.result (c.end_report.ensures plan read.bytes edited.stands c.requires.blink read.count_is)
