use Rattle.std.proofs.Common.{refl, arith}
use Rattle.std.proofs.lemmas.Result.{err_from_is_err_and}
use Rattle.cept_generator.specs.Generated.{generated}
use Rattle.cept_parser.specs.Items.{closed_items}
use Rattle.cept_profile.specs.State.{core, state}
use Rattle.cept_run.specs.Reporting.{plan_in, remaining_at_end}
use Rattle.cept_run.proofs.LoadedPages.{loads_cut, loads_cut_at, loads_read}
use Rattle.cept_run.proofs.RestoredPages.{restores}
use Rattle.cept_run.proofs.run.report_generated.Goals as goal

-- the sink failed at an item
pub returns-in_err-bytes : goal.returns-in_err-bytes
returns-in_err-bytes g c = λ shelf.
    let p = err_from_is_err_and c.from_residual.result c.from_residual.ensures.1 in
    rw (p.1, p.2) (loads_cut_at (plan_in c.args.decoder.now.reporter) (generated c.args.number) _ _ refl
    (omega (arith, c.generated_pages_are_short.ensures.bytes c.args.number)) c.requires.alone _ refl
    c.in_err-bytes.ensures)

-- at an edit
pub returns-in_err-make_edits : goal.returns-in_err-make_edits
returns-in_err-make_edits g c = λ shelf.
    let plan = plan_in c.args.decoder.now.reporter in
    let page = generated c.args.number in
    let p = err_from_is_err_and c.from_residual-in_err-make_edits.result c.from_residual-in_err-make_edits.ensures.1 in
    rw (p.1, p.2) (loads_cut plan page _ _ refl
    (omega (arith, c.generated_pages_are_short.ensures.bytes c.args.number)) c.requires.alone _ refl
    (c.in_err-make_edits.ensures.cut plan (closed_items page) _ c.in_ok-bytes.ensures.1))

-- it was read to its end
pub returns : goal.returns
returns g c = λ shelf.
    let plan = plan_in c.args.decoder.now.reporter in
    let page = generated c.args.number in
    let edited = c.in_ok-make_edits.ensures.edited plan (closed_items page) _ c.in_ok-bytes.ensures.1 in
    let h = remaining_at_end plan (closed_items page) in
    loads_read plan page _ _ refl (omega (arith, c.generated_pages_are_short.ensures.bytes c.args.number))
    c.requires.alone _ edited.made edited.stays
    (restores h (c.compact_pages_are_spelled.ensures.none (core h) (c.validity_is_kept.ensures.core (state h)
    (c.validity_is_kept.ensures.always h edited.valid))) (c.compact_texts_bring_pages_back.ensures.always h edited.valid))
    c.end_report.result (c.end_report.ensures plan page edited.stands c.requires.blink c.in_ok-bytes.ensures.0)
