use Rattle.std.proofs.Common.{[], refl, sym, ◌∙◌}
use Rattle.cept_outside.proofs.Laws.{Gains-nil}
use Rattle.cept_report.specs.Text.{shape_text}
use Rattle.cept_report.proofs.LinesPut.{Gains-part, PutsText-part}
use Rattle.cept_report.proofs.TextsGathered.{line_of-is, PutsText-line}
use Rattle.std.proofs.lemmas.Result.{err_from_is_err_and}
use Rattle.cept_report.proofs.put.put_line.Goals as goal

pub returns-in_err-gather_shape : goal.returns-in_err-gather_shape
returns-in_err-gather_shape g c =
    let line = line_of-is c.args.label _ _ _ c.args.at c.args.look.now
    (c.as_bytes-number.ensures.value ∙ c.format.ensures.text) c.new-line.ensures c.add_front.ensures.text in
    rw (err_from_is_err_and c.from_residual.result c.from_residual.ensures.1).1
    (PutsText-part _ (g.T.Sink.state c.args.sink.now) _ _ refl
    (Gains-part _ _ _ _ [] _ _ (sym line) (Gains-nil _) c.in_err-gather_shape.ensures.gathers.part)
    c.in_err-gather_shape.ensures.gathers.cause)

pub returns : goal.returns
returns g c =
    let line = line_of-is c.args.label _ _ _ c.args.at c.args.look.now
    (c.as_bytes-number.ensures.value ∙ c.format.ensures.text) c.new-line.ensures c.add_front.ensures.text in
    PutsText-line _ _ _ _ c.add_front.new.line.items (shape_text c.args.look.now.shape) _ _ _ _ c.in_ok-gather_shape.ensures.gathers.cause.stays
    c.in_ok-gather_shape.ensures.gathers.whole c.add_fields.ensures.text line c.put_gathered.ensures
