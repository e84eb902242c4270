use Rattle.std.proofs.Common.{[], ◌∷◌, ◌++◌, sym, ◌∙◌, ap}
use Rattle.cept_codes.specs.declared.look.Look.{Look}
use Rattle.cept_report.specs.Front.{cell_line, front_text}
use Rattle.cept_report.specs.Text.{fields_text, shape_text}
use Rattle.cept_report.proofs.TextsGathered.{line-is, Gathers-line, Gathers-line_failed}
use Rattle.std.proofs.lemmas.Result.{err_from_is_err_and}
use Rattle.cept_report.proofs.gathering.gather_change.Goals as goal

pub returns-in_err-gather_seen : goal.returns-in_err-gather_seen
returns-in_err-gather_seen g c =
    let line = ap (λ (l : Look). c.args.label.now ++ 32 ∷ cell_line c.args.at l) (sym c.look-look.ensures.look)
    ∙ line-is c.args.label.now c.args.at c.look-look.result in
    rw (err_from_is_err_and c.from_residual-in_err-gather_seen.result c.from_residual-in_err-gather_seen.ensures.1).1
    (Gathers-line_failed _ _ _ _ _ _ _ _ _ _ _ c.in_ok-make_room.ensures.gathers.whole
    c.in_ok-make_room.ensures.gathers.cause.stays c.add_front.ensures.text c.in_err-gather_seen.ensures.gathers.part
    c.in_err-gather_seen.ensures.gathers.cause line)

pub returns : goal.returns
returns g c =
    let line = ap (λ (l : Look). c.args.label.now ++ 32 ∷ cell_line c.args.at l) (sym c.look-look.ensures.look)
    ∙ line-is c.args.label.now c.args.at c.look-look.result in
    Gathers-line _ _ _ _ _ _ _ (front_text c.args.label.now c.args.at) (shape_text c.look-look.result.shape) _
    (32 ∷ fields_text c.look-look.result ++ 10 ∷ []) _ c.in_ok-make_room.ensures.gathers.whole
    c.in_ok-make_room.ensures.gathers.cause.stays c.add_front.ensures.text c.in_ok-gather_seen.ensures.gathers.whole
    c.in_ok-gather_seen.ensures.gathers.cause.stays line c.add_ending.ensures.text
