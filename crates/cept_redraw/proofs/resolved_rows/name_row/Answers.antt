use Rattle.std.proofs.Common.{false, ap, refl, ◌∙◌}
use Rattle.cept_rows.specs.KeptNames.{names_made, own_names}
use Rattle.cept_rows.specs.Source.{Source}
use Rattle.cept_redraw.specs.Kept.{core_on}
use Rattle.cept_redraw.specs.inside.Kept.{source_of}
use Rattle.cept_redraw.proofs.NamesKept.{beneath-by}
use Rattle.cept_redraw.proofs.resolved_rows.name_row.Goals as goal

pub returns : goal.returns
returns c = λ k column on seen.
    c.name_cells.ensures.names column on.from_left on.to_right
    ∙ ap (λ (s : Source). names_made c.args.above.now c.args.looks.now (own_names s) column) c.row_source.ensures
    ∙ beneath-by c.args.above.now c.args.looks.now (source_of c.args.page.now c.args.row false).cells
    (source_of c.args.page.now c.args.row false).row_pen c.args.page.now.screen_pen (core_on k c.args.page.now)
    c.args.row column on.to_bottom refl refl refl seen
