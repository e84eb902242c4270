use Rattle.std.proofs.Common.{◌∙◌}
use Rattle.cept_codes.specs.Table.{list_by_index}
use Rattle.cept_redraw.specs.Named.{row_named}
use Rattle.cept_redraw.specs.inside.Redefined.{is_place_redefined}
use Rattle.cept_redraw.proofs.RefreshedPlaces.{IsRefreshedRow-places}
use Rattle.cept_redraw.proofs.picture.Picture.refresh_places.Goals as goal

pub returns-clause-refreshed : goal.returns-clause-refreshed
returns-clause-refreshed g c =
    IsRefreshedRow-places c.args.self.now.page c.args.strokes.now (row_named c.args.self.now.names c.args.row) c.args.row
    c.args.self.now.looks c.resolve_columns-differ.new.kept c.args.marks.now c.mark_row.new.self
    c.places_redefined-flags.result c.resolve_columns-differ.result c.whole_by_type.ensures c.number-number.ensures.in_range.0
    c.number-number.ensures.in_range.1
    (c.places_redefined-flags.ensures
    ∙ (λ i. list_by_index 1 40 (is_place_redefined c.args.strokes.now (c.row.ensures i) (c.row-2.ensures i))))
    c.resolve_columns-differ.ensures.looks c.resolve_columns-differ.ensures.differ c.mark_row.ensures
