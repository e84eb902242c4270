use Rattle.std.proofs.Common.{◌-◌, set, ap, ◌∙◌}
use Rattle.cept_codes.specs.Table.{row_of}
use Rattle.cept_profile.specs.RowsFromAbove.{looks_in}
use Rattle.cept_rows.specs.Flagged.{look_after}
use Rattle.cept_rows.specs.Source.{Source, look_by_itself}
use Rattle.cept_redraw.proofs.redefined_places.resolve_columns.Goals as goal

pub returns-clause-looks : goal.returns-clause-looks
returns-clause-looks g c =
    c.resolve_columns.ensures.looks
    ∙ ap (λ (s : Source). set c.args.kept.now (c.args.row - 1)
    (row_of (look_after c.args.flags.now (look_by_itself s) (looks_in c.args.kept.now c.args.row)))) c.row_source.ensures

pub returns-clause-differ : goal.returns-clause-differ
returns-clause-differ g c = c.resolve_columns.ensures.differ
