use Rattle.std.proofs.Common.{ap, ◌∙◌}
use Rattle.cept_rows.specs.Source.{Source, row_made}
use Rattle.cept_redraw.proofs.resolved_rows.resolve_row.Goals as goal

pub returns-clause-looks : goal.returns-clause-looks
returns-clause-looks g c =
    c.resolve_cells.ensures.looks ∙ ap (λ (s : Source). row_made s c.args.above.now)
    (c.ending.ensures ∙ ap (λ (s : Source). record s { last = c.args.last }) c.row_source.ensures)
