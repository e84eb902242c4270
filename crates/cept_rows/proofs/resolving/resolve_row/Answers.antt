use Rattle.std.proofs.Common.{ap, ◌∙◌}
use Rattle.cept_rows.specs.DrawnWith.{drawn_with}
use Rattle.cept_rows.specs.Source.{Source, row_made}
use Rattle.cept_rows.proofs.RowsOfCores.{row_of_core}
use Rattle.cept_rows.proofs.resolving.resolve_row.Goals as goal

pub returns-clause-beneath : goal.returns-clause-beneath
returns-clause-beneath g c =
    row_of_core c.args.above.now c.args.cells.now.cells c.args.row.now c.args.screen.now
    (drawn_with c.args.colours.now c.args.patterns.now) c.args.last c.resolve_cells.new.looks
    (c.resolve_cells.ensures.looks ∙ ap (λ (s : Source). row_made s c.args.above.now)
    (c.ending-source.ensures ∙ ap (λ (s : Source). record s { last = c.args.last }) c.new.ensures))
