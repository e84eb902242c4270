use Rattle.std.proofs.Common.{◌∙◌}
use Rattle.cept_rows.specs.KeptNames.{names_kept}
use Rattle.cept_rows.proofs.NamesKept.{names_of_core}
use Rattle.cept_rows.proofs.naming.name_row.Goals as goal

pub returns-clause-beneath : goal.returns-clause-beneath
returns-clause-beneath c k r d on cells row screen looks above =
    c.name_places.ensures d on.from_left on.to_right
    ∙ names_of_core (names_kept c.args.above.now) c.args.looks.now c.args.cells.now.cells c.args.row.now
    c.args.screen.now k r d on cells row screen looks above
