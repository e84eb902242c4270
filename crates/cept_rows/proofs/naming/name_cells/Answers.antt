use Rattle.cept_rows.proofs.naming.name_cells.Goals as goal

pub returns : goal.returns
returns c =
    record { names = rw (← c.cells.ensures, ← c.row_pen.ensures, ← c.screen_pen.ensures) c.name_places.ensures }
