-- The parts of a page where they stand (this project's own).
use Rattle.cept_codes.specs.declared.cell.Cell.{Cell}
use Rattle.cept_codes.specs.Cell.{blank_cell}
use Rattle.cept_codes.specs.Place.{Place}
use Rattle.cept_codes.specs.Table.{value_at}
use Rattle.cept_profile.specs.State.{Page}
use Rattle.cept_page.specs.declared.page.Pens.{Pens}

-- the cell at a place
abbrev pub cell_at : Page → Place → Cell
cell_at p place = value_at blank_cell p.cells place.row place.column

-- the attributes of the rows, and of the screen
abbrev pub pens_of : Page → Pens
pens_of p = record { rows = p.row_pens; screen = p.screen_pen }
