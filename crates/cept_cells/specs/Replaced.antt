-- Replaced cells (own): one is replaced by another, a protected one too, which the stroke `Put` leaves as it is.
use Rattle.std.specs.Prelude.{List, if◌then◌else◌}
use Rattle.cept_codes.specs.declared.cell.Cell.{Cell}
use Rattle.cept_codes.specs.Cell.{blank_cell}
use Rattle.cept_codes.specs.Place.{Place}
use Rattle.cept_codes.specs.Table.{table, value_at}
use Rattle.cept_profile.specs.Cells.{is_at}

-- a table of cells with another one at a place
abbrev pub cells_with : List (List Cell) → Place → Cell → List (List Cell)
cells_with cells p cell = table (λ r c. if is_at p r c then cell else value_at blank_cell cells r c)
