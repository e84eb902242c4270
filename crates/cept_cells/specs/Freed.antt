-- Freed rows (own): a row is made blank whole, its protected cells too.
use Rattle.std.specs.Prelude.{ℕ, ◌==◌, if◌then◌else◌, List}
use Rattle.cept_codes.specs.declared.cell.Cell.{Cell}
use Rattle.cept_codes.specs.Cell.{blank_cell}
use Rattle.cept_codes.specs.Table.{table, value_at}

-- a table of cells after a row was freed
abbrev pub cells_freed : List (List Cell) → ℕ → List (List Cell)
cells_freed cells row = table (λ r c. if row == r then blank_cell else value_at blank_cell cells r c)
