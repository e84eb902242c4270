-- What the looks of a row come from (own): what stands in its cells, what it is drawn with, and whether a row follows it.
use Rattle.std.specs.Prelude.{ℕ, ◌≤◌, Bool, List}
use Rattle.cept_codes.specs.declared.attribute.Pen.{Pen}
use Rattle.cept_codes.specs.declared.attribute.Size.{Size}
use Rattle.cept_codes.specs.declared.cell.Cell.{Cell}
use Rattle.cept_codes.specs.declared.look.Look.{Look}
use Rattle.cept_codes.specs.Attribute.{IsValidPen}
use Rattle.cept_codes.specs.Cell.{IsValidWhat}
use Rattle.cept_codes.specs.Look.{blank_look}
use Rattle.cept_profile.specs.Definitions.{Definitions}
use Rattle.cept_profile.specs.Look.{look_in_row, look_of, size_in_row}
use Rattle.cept_profile.specs.RowsFromAbove.{look_from, row_from_above}
use Rattle.cept_profile.specs.Serial.{row_in}
use Rattle.cept_profile.specs.Tiling.{column_entry}
use Rattle.cept_profile.specs.Valid.{AreValidDefinitions}

-- its cells, its attributes and those of the screen, what signs are drawn with, and whether it is last
pub record Source : Type 0 where
  pub cells : List Cell
  pub row_pen : Pen
  pub screen_pen : Pen
  pub defined : Definitions
  pub last : Bool

-- forty cells in which something valid stands
abbrev pub AreValidCells : List Cell → Type 0
AreValidCells cells = (c : ℕ) → 1 ≤ c → c ≤ 40 → IsValidWhat (row_in cells c)

-- valid throughout
pub record IsValidSource (source : Source) : Type 0 where
  pub cells : AreValidCells source.cells
  pub row_pen : IsValidPen source.row_pen
  pub screen_pen : IsValidPen source.screen_pen
  pub defined : AreValidDefinitions source.defined

-- the look of what stands in a column, among the cells beside it
abbrev pub own_look : Source → ℕ → Look
own_look source = look_in_row source.defined (row_in source.cells) source.row_pen source.screen_pen

-- the size in which it is to be shown
abbrev pub own_size : Source → ℕ → Size
own_size source = size_in_row (row_in source.cells) source.row_pen source.screen_pen

-- what the places of the row show beneath these looks
abbrev pub place_made : Source → List Look → ℕ → Look
place_made source above = look_from (column_entry blank_look above) (own_look source) (own_size source) source.last

-- the row itself
abbrev pub row_made : Source → List Look → List Look
row_made source above = row_from_above above (own_look source) (own_size source) source.last

-- the look of what stands in a column by itself, in a row without markers
abbrev pub look_by_itself : Source → ℕ → Look
look_by_itself source c = look_of source.defined source.row_pen source.screen_pen (row_in source.cells c)
