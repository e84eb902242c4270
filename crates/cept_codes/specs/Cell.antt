-- Valid cells: a sign or a marker with colours of the tables (what a cell keeps is this profile's own).
use Rattle.std.specs.Prelude.{◌≡◌, false, length}
use Rattle.std.specs.List.{AllByRecursion}
use Rattle.cept_codes.specs.declared.cell.Marker.{Marker}
use Rattle.cept_codes.specs.declared.cell.Marker.TheVariants as markers
use Rattle.cept_codes.specs.declared.cell.What.{What}
use Rattle.cept_codes.specs.declared.cell.What.TheVariants as whats
use Rattle.cept_codes.specs.declared.cell.Cell.{Cell}
use Rattle.cept_codes.specs.declared.cell.RowCells.{RowCells}
use Rattle.cept_codes.specs.Attribute.{IsEntry, IsValidPen}
use Rattle.cept_codes.specs.Glyph.{IsValidGlyph}

-- colours are entries
abbrev pub IsValidMarker : Marker → Type 0
IsValidMarker (markers.Alpha e) = IsEntry e
IsValidMarker (markers.Mosaic e) = IsEntry e
IsValidMarker markers.BlackBack = Unit {0}
IsValidMarker markers.NewBack = Unit {0}
IsValidMarker markers.Hold = Unit {0}
IsValidMarker markers.Release = Unit {0}
IsValidMarker (markers.Flash f) = Unit {0}
IsValidMarker (markers.Conceal b) = Unit {0}
IsValidMarker (markers.Lined b) = Unit {0}
IsValidMarker (markers.Boxed b) = Unit {0}
IsValidMarker (markers.Size s) = Unit {0}

-- a sign alone, a sign with a pen, or a marker
abbrev pub IsValidWhat : What → Type 0
IsValidWhat whats.Blank = Unit {0}
IsValidWhat (whats.Serial g) = IsValidGlyph g
IsValidWhat (whats.Parallel g pen) = IsValidGlyph g × IsValidPen pen
IsValidWhat (whats.Marker m) = IsValidMarker m

-- whether it is protected is free
abbrev pub IsValidCell : Cell → Type 0
IsValidCell c = IsValidWhat c.what

-- forty valid cells
pub record IsValidRow (row : RowCells) : Type 0 where
  pub places : length row.cells ≡ 40
  pub cells : AllByRecursion IsValidCell row.cells

-- nothing is written, and writing is free
abbrev pub blank_cell : Cell
blank_cell = record { what = whats.Blank; protected = false }
