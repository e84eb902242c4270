-- Valid strokes: changes of places, rows and entries that there are, to valid values (strokes are this profile's own).
use Rattle.std.specs.Prelude.{ℕ, ◌≤◌, ◌≡◌, ◌⊎◌}
use Rattle.cept_codes.specs.declared.stroke.Stroke.{Stroke}
use Rattle.cept_codes.specs.declared.stroke.Stroke.TheVariants as strokes
use Rattle.cept_codes.specs.declared.look.Paint.{Paint}
use Rattle.cept_codes.specs.declared.look.Paint.TheVariants as paints
use Rattle.cept_codes.specs.Attribute.{IsEntry, IsRowAttr, IsScreenAttr}
use Rattle.cept_codes.specs.Cell.{IsValidCell}
use Rattle.cept_codes.specs.Command.{IsArea}
use Rattle.cept_codes.specs.Look.{IsValidPattern, IsValidRgb}
use Rattle.cept_codes.specs.Place.{OnScreen}
pub use Rattle.cept_codes.specs.Place.{IsRow}

-- a paint that an entry can have: only the entries 8 and 24 may show what lies behind the screen
abbrev pub IsPaintOf : ℕ → Paint → Type 0
IsPaintOf i (paints.Ink c) = IsValidRgb c
IsPaintOf i paints.Video = (i ≡ 8) ⊎ (i ≡ 24)

-- each number names what there is, and each value is valid
abbrev pub IsValidStroke : Stroke → Type 0
IsValidStroke (strokes.Put p cell) = OnScreen p.row p.column × IsValidCell cell
IsValidStroke (strokes.Erase r from) = OnScreen r from
IsValidStroke strokes.Wipe = Unit {0}
IsValidStroke (strokes.Shift a b way) = IsArea a b
IsValidStroke (strokes.Carry a b way) = IsArea a b
IsValidStroke (strokes.RowAttr r attr) = IsRow r × IsRowAttr attr
IsValidStroke (strokes.ScreenAttr attr) = IsScreenAttr attr
IsValidStroke strokes.ScreenClear = Unit {0}
IsValidStroke (strokes.Colour i paint) = IsEntry i × IsPaintOf i paint
IsValidStroke (strokes.Dclut i v) = (i ≤ 3) × IsEntry v
IsValidStroke strokes.ColourDefaults = Unit {0}
IsValidStroke strokes.DrcsClear = Unit {0}
IsValidStroke (strokes.Drcs code pattern) = (0x21 ≤ code) × (code ≤ 0x7E) × IsValidPattern pattern
IsValidStroke (strokes.Format rows) = (rows ≡ 24) ⊎ (rows ≡ 20)
