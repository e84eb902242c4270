-- What private clauses say beside `MarkedRows` (this project's own).
use Rattle.std.specs.Prelude.{ℕ, ◌≡◌, ◌≤◌, ◌<◌, ◌-◌, ◌==◌, ◌&&◌, ◌||◌, Bool, false, List, length}
use Rattle.std.specs.Prelude.{Option, Some, None}
use Rattle.std.specs.Option.{option_map_or}
use Rattle.cept_codes.specs.declared.attribute.Attr.{Attr}
use Rattle.cept_codes.specs.declared.attribute.Attr.TheVariants as attrs
use Rattle.cept_codes.specs.declared.cell.What.{What}
use Rattle.cept_codes.specs.declared.stroke.Stroke.{Stroke}
use Rattle.cept_codes.specs.declared.stroke.Stroke.TheVariants as strokes
use Rattle.cept_codes.specs.Table.{entry}
use Rattle.cept_profile.specs.Cells.{shifted}
use Rattle.cept_profile.specs.Look.{is_double, sets_double_size}
use Rattle.cept_profile.specs.MovedRows.{MovedRows, moved_rows}
use Rattle.cept_profile.specs.Serial.{is_marker}

-- no flag of row r is set, and the flag of sizes of the row above isn't
pub record IsUnflagged (marked sized : List Bool) (r : ℕ) : Type 0 where
  pub unmarked : entry false 1 marked r ≡ false
  pub single : entry false 1 sized r ≡ false
  pub single_above : 1 < r → entry false 1 sized (r - 1) ≡ false

-- the flag of row r after a stroke, by the flags before it: something such that is put sets its own, a wipe unsets each,
-- and any other moves them with the cells of the rows that it moves
abbrev pub flag_after : (What → Bool) → Stroke → (ℕ → Bool) → ℕ → Bool
flag_after is_such (strokes.Put p cell) was r = was r || (p.row == r && is_such cell.what)
flag_after is_such strokes.Wipe was r = false
flag_after is_such stroke was r =
    option_map_or (λ (m : MovedRows). shifted m.way m.first m.last false was r) (moved_rows stroke) (was r)

-- an attribute of a double size
abbrev pub gives_size : Attr → Bool
gives_size (attrs.Size size) = is_double size
gives_size _ = false

-- the flag of sizes of row r after these rows moved: the cells bring theirs, and it stays, since attributes may stay
abbrev pub size_flag_after_move : Option MovedRows → (ℕ → Bool) → ℕ → Bool
size_flag_after_move None was r = was r
size_flag_after_move (Some m) was r = was r || shifted m.way m.first m.last false was r

-- the flag of sizes: an attribute of its row sets it too
abbrev pub size_flag_after : Stroke → (ℕ → Bool) → ℕ → Bool
size_flag_after (strokes.Put p cell) was r = was r || (p.row == r && sets_double_size cell.what)
size_flag_after (strokes.RowAttr row attr) was r = was r || (row == r && gives_size attr)
size_flag_after strokes.Wipe was r = false
size_flag_after stroke was r = size_flag_after_move (moved_rows stroke) was r

-- the flags of all rows after a stroke, those of markers and those of sizes, by those before it
pub record AreFlagsAfter (stroke : Stroke) (markers sizes markers_after sizes_after : List Bool) : Type 0 where
  pub marked_rows : length markers_after ≡ 24
  pub sized_rows : length sizes_after ≡ 24
  pub marked : (r : ℕ) → 1 ≤ r → r ≤ 24
      → entry false 1 markers_after r ≡ flag_after is_marker stroke (entry false 1 markers) r
  pub sized : (r : ℕ) → 1 ≤ r → r ≤ 24
      → entry false 1 sizes_after r ≡ size_flag_after stroke (entry false 1 sizes) r
