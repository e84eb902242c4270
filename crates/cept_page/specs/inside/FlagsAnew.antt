-- Flags of rows that are made anew by what stands in them (this project's own).
use Rattle.std.specs.Prelude.{ℕ, ◌≡◌, ◌≢◌, ◌≤◌, ◌<◌, ◌-◌, ◌⊎◌, Bool, false, List, [], length, slice_index_or}
use Rattle.cept_codes.specs.declared.attribute.Pen.{Pen}
use Rattle.cept_codes.specs.declared.cell.Cell.{Cell}
use Rattle.cept_codes.specs.declared.cell.What.{What}
use Rattle.cept_codes.specs.Cell.{blank_cell}
use Rattle.cept_codes.specs.Table.{entry}
use Rattle.cept_delta.specs.Noted.{IsRowUnnoted}
use Rattle.cept_profile.specs.Look.{is_double_set, sets_double_size}
use Rattle.cept_profile.specs.OldValues.{OldValues}
use Rattle.cept_profile.specs.PageParts.{row_pen_in}
use Rattle.cept_profile.specs.Serial.{is_marker}

-- nothing such stands in the cells of a row
abbrev pub RowHasNone : (What → Bool) → List Cell → Type 0
RowHasNone is_such cells = (c : ℕ) → 1 ≤ c → c ≤ 40 → is_such (entry blank_cell 1 cells c).what ≡ false

-- neither the cells of a row nor its attributes set a double size
abbrev pub IsSingle : List Cell → Pen → Type 0
IsSingle cells pen = RowHasNone sets_double_size cells × (is_double_set pen.size ≡ false)

-- a flag for each row, as before but for row k: where the flag of row k is unset, this is so
pub record IsFlagMade (IsSo : Type 0) (k : ℕ) (was now : List Bool) : Type 0 where
  pub rows : length now ≡ 24
  pub others : (r : ℕ) → 1 ≤ r → r ≤ 24 → k ≢ r → entry false 1 now r ≡ entry false 1 was r
  pub here : entry false 1 now k ≡ false → IsSo

-- this is so of row r, or its flag was unset and no old value of it is noted
abbrev pub IsSoOrStays : Type 0 → OldValues → List Bool → ℕ → Type 0
IsSoOrStays IsSo old was r = IsSo ⊎ ((entry false 1 was r ≡ false) × IsRowUnnoted old r)

-- the row of a table
abbrev pub row_in_table : List (List Cell) → ℕ → List Cell
row_in_table cells r = slice_index_or cells (r - 1) []

-- no marker stands in row r, or its flag was unset and no old value of it is noted
abbrev pub IsUnmarkedRow : List (List Cell) → OldValues → List Bool → ℕ → Type 0
IsUnmarkedRow cells old was r = IsSoOrStays (RowHasNone is_marker (row_in_table cells r)) old was r

-- row r sets no double size, or its flag was unset and no old value of it is noted
abbrev pub IsSingleRowAnew : List (List Cell) → List Pen → OldValues → List Bool → ℕ → Type 0
IsSingleRowAnew cells pens old was r = IsSoOrStays (IsSingle (row_in_table cells r) (row_pen_in pens r)) old was r

-- the flags of the rows before n say what is so, and the others are as they were
pub record AreFlagsMade (IsSo : ℕ → Type 0) (n : ℕ) (was now : List Bool) : Type 0 where
  pub rows : length now ≡ 24
  pub made : (r : ℕ) → 1 ≤ r → r ≤ 24 → r < n → entry false 1 now r ≡ false → IsSo r
  pub left : (r : ℕ) → 1 ≤ r → r ≤ 24 → n ≤ r → entry false 1 now r ≡ entry false 1 was r
