-- Rows in which no marker stands and no double size is set (this project's own): there each cell looks as it does by
-- itself, where the row above covers nothing either.
use Rattle.std.specs.Prelude.{ℕ, ◌≡◌, ◌≤◌, ◌<◌, ◌-◌, Bool, false, List, length}
use Rattle.cept_codes.specs.declared.cell.Cell.{Cell}
use Rattle.cept_codes.specs.declared.cell.What.{What}
use Rattle.cept_codes.specs.Cell.{blank_cell}
use Rattle.cept_codes.specs.Place.{Place, OnScreen}
use Rattle.cept_codes.specs.Table.{value_at, entry}
use Rattle.cept_profile.specs.Look.{is_double_set, sets_double_size}
use Rattle.cept_profile.specs.PageParts.{row_pen_in}
use Rattle.cept_profile.specs.Serial.{is_marker}
use Rattle.cept_profile.specs.State.{Page}

-- nothing such stands in a cell of row r
abbrev pub HasNone : (What → Bool) → List (List Cell) → ℕ → Type 0
HasNone is_such cells r = (c : ℕ) → OnScreen r c → is_such (value_at blank_cell cells r c).what ≡ false

-- neither what stands in row r nor its attributes set a double size
pub record IsSingleRow (p : Page) (r : ℕ) : Type 0 where
  pub cells : HasNone sets_double_size p.cells r
  pub pen : is_double_set (row_pen_in p.row_pens r).size ≡ false

-- no marker stands in row r, and neither in it nor in the row above is a double size set
pub record StandsAlone (p : Page) (r : ℕ) : Type 0 where
  pub unmarked : HasNone is_marker p.cells r
  pub single : IsSingleRow p r
  pub single_above : 1 < r → IsSingleRow p (r - 1)

-- neither a cell that is put in a page nor the one there is a marker, nor is one to the right of it in its row
pub record IsPutAmongSigns (p : Page) (place : Place) (cell : Cell) : Type 0 where
  pub put : is_marker cell.what ≡ false
  pub others : (c : ℕ) → OnScreen place.row c → place.column ≤ c
      → is_marker (value_at blank_cell p.cells place.row c).what ≡ false

-- a flag for each row, set where this may not be so of it: where the flag is unset it is so
pub record AreRowFlags (IsSo : ℕ → Type 0) (flags : List Bool) : Type 0 where
  pub rows : length flags ≡ 24
  pub none : (r : ℕ) → 1 ≤ r → r ≤ 24 → entry false 1 flags r ≡ false → IsSo r

-- a page whose lists have their lengths, and beside it flags of the rows that may have a marker and of those in which a
-- double size may be set
pub record IsKeptPage (p : Page) (marked sized : List Bool) : Type 0 where
  pub rows : length p.row_pens ≡ 24
  pub colours : length p.paints ≡ 32
  pub names : length p.dclut ≡ 4
  pub codes : length p.patterns ≡ 94
  pub markers : AreRowFlags (HasNone is_marker p.cells) marked
  pub sizes : AreRowFlags (IsSingleRow p) sized
