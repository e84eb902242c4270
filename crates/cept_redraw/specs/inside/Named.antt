-- What private clauses say beside `Named` (this project's own).
use Rattle.std.specs.Prelude.{ℕ, ◌≡◌, ◌≤◌, ◌<◌, Bool, true, false, List, length, Some}
use Rattle.cept_codes.specs.Place.{OnScreen, number}
use Rattle.cept_codes.specs.Table.{entry}
use Rattle.cept_redraw.specs.declared.followed_rows.Followed.{Followed}
use Rattle.cept_redraw.specs.inside.Due.{row_from}
use Rattle.cept_redraw.specs.Marks.{is_marked}
use Rattle.cept_redraw.specs.Named.{NamesOfRows, is_known}

-- the names of all rows are known
abbrev pub AreAllKnown : NamesOfRows → Type 0
AreAllKnown names = (r : ℕ) → 1 ≤ r → r ≤ 24 → is_known names r ≡ true

-- ---- names that are forgotten

-- the same names as before, with a flag for each row; those of a row are known only where they were known before and
-- this is so of the row
pub record AreRemembered (was now : NamesOfRows) (IsSo : ℕ → Type 0) : Type 0 where
  pub above : now.above ≡ was.above
  pub rows : now.rows ≡ was.rows
  pub flags : length now.known ≡ 24
  pub known : (r : ℕ) → 1 ≤ r → r ≤ 24 → is_known now r ≡ true → (is_known was r ≡ true) × IsSo r

-- and they are known of each row of which they were known before and this is so
pub record AreJustRemembered (was now : NamesOfRows) (IsSo : ℕ → Type 0) : Type 0 where
  pub remembered : AreRemembered was now IsSo
  pub kept : (r : ℕ) → 1 ≤ r → r ≤ 24 → is_known was r ≡ true → IsSo r → is_known now r ≡ true

-- no place of row r with a number below this one is marked
abbrev pub IsUnmarkedBelow : List Bool → ℕ → ℕ → Type 0
IsUnmarkedBelow marks end r = (c : ℕ) → OnScreen r c → number r c < end → is_marked marks (number r c) ≡ false

-- row r of these rows isn't flagged, came of itself, and no place of it is marked
abbrev pub IsStill : List Bool → List Followed → List Bool → ℕ → Type 0
IsStill flags rows marks r =
    (entry false 1 flags r ≡ false) × (row_from rows r ≡ Some r)
    × ((c : ℕ) → OnScreen r c → is_marked marks (number r c) ≡ false)
