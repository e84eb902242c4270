-- Of what old values are noted (this project's own): of the cells of a row, of its attributes, and of what any row may
-- look by.
use Rattle.std.specs.Prelude.{ℕ, ◌≡◌, ◌-◌, ◌||◌, Bool, None, [], is_some, slice_index_or}
use Rattle.std.specs.List.{list_any}
use Rattle.cept_codes.specs.Place.{OnScreen}
use Rattle.cept_profile.specs.OldValues.{OldValues, old_cell, old_row_pen}

-- a cell of row r is noted
abbrev pub notes_cells : OldValues → ℕ → Bool
notes_cells old r = list_any is_some (slice_index_or old.cells (r - 1) [])

-- a cell of the row is noted, or its attributes are
unfoldable pub notes_row : OldValues → ℕ → Bool
notes_row old r = notes_cells old r || is_some (old_row_pen old r)

-- something is noted by which any row may look: the attributes of the screen, a colour entry, an entry of the DCLUT or a
-- pattern
unfoldable pub notes_screen : OldValues → Bool
notes_screen old =
    is_some old.screen_pen || list_any is_some old.paints || list_any is_some old.dclut || list_any is_some old.patterns

-- no old value is noted of the cells of row r, and none of its attributes
pub record IsRowUnnoted (old : OldValues) (r : ℕ) : Type 0 where
  pub cells : (c : ℕ) → OnScreen r c → old_cell old r c ≡ None
  pub pen : old_row_pen old r ≡ None
