-- The fields of `Delta`, and what they hold (this project's own). Beside the old values stands for each row whether a cell
-- of it may be noted, and for attributes of rows, for colours and for patterns whether any may.
use Rattle.std.specs.Prelude.{ℕ, ◌≡◌, Bool, false, None, List, length}
use Rattle.cept_codes.specs.Place.{OnScreen}
use Rattle.cept_codes.specs.Table.{IsTable, entry}
use Rattle.cept_profile.specs.OldValues.{OldValues, no_old_values, old_cell}
use Rattle.cept_delta.specs.declared.delta.Delta.TheInside.{Inside}

-- the old values that the fields hold
abbrev pub values_of : Inside → OldValues
values_of d = record {
  cells = d.cells.items;
  row_pens = d.row_pens;
  screen_pen = d.screen_pen;
  paints = d.paints;
  dclut = d.dclut;
  patterns = d.patterns.items;
  control = d.control;
}

-- a place for each location
pub record HasPlaces (old : OldValues) : Type 0 where
  pub cells : IsTable old.cells
  pub row_pens : length old.row_pens ≡ 24
  pub paints : length old.paints ≡ 32
  pub dclut : length old.dclut ≡ 4
  pub patterns : length old.patterns ≡ 94

-- a flag that isn't set says that nothing is noted there
pub record AreFlagged (old : OldValues) (rows : List Bool) (penned coloured patterned : Bool) : Type 0 where
  pub flags : length rows ≡ 24
  pub cells : (r c : ℕ) → OnScreen r c → entry false 1 rows r ≡ false → old_cell old r c ≡ None
  pub row_pens : penned ≡ false → old.row_pens ≡ no_old_values.row_pens
  pub paints : coloured ≡ false → old.paints ≡ no_old_values.paints
  pub dclut : coloured ≡ false → old.dclut ≡ no_old_values.dclut
  pub patterns : patterned ≡ false → old.patterns ≡ no_old_values.patterns

-- places for all old values, and flags
pub record IsKeptDelta (old : OldValues) (rows : List Bool) (penned coloured patterned : Bool) : Type 0 where
  pub places : HasPlaces old
  pub flagged : AreFlagged old rows penned coloured patterned
