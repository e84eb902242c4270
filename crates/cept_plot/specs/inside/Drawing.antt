-- A set of points while it is drawn, cell by cell (this project's own).
use Rattle.std.specs.Prelude.{ℕ, ◌≡◌, ◌&&◌, ◌==◌, nat_lt, Bool, false, if◌then◌else◌}
use Rattle.cept_codes.specs.declared.cell.Cell.{Cell}
use Rattle.cept_codes.specs.declared.cell.What.TheVariants as whats
use Rattle.cept_codes.specs.declared.command.C1Set.TheVariants as c1sets
use Rattle.cept_codes.specs.declared.glyph.Glyph.{Glyph}
use Rattle.cept_codes.specs.declared.glyph.SetId.TheVariants as sets
use Rattle.cept_codes.specs.Attribute.{unset_pen}
use Rattle.cept_codes.specs.Place.{OnScreen, number}
use Rattle.cept_profile.specs.Sets.{sign}
use Rattle.cept_profile.specs.State.{Core, State, core_of}
use Rattle.cept_profile.specs.Valid.{IsValidState}
use Rattle.cept_profile.specs.Working.{ControlState, working_by_default}
use Rattle.cept_plot.specs.Commands.{cell_in_core, code_of_value, is_written_anew, value_of_points}

-- the sign of a value: the space, or a block mosaic
abbrev pub sign_of_value : ℕ → Glyph
sign_of_value v = if v == 0 then sign sets.P 0x20 else sign sets.M (code_of_value v)

-- the cell of a value: its sign is written in parallel, without protection, and nothing of its pen is set
abbrev pub cell_of_value : ℕ → Cell
cell_of_value v = record { what = whats.Parallel (sign_of_value v) unset_pen; protected = false }

-- the cell in row r and column c after those of the first n numbers
abbrev pub cell_in_drawing : Core → (ℕ → ℕ → Bool) → ℕ → ℕ → ℕ → Cell
cell_in_drawing k f n r c =
    if nat_lt (number r c) n && is_written_anew k f r c then cell_of_value (value_of_points f r c)
    else cell_in_core k r c

-- control while it is drawn: all but the position and the last sign is by default, under the parallel set, and implicit
-- scrolling is off; format, wrap, area and revision are those of the core, and what a service keeps is kept
abbrev pub control_in_drawing : Core → ControlState → ControlState
control_in_drawing k s = record {
  working = record (working_by_default c1sets.Parallel s.working) { last = s.working.last };
  rows = k.rows;
  wrap = k.wrap;
  area = k.area;
  implicit = false;
  revision = k.revision;
  kept = s.kept;
}

-- a state stands after the opening and the cells of the first n numbers
pub record StandsDrawn (k : Core) (f : ℕ → ℕ → Bool) (n : ℕ) (s : State) : Type 0 where
  pub valid : IsValidState s
  pub control : s.control ≡ control_in_drawing k s.control
  pub cells : (r c : ℕ) → OnScreen r c → cell_in_core (core_of s) r c ≡ cell_in_drawing k f n r c
  -- no other part of the page changes
  pub page : s.page ≡ record (k.page) { cells = s.page.cells }
