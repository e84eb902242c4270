-- The state of control: what the decoder keeps beside the page. Which state there is, and what ends a mosaic run or
-- unsets the pen, is this profile's own.
use Rattle.std.specs.Prelude.{ℕ, Bool, true, false, Option, None}
use Rattle.cept_codes.specs.declared.attribute.Pen.{Pen}
use Rattle.cept_codes.specs.declared.command.C1Set.{C1Set}
use Rattle.cept_codes.specs.declared.command.C1Set.TheVariants as c1sets
use Rattle.cept_codes.specs.declared.glyph.Glyph.{Glyph}
use Rattle.cept_codes.specs.Attribute.{unset_pen}
pub use Rattle.cept_profile.specs.Sets.{Sets, initial_sets}

-- the state that a break of the service keeps
pub record Working : Type 0 where
  pub row : ℕ
  pub column : ℕ
  pub c1 : C1Set
  pub sets : Sets
  pub accent : Option ℕ  -- an accent that waits for its sign
  pub last : Option Glyph  -- the last sign written
  pub pen : Pen
  pub fast : ℕ  -- the fast flash in force, 0 for none
  pub run : Bool  -- left bytes are mosaics
  pub step : ℕ  -- how many columns a sign moves on under the serial set
  pub table : ℕ  -- the colour table
  pub protect : Bool  -- written cells become protected

-- the whole state of control
pub record ControlState : Type 0 where
  pub working : Working
  pub rows : ℕ
  pub wrap : Bool
  pub area : Option (ℕ × ℕ)
  pub implicit : Bool
  pub revision : ℕ  -- the revision of the rules, 1 or 2
  pub kept : Option Working

-- at the start: the first place, the parallel set, nothing that waits and nothing set
abbrev pub initial_working : Working
initial_working = record {
  row = 1;
  column = 1;
  c1 = c1sets.Parallel;
  sets = initial_sets;
  accent = None;
  last = None;
  pen = unset_pen;
  fast = 0;
  run = false;
  step = 1;
  table = 0;
  protect = false;
}

-- the state at the start
abbrev pub initial_control : ControlState
initial_control = record {
  working = initial_working;
  rows = 24;
  wrap = true;
  area = None;
  implicit = false;
  revision = 1;
  kept = None;
}

-- the state with this working state
abbrev pub control_with : ControlState → Working → ControlState
control_with s w = record s { working = w }

-- the state at another place
abbrev pub working_at : ℕ → ℕ → Working → Working
working_at r c w = record w { row = r; column = c }

-- defaults: all but the position is as at the start, under this C1 set
abbrev pub working_by_default : C1Set → Working → Working
working_by_default set w = record initial_working { row = w.row; column = w.column; c1 = set }

-- at a place where no class of the pen is set, no fast flash is in force, no mosaic run goes on, and signs move on by one column
abbrev pub working_afresh : ℕ → ℕ → Working → Working
working_afresh r c w = record w { row = r; column = c; pen = unset_pen; fast = 0; run = false; step = 1 }
