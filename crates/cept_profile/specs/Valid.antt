-- Valid states (own): every valid command keeps them valid.
use Rattle.std.specs.Prelude.{ℕ, ◌≡◌, ◌≤◌, ◌<◌, ◌⊎◌, IfSome, false, List, length}
use Rattle.std.specs.List.{AllByRecursion}
use Rattle.cept_codes.specs.declared.cell.What.TheVariants as whats
use Rattle.cept_codes.specs.declared.command.Command.{Command}
use Rattle.cept_codes.specs.declared.look.Look.{Look}
use Rattle.cept_codes.specs.Attribute.{IsEntry, IsRowPen, IsScreenPen, IsValidPen, unset_pen}
use Rattle.cept_codes.specs.Cell.{IsValidCell, blank_cell}
use Rattle.cept_codes.specs.Command.{IsArea, IsValidCommand}
use Rattle.cept_codes.specs.Glyph.{IsValidGlyph}
use Rattle.cept_codes.specs.Look.{IsValidLook, IsValidPaint, IsValidPattern, blank_look}
use Rattle.cept_codes.specs.Place.{OnScreen}
use Rattle.cept_codes.specs.Stroke.{IsPaintOf}
use Rattle.cept_codes.specs.Table.{IsTable, value_at}
use Rattle.cept_profile.specs.Control.{Working, ControlState}
use Rattle.cept_profile.specs.Definitions.{Definitions}
use Rattle.cept_profile.specs.PageParts.{dclut_in, paint_in, pattern_in, row_pen_in}
use Rattle.cept_profile.specs.Sets.{Sets}
use Rattle.cept_profile.specs.State.{Core, Page, State}

-- a list of valid commands
abbrev pub AllValid : List Command → Type 0
AllValid history = AllByRecursion IsValidCommand history

-- each shift names a set that it can lock or shift to
pub record AreValidSets (s : Sets) : Type 0 where
  pub left : s.left ≤ 3
  pub right : (1 ≤ s.right) × (s.right ≤ 3)
  pub single : IfSome s.single (λ g. (2 ≤ g) × (g ≤ 3))

-- a place of the screen, and each part in its range
pub record IsValidWorking (w : Working) : Type 0 where
  pub place : OnScreen w.row w.column
  pub sets : AreValidSets w.sets
  pub accent : IfSome w.accent (λ code. (0x40 ≤ code) × (code ≤ 0x4F))
  pub last : IfSome w.last IsValidGlyph
  pub pen : IsValidPen w.pen
  pub fast : w.fast ≤ 3
  pub step : (w.step ≡ 1) ⊎ (w.step ≡ 2)
  pub table : w.table ≤ 3

-- valid working state in force, and in what a service keeps; 24 or 20 rows, with the row in force among them; an area of
-- valid rows, or none; revision 1 or 2
pub record IsValidControl (s : ControlState) : Type 0 where
  pub working : IsValidWorking s.working
  pub rows : (s.rows ≡ 24) ⊎ (s.rows ≡ 20)
  pub within : s.working.row ≤ s.rows
  pub area : IfSome s.area (λ a. IsArea a.0 a.1)
  pub revision : (s.revision ≡ 1) ⊎ (s.revision ≡ 2)
  pub kept : IfSome s.kept IsValidWorking

-- valid paints and patterns, also past the last
pub record AreValidDefinitions (defined : Definitions) : Type 0 where
  pub paints : (i : ℕ) → IsValidPaint (paint_in defined.paints i)
  pub patterns : (code : ℕ) → 0x21 ≤ code → IfSome (pattern_in defined.patterns code) IsValidPattern

-- 24 rows of 40 valid cells, the blank ones unprotected, with valid attributes; those of the screen, 32 paints, four
-- entries of the DCLUT and 94 patterns or none, each valid
pub record IsValidPage (p : Page) : Type 0 where
  pub rows : length p.row_pens ≡ 24
  pub row_pens : (r : ℕ) → 1 ≤ r → r ≤ 24 → IsRowPen (row_pen_in p.row_pens r)
  pub screen_pen : IsScreenPen p.screen_pen
  pub colours : length p.paints ≡ 32
  pub paints : (i : ℕ) → i < 32 → IsPaintOf i (paint_in p.paints i)
  pub names : length p.dclut ≡ 4
  pub dclut : (i : ℕ) → i < 4 → IsEntry (dclut_in p.dclut i)
  pub codes : length p.patterns ≡ 94
  pub patterns : (code : ℕ) → 0x21 ≤ code → code ≤ 0x7E → IfSome (pattern_in p.patterns code) IsValidPattern
  pub table : IsTable p.cells
  pub cells : (r c : ℕ) → OnScreen r c → IsValidCell (value_at blank_cell p.cells r c)
  pub free : (r c : ℕ) → OnScreen r c → (value_at blank_cell p.cells r c).what ≡ whats.Blank
      → (value_at blank_cell p.cells r c).protected ≡ false

-- a valid page and valid control, and nothing past the format
pub record IsValidState (s : State) : Type 0 where
  pub page : IsValidPage s.page
  pub control : IsValidControl s.control
  pub past : (r c : ℕ) → OnScreen r c → s.control.rows < r → value_at blank_cell s.page.cells r c ≡ blank_cell
  pub unset : (r : ℕ) → 1 ≤ r → r ≤ 24 → s.control.rows < r → row_pen_in s.page.row_pens r ≡ unset_pen

-- a valid page of 24 or 20 rows with an area of valid rows, or none, under revision 1 or 2, and nothing past the format
pub record IsValidCore (k : Core) : Type 0 where
  pub page : IsValidPage k.page
  pub rows : (k.rows ≡ 24) ⊎ (k.rows ≡ 20)
  pub area : IfSome k.area (λ a. IsArea a.0 a.1)
  pub revision : (k.revision ≡ 1) ⊎ (k.revision ≡ 2)
  pub past : (r c : ℕ) → OnScreen r c → k.rows < r → value_at blank_cell k.page.cells r c ≡ blank_cell
  pub unset : (r : ℕ) → 1 ≤ r → r ≤ 24 → k.rows < r → row_pen_in k.page.row_pens r ≡ unset_pen

-- a grid of 24 rows of 40 valid looks
pub record IsValidGrid (g : List (List Look)) : Type 0 where
  pub table : IsTable g
  pub looks : (r c : ℕ) → OnScreen r c → IsValidLook (value_at blank_look g r c)
