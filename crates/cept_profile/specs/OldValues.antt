-- Old values (own): what stood at locations of a state before they changed, and the state that has them back. A state has
-- 1,116 locations: 960 cells, the attributes of 24 rows and of the screen, 32 colour entries, four entries of the DCLUT,
-- the patterns of 94 codes, and control.
use Rattle.std.specs.Prelude.{ℕ, ◌≡◌, ◌≤◌, ◌<◌, Bool, false, Option, Some, None, List, is_some, unwrap_or, if◌then◌else◌}
use Rattle.cept_codes.specs.declared.attribute.Pen.{Pen}
use Rattle.cept_codes.specs.declared.cell.Cell.{Cell}
use Rattle.cept_codes.specs.declared.look.Paint.{Paint}
use Rattle.cept_codes.specs.declared.look.Pattern.{Pattern}
use Rattle.cept_codes.specs.Cell.{blank_cell}
use Rattle.cept_codes.specs.Place.{OnScreen}
use Rattle.cept_codes.specs.Table.{entry, table, value_at}
use Rattle.cept_profile.specs.Control.{ControlState}
use Rattle.cept_profile.specs.PageParts.{dclut_in, list_of_codes, list_of_colours, list_of_dclut, list_of_rows}
use Rattle.cept_profile.specs.PageParts.{paint_in, pattern_in, row_pen_in}
use Rattle.cept_profile.specs.State.{Page, State}

-- for each location the old value that is noted of it, or none; that a code had no pattern is an old value too
pub record OldValues : Type 0 where
  pub cells : List (List (Option Cell))
  pub row_pens : List (Option Pen)
  pub screen_pen : Option Pen
  pub paints : List (Option Paint)
  pub dclut : List (Option ℕ)
  pub patterns : List (Option (Option Pattern))
  pub control : Option ControlState

-- the old value of the cell at row r and column c
abbrev pub old_cell : OldValues → ℕ → ℕ → Option Cell
old_cell old r c = value_at None old.cells r c

-- of the attributes of row r
abbrev pub old_row_pen : OldValues → ℕ → Option Pen
old_row_pen old r = entry None 1 old.row_pens r

-- of the colour entry i
abbrev pub old_paint : OldValues → ℕ → Option Paint
old_paint old i = entry None 0 old.paints i

-- of the entry i of the DCLUT
abbrev pub old_dclut : OldValues → ℕ → Option ℕ
old_dclut old i = entry None 0 old.dclut i

-- of the pattern of a code
abbrev pub old_pattern : OldValues → ℕ → Option (Option Pattern)
old_pattern old d = entry None 0x21 old.patterns d

-- nothing is noted
abbrev pub no_old_values : OldValues
no_old_values = record {
  cells = table (λ r c. None);
  row_pens = list_of_rows (λ r. None);
  screen_pen = None;
  paints = list_of_colours (λ i. None);
  dclut = list_of_dclut (λ i. None);
  patterns = list_of_codes (λ d. None);
  control = None;
}

-- ---- unwinding

-- a page with the old values in place of its own where there are such
abbrev pub page_unwound : Page → OldValues → Page
page_unwound p old = record {
  cells = table (λ r c. unwrap_or (old_cell old r c) (value_at blank_cell p.cells r c));
  row_pens = list_of_rows (λ r. unwrap_or (old_row_pen old r) (row_pen_in p.row_pens r));
  screen_pen = unwrap_or old.screen_pen p.screen_pen;
  paints = list_of_colours (λ i. unwrap_or (old_paint old i) (paint_in p.paints i));
  dclut = list_of_dclut (λ i. unwrap_or (old_dclut old i) (dclut_in p.dclut i));
  patterns = list_of_codes (λ d. unwrap_or (old_pattern old d) (pattern_in p.patterns d));
}

-- a state with the old values in place of its own
abbrev pub unwound : State → OldValues → State
unwound s old = record { page = page_unwound s.page old; control = unwrap_or old.control s.control }

-- ---- noting

-- what is noted of a location after this value is noted too: the first one stands
abbrev pub first_noted : {X : Type 0} → Option X → X → Option X
first_noted None value = Some value
first_noted (Some first) value = Some first

-- the same, where this is one of the locations at which values are noted
abbrev pub noted_where : {X : Type 0} → Bool → X → Option X → Option X
noted_where here value old = if here then first_noted old value else old

-- old values after the values of these cells are noted
abbrev pub with_cells : (ℕ → ℕ → Bool) → (ℕ → ℕ → Cell) → OldValues → OldValues
with_cells these cell old = record old { cells = table (λ r c. noted_where (these r c) (cell r c) (old_cell old r c)) }

-- the attributes of these rows
abbrev pub with_row_pens : (ℕ → Bool) → (ℕ → Pen) → OldValues → OldValues
with_row_pens these pen old = record old { row_pens = list_of_rows (λ r. noted_where (these r) (pen r) (old_row_pen old r)) }

-- those of the screen
abbrev pub with_screen_pen : Pen → OldValues → OldValues
with_screen_pen pen old = record old { screen_pen = first_noted old.screen_pen pen }

-- the paints of these colour entries
abbrev pub with_paints : (ℕ → Bool) → (ℕ → Paint) → OldValues → OldValues
with_paints these paint old = record old { paints = list_of_colours (λ i. noted_where (these i) (paint i) (old_paint old i)) }

-- these entries of the DCLUT
abbrev pub with_dclut : (ℕ → Bool) → (ℕ → ℕ) → OldValues → OldValues
with_dclut these colour old = record old { dclut = list_of_dclut (λ i. noted_where (these i) (colour i) (old_dclut old i)) }

-- the patterns of these codes
abbrev pub with_patterns : (ℕ → Bool) → (ℕ → Option Pattern) → OldValues → OldValues
with_patterns these pattern old =
    record old { patterns = list_of_codes (λ d. noted_where (these d) (pattern d) (old_pattern old d)) }

-- control
abbrev pub with_control : ControlState → OldValues → OldValues
with_control control old = record old { control = first_noted old.control control }

-- the pages have the same value at each location of which no old value is noted
pub record DifferWhereNoted (old : OldValues) (p q : Page) : Type 0 where
  pub cells : (r c : ℕ) → OnScreen r c → is_some (old_cell old r c) ≡ false
      → value_at blank_cell p.cells r c ≡ value_at blank_cell q.cells r c
  pub row_pens : (r : ℕ) → 1 ≤ r → r ≤ 24 → is_some (old_row_pen old r) ≡ false
      → row_pen_in p.row_pens r ≡ row_pen_in q.row_pens r
  pub screen_pen : is_some old.screen_pen ≡ false → p.screen_pen ≡ q.screen_pen
  pub paints : (i : ℕ) → i < 32 → is_some (old_paint old i) ≡ false → paint_in p.paints i ≡ paint_in q.paints i
  pub dclut : (i : ℕ) → i < 4 → is_some (old_dclut old i) ≡ false → dclut_in p.dclut i ≡ dclut_in q.dclut i
  pub patterns : (d : ℕ) → 0x21 ≤ d → d ≤ 0x7E → is_some (old_pattern old d) ≡ false
      → pattern_in p.patterns d ≡ pattern_in q.patterns d
