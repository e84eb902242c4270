-- The state of a decoder (own): its page and its control, and the core that its looks are made of.
use Rattle.std.specs.Prelude.{ℕ, Bool, Option, None, List, reverse}
use Rattle.cept_codes.specs.declared.attribute.Pen.{Pen}
use Rattle.cept_codes.specs.declared.cell.Cell.{Cell}
use Rattle.cept_codes.specs.declared.command.Command.{Command}
use Rattle.cept_codes.specs.declared.look.Paint.{Paint}
use Rattle.cept_codes.specs.declared.look.Pattern.{Pattern}
use Rattle.cept_codes.specs.declared.stroke.Stroke.{Stroke}
use Rattle.cept_codes.specs.Attribute.{unset_pen}
use Rattle.cept_codes.specs.Cell.{blank_cell}
use Rattle.cept_codes.specs.Table.{list_by_index, table}
use Rattle.cept_profile.specs.Cells.{cell_after, cells_after_all}
use Rattle.cept_profile.specs.Colours.{default_paint}
use Rattle.cept_profile.specs.Control.{ControlState, control, control_after}
use Rattle.cept_profile.specs.Definitions.{Definitions}
use Rattle.cept_profile.specs.PageParts.{left_by, row_pen_after, paint_after, dclut_after, pattern_after}
use Rattle.cept_profile.specs.PageParts.{list_of_rows, list_of_colours, list_of_dclut, list_of_codes, part_after_all}
use Rattle.cept_profile.specs.PageParts.{row_pens_after, screen_pen_after, paints_after, dclut_list_after}
use Rattle.cept_profile.specs.PageParts.{patterns_after}
use Rattle.cept_profile.specs.Strokes.{strokes_back, strokes_of}

-- what a page keeps: a table of its cells, the attributes of its rows and of the screen, the paints of the 32 colour
-- entries, the colour entries that the DCLUT names, and the patterns of the 94 codes of the downloaded set, 2/1 to 7/14
pub record Page : Type 0 where
  pub cells : List (List Cell)
  pub row_pens : List Pen
  pub screen_pen : Pen
  pub paints : List Paint
  pub dclut : List ℕ
  pub patterns : List (Option Pattern)

-- a page, and what the decoder keeps beside it
pub record State : Type 0 where
  pub page : Page
  pub control : ControlState

-- a page, and those settings of control that a written page brings back: looks are made of the page and of the edges alone
pub record Core : Type 0 where
  pub page : Page
  pub rows : ℕ
  pub wrap : Bool
  pub area : Option (ℕ × ℕ)
  pub implicit : Bool
  pub revision : ℕ

-- the core of a state
abbrev pub core_of : State → Core
core_of s = record {
  page = s.page;
  rows = s.control.rows;
  wrap = s.control.wrap;
  area = s.control.area;
  implicit = s.control.implicit;
  revision = s.control.revision;
}

-- what the signs of a page are drawn with
abbrev pub definitions_of : Page → Definitions
definitions_of p = record { paints = p.paints; dclut = p.dclut; patterns = p.patterns }

-- nothing is written and nothing set
abbrev pub blank_page : Page
blank_page = record {
  cells = table (λ r c. blank_cell);
  row_pens = list_of_rows (λ r. unset_pen);
  screen_pen = unset_pen;
  paints = list_of_colours default_paint;
  dclut = list_of_dclut (λ i. i);
  patterns = list_of_codes (λ d. None);
}

-- the page that strokes leave, the last first: each part by looking back over all of them
abbrev pub page_back : List Stroke → Page
page_back strokes = record {
  cells = table (left_by cell_after (λ r c. blank_cell) strokes);
  row_pens = list_by_index 1 24 (left_by row_pen_after (λ r. unset_pen) strokes);
  screen_pen = left_by (λ stroke was. screen_pen_after was stroke) unset_pen strokes;
  paints = list_by_index 0 32 (left_by paint_after default_paint strokes);
  dclut = list_by_index 0 4 (left_by dclut_after (λ i. i) strokes);
  patterns = list_by_index 0x21 94 (left_by pattern_after (λ d. None) strokes);
}

-- the state that the commands leave
abbrev pub state : List Command → State
state history = record { page = page_back (strokes_back (reverse history)); control = control history }

-- the core that the commands leave
abbrev pub core : List Command → Core
core history = core_of (state history)

-- a page after strokes
abbrev pub page_after : Page → List Stroke → Page
page_after p strokes = record {
  cells = cells_after_all p.cells strokes;
  row_pens = part_after_all row_pens_after p.row_pens strokes;
  screen_pen = part_after_all screen_pen_after p.screen_pen strokes;
  paints = part_after_all paints_after p.paints strokes;
  dclut = part_after_all dclut_list_after p.dclut strokes;
  patterns = part_after_all patterns_after p.patterns strokes;
}

-- the state after one more command
abbrev pub state_after : State → Command → State
state_after s command = record {
  page = page_after s.page (strokes_of s.control command);
  control = control_after s.control command;
}
