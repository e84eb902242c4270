-- A page of its parts, of which a noter takes note (this project's own).
use Rattle.std.specs.Prelude.{Option, List}
use Rattle.cept_codes.specs.declared.attribute.Pen.{Pen}
use Rattle.cept_codes.specs.declared.cell.Cell.{Cell}
use Rattle.cept_codes.specs.declared.look.Pattern.{Pattern}
use Rattle.cept_colours.specs.Colours.{ColourTables}
use Rattle.cept_profile.specs.State.{Page}
use Rattle.cept_delta.specs.declared.noter.PageBefore.{PageBefore}

-- the page of these parts
abbrev pub page_with : List (List Cell) → List Pen → Pen → ColourTables → List (Option Pattern) → Page
page_with cells row_pens screen_pen colours patterns = record {
  cells = cells;
  row_pens = row_pens;
  screen_pen = screen_pen;
  paints = colours.paints;
  dclut = colours.dclut;
  patterns = patterns;
}

-- the page whose parts these are
abbrev pub page_before : PageBefore → Page
page_before b = page_with b.grid.now b.row_pens.now b.screen_pen.now b.colours.now b.patterns.now
