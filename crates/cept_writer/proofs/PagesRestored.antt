-- The commands of a valid core bring it back on a reset decoder, whole.
use Rattle.std.proofs.Common.{◌≡◌, ℕ, ◌+◌, ◌≤◌, ◌<◌, None, List, ◌++◌, reverse, refl, ap, ◌∙◌}
use Rattle.std.specs.Prelude.{IsTrue, ◌↔◌}
use Rattle.std.specs.List.{AllByRecursion}
use Rattle.cept_codes.specs.declared.command.Command.{Command}
use Rattle.cept_codes.specs.declared.look.Paint.{Paint}
use Rattle.cept_codes.specs.declared.stroke.Stroke.{Stroke}
use Rattle.cept_codes.specs.Attribute.{unset_pen}
use Rattle.cept_codes.specs.Cell.{blank_cell}
use Rattle.cept_codes.specs.Look.{black_paint}
use Rattle.cept_codes.specs.Place.{OnScreen}
use Rattle.cept_codes.specs.Same.{same_paint}
use Rattle.cept_codes.specs.Table.{value_at}
use Rattle.cept_codes.proofs.Laws.{list_by_index-entry, same_indexed, same_table, table-value_at}
use Rattle.cept_profile.specs.Control.{control}
use Rattle.cept_profile.specs.PageParts.{dclut_in, paint_in, pattern_in, row_pen_in}
use Rattle.cept_profile.specs.Colours.{default_paint}
use Rattle.cept_profile.specs.State.{Core, core_of, page_back, state}
use Rattle.cept_profile.specs.Valid.{IsValidCore}
use Rattle.cept_writer.proofs.CellsRestored.{cell_back, cell_left, cell_more, cell_step, cells_made, puts_cell}
use Rattle.cept_writer.proofs.CellsWritten.{puts_below}
use Rattle.cept_writer.proofs.Drawing.{control_of_drawn, strokes_of_drawn}
use Rattle.cept_writer.proofs.PageDrawn.{PageDraws, dclut_strokes, entries_strokes, first_strokes, page_strokes}
use Rattle.cept_writer.proofs.PageDrawn.{patterns_strokes, rows_strokes, screen_strokes, control_with_settings}
use Rattle.cept_writer.proofs.PartsRestored.{dclut_left, dclut_made, dclut_more, dclut_names, dclut_step, entries_colour}
use Rattle.cept_writer.proofs.PartsRestored.{entries_made, paint_left, paint_more, paint_step, pattern_left, pattern_more}
use Rattle.cept_writer.proofs.PartsRestored.{pattern_step, patterns_made, patterns_pattern, row_left, row_more, row_step}
use Rattle.cept_writer.proofs.PartsRestored.{rows_made, rows_row, screen_attributes, screen_left, screen_made, screen_more}
use Rattle.cept_writer.proofs.PartsRestored.{screen_step, paint_back, dclut_back, pattern_back, row_pen_back, screen_pen_back}
use Rattle.cept_writer.specs.AttributeCommands.{attributes_of}
use Rattle.cept_writer.proofs.StrokesByPart.{IsWritten, Pieces, folded_from_none, of_cells, of_colours, of_names}
use Rattle.cept_writer.proofs.StrokesByPart.{of_patterns, of_rows, of_screen, strokes_together, together_written}

-- the strokes of a page after its reset
abbrev pieces : Core → Pieces
pieces k = record {
  colours = entries_strokes k.page.paints 32;
  names = dclut_strokes k.page.dclut;
  patterns = patterns_strokes k.page.patterns 94;
  screen = screen_strokes k.page.screen_pen;
  rows = rows_strokes k.page.row_pens 24;
  cells = puts_below k.page.cells 960;
  all_colours = entries_colour k.page.paints 32;
  all_names = dclut_names k.page.dclut;
  all_patterns = patterns_pattern k.page.patterns 94;
  all_screen = screen_attributes (attributes_of k.page.screen_pen);
  all_rows = rows_row k.page.row_pens 24;
  all_cells = puts_cell k.page.cells 960;
}

-- all strokes, the reset before the others
abbrev pub all_strokes : Core → List Stroke
all_strokes k = first_strokes k.rows ++ strokes_together (pieces k)

strokes_are : (k : Core) → page_strokes k ≡ all_strokes k
unfolding page_strokes
strokes_are k = refl

written : (k : Core) → AllByRecursion IsWritten (all_strokes k)
written k = (
  λ e. absurd cc,
  (
    λ e. absurd cc,
    (
      λ e. absurd cc,
      (
        λ e. absurd cc,
        (
          λ e. absurd cc,
          (
            λ e. absurd cc,
            (λ e. absurd cc, together_written (pieces k)),
          ),
        ),
      ),
    ),
  ),
)

-- ---- each part by looking back

paint_is : ((a b : Paint) → IsTrue (same_paint a b) ↔ (a ≡ b)) → (k : Core) → IsValidCore k → (i : ℕ) → i < 32
    → paint_back (reverse (all_strokes k)) i ≡ paint_in k.page.paints i
paint_is decides k is i below =
    folded_from_none (λ list. paint_back list i) (paint_step i) IsWritten (λ s e _. paint_more i s e) (all_strokes k)
    (written k)
    ∙ of_colours (paint_step i) (pieces k) (default_paint i) (paint_left i)
    ∙ entries_made decides k.page.paints i below (is.page.paints i below)

dclut_is : (k : Core) (i : ℕ) → i < 4 → dclut_back (reverse (all_strokes k)) i ≡ dclut_in k.page.dclut i
dclut_is k i below =
    folded_from_none (λ list. dclut_back list i) (dclut_step i) IsWritten (λ s e _. dclut_more i s e) (all_strokes k)
    (written k)
    ∙ of_names (dclut_step i) (pieces k) i (dclut_left i) ∙ dclut_made k.page.dclut i below

pattern_is : (k : Core) (d : ℕ) → 0x21 ≤ d → d < 0x21 + 94
    → pattern_back (reverse (all_strokes k)) d ≡ pattern_in k.page.patterns d
pattern_is k d low high =
    folded_from_none (λ list. pattern_back list d) (pattern_step d) IsWritten (λ s e _. pattern_more d s e)
    (all_strokes k) (written k)
    ∙ of_patterns (pattern_step d) (pieces k) None (pattern_left d) ∙ patterns_made k.page.patterns d low high

screen_is : (k : Core) → screen_pen_back (reverse (all_strokes k)) ≡ k.page.screen_pen
screen_is k =
    folded_from_none screen_pen_back screen_step IsWritten (λ s e _. screen_more s e) (all_strokes k) (written k)
    ∙ of_screen screen_step (pieces k) unset_pen screen_left ∙ screen_made k.page.screen_pen

row_is : (k : Core) (r : ℕ) → 1 ≤ r → r < 1 + 24
    → row_pen_back (reverse (all_strokes k)) r ≡ row_pen_in k.page.row_pens r
row_is k r low high =
    folded_from_none (λ list. row_pen_back list r) (row_step r) IsWritten (row_more r) (all_strokes k) (written k)
    ∙ of_rows (row_step r) (pieces k) unset_pen (row_left r) ∙ rows_made k.page.row_pens r low high

cell_is : (k : Core) → IsValidCore k → (r c : ℕ) → OnScreen r c
    → cell_back (reverse (all_strokes k)) r c ≡ value_at blank_cell k.page.cells r c
cell_is k is r c on =
    folded_from_none (λ list. cell_back list r c) (cell_step r c) IsWritten (cell_more r c) (all_strokes k) (written k)
    ∙ of_cells (cell_step r c) (pieces k) blank_cell (cell_left r c)
    ∙ cells_made k.page.cells r c on (is.page.free r c on)

-- ---- the page and the core

drawn_page : ((a b : Paint) → IsTrue (same_paint a b) ↔ (a ≡ b)) → (k : Core) → IsValidCore k
    → page_back (reverse (all_strokes k)) ≡ k.page
drawn_page decides k is i =
    let back : List Stroke = reverse (all_strokes k) in
    record {
      cells = (same_table (cell_back back) (value_at blank_cell k.page.cells) (cell_is k is)
          ∙ table-value_at k.page.cells blank_cell is.page.table) i;
      row_pens = (same_indexed 1 24 (row_pen_back back) (row_pen_in k.page.row_pens) (row_is k)
          ∙ list_by_index-entry unset_pen 1 24 k.page.row_pens is.page.rows) i;
      screen_pen = screen_is k i;
      paints = (same_indexed 0 32 (paint_back back) (paint_in k.page.paints) (λ j _ below. paint_is decides k is j below)
          ∙ list_by_index-entry black_paint 0 32 k.page.paints is.page.colours) i;
      dclut = (same_indexed 0 4 (dclut_back back) (dclut_in k.page.dclut) (λ j _ below. dclut_is k j below)
          ∙ list_by_index-entry 0 0 4 k.page.dclut is.page.names) i;
      patterns = (same_indexed 0x21 94 (pattern_back back) (pattern_in k.page.patterns) (pattern_is k)
          ∙ list_by_index-entry None 0x21 94 k.page.patterns is.page.codes) i;
    }

restored_page : ((a b : Paint) → IsTrue (same_paint a b) ↔ (a ≡ b)) → (k : Core) → IsValidCore k → (cs : List Command)
    → PageDraws k cs → (state cs).page ≡ k.page
restored_page decides k is cs there =
    ap page_back (strokes_of_drawn cs (page_strokes k) (control_with_settings k there.hand) there.draws
    ∙ ap reverse (strokes_are k))
    ∙ drawn_page decides k is

-- commands that draw the page bring its core back
pub core_drawn : ((a b : Paint) → IsTrue (same_paint a b) ↔ (a ≡ b)) → (k : Core) → IsValidCore k → (cs : List Command)
    → PageDraws k cs → core_of (state cs) ≡ k
core_drawn decides k is cs there i =
    let left : control cs ≡ control_with_settings k there.hand =
    control_of_drawn cs (page_strokes k) (control_with_settings k there.hand) there.draws in
    record {
      page = restored_page decides k is cs there i;
      rows = (left i).rows;
      wrap = (left i).wrap;
      area = (left i).area;
      implicit = (left i).implicit;
      revision = (left i).revision;
    }
