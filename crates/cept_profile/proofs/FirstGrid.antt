-- The state and the grid before any command, and after a clearing.
use Rattle.std.proofs.Common.{◌≡◌, ℕ, ◌<◌, ◌≤◌, cond, false, None, List, [], refl, ap, ◌∙◌, arith}
use Rattle.std.proofs.lemmas.Bool.{cond_both}
use Rattle.cept_codes.specs.declared.attribute.Full.{Full}
use Rattle.cept_codes.specs.declared.attribute.Pen.{Pen}
use Rattle.cept_codes.specs.declared.cell.Cell.{Cell}
use Rattle.cept_codes.specs.declared.cell.What.{What}
use Rattle.cept_codes.specs.declared.cell.What.TheVariants as whats
use Rattle.cept_codes.specs.declared.command.Command.TheVariants as commands
use Rattle.cept_codes.specs.declared.look.Paint.{Paint}
use Rattle.cept_codes.specs.declared.look.Shape.{Shape}
use Rattle.cept_codes.specs.Attribute.{IsEntry, IsScreenPen, IsValidFull, unset_pen}
use Rattle.cept_codes.specs.Cell.{blank_cell}
use Rattle.cept_codes.specs.Look.{black_paint, blank_look}
use Rattle.cept_codes.specs.Place.{OnScreen}
use Rattle.cept_codes.specs.Table.{list_by_index, table, value_at}
use Rattle.cept_codes.proofs.Laws.{entry-list_by_index, list_by_index-entry, value_at-table, same_table}
use Rattle.cept_profile.specs.Attributes.{cascade}
use Rattle.cept_profile.specs.Cells.{cells_after_all}
use Rattle.cept_profile.specs.Colours.{default_paints, paint_over}
use Rattle.cept_profile.specs.Control.{initial_control}
use Rattle.cept_profile.specs.Look.{contents_of_row, grid, is_double_set, look, look_of, look_with, looks_of}
use Rattle.cept_profile.specs.Definitions.{Definitions}
use Rattle.cept_profile.specs.PageParts.{dclut_in, list_of_codes, list_of_colours, list_of_dclut, list_of_rows}
use Rattle.cept_profile.specs.PageParts.{paint_in, part_after_all, pattern_in, row_pen_in}
use Rattle.cept_profile.specs.State.{Core, Page, State, blank_page, core, core_of, definitions_of, state}
use Rattle.cept_profile.specs.State.{state_after, state}
use Rattle.cept_profile.specs.Valid.{IsValidPage}
use Rattle.cept_profile.proofs.PlainPages.{acts_beyond, look-plain}
use Rattle.cept_profile.proofs.ValidLook.{IsValidFull-cascade, unset_pen-valid}

pub page-none : (state []).page ≡ blank_page
page-none = refl

pub state-none : state [] ≡ record { page = blank_page; control = initial_control }
state-none = refl

-- nothing written looks blank
pub look_of-blank_cell : look_of (definitions_of blank_page) unset_pen unset_pen whats.Blank ≡ blank_look
unfolding look_of default_paints list_by_index
look_of-blank_cell = refl

-- ---- a page on which nothing is written shows what is blank, whatever the number of its rows

-- no cell is written, no row has an attribute, and the screen has no size
record IsUnwritten (k : Core) : Type 0 where
  pub cells : k.page.cells ≡ table (λ r c. blank_cell)
  pub row_pens : k.page.row_pens ≡ list_of_rows (λ r. unset_pen)
  pub screen : is_double_set k.page.screen_pen.size ≡ false

blank_there : (k : Core) → IsUnwritten k → (r c : ℕ) → OnScreen r c → contents_of_row k r c ≡ whats.Blank
blank_there k is r c on =
    ap (λ (cells : List (List Cell)). (value_at blank_cell cells r c).what) is.cells
    ∙ ap (λ (cell : Cell). cell.what) (value_at-table (λ _ _. blank_cell) blank_cell r c on)

unset_there : (k : Core) → IsUnwritten k → (r : ℕ) → 1 ≤ r → r ≤ 24 → row_pen_in k.page.row_pens r ≡ unset_pen
unset_there k is r low high =
    ap (λ (pens : List Pen). row_pen_in pens r) is.row_pens
    ∙ entry-list_by_index unset_pen 1 24 (λ _. unset_pen) r low (omega (arith, high))

look-unwritten : (k : Core) → IsUnwritten k → (r c : ℕ) → OnScreen r c
    → look k r c ≡ look_of (definitions_of k.page) unset_pen k.page.screen_pen whats.Blank
look-unwritten k is r c on =
    look-plain k (record {
      cells = λ q d there. ap acts_beyond (blank_there k is q d there);
      rows = λ q low high. ap (λ (pen : Pen). is_double_set pen.size) (unset_there k is q low high);
      screen = is.screen;
    }) r c on
    ∙ ap (λ (pen : Pen). look_of (definitions_of k.page) pen k.page.screen_pen (contents_of_row k r c))
    (unset_there k is r on.from_top on.to_bottom)
    ∙ ap (λ (what : What). look_of (definitions_of k.page) unset_pen k.page.screen_pen what) (blank_there k is r c on)

-- ---- the start

pub looks_of-blank_cell : looks_of (core []) ≡ table (λ r c. blank_look)
looks_of-blank_cell =
    same_table (look (core [])) (λ r c. blank_look) (λ r c on.
    look-unwritten (core []) (record { cells = refl; row_pens = refl; screen = refl }) r c on ∙ look_of-blank_cell)

pub grid-none : grid [] ≡ table (λ r c. blank_look)
grid-none = looks_of-blank_cell

-- ---- clearing

-- clearing blanks the cells and unsets the attributes of rows, and writes what signs are drawn with anew
pub page-cleared_parts : (s : State) → (state_after s commands.Clear).page ≡ record blank_page {
  screen_pen = s.page.screen_pen;
  paints = list_of_colours (paint_in s.page.paints);
  dclut = list_of_dclut (dclut_in s.page.dclut);
  patterns =
      list_of_codes (pattern_in s.page.patterns);
}
unfolding cells_after_all part_after_all
page-cleared_parts s = refl

-- paints that agree at the entries that there are give what is shown in them the same look
look_with-same : (paint_of other : ℕ → Paint) (shape : Shape) (f : Full) → IsValidFull f
    → ((i : ℕ) → i < 32 → paint_of i ≡ other i) → look_with paint_of shape f ≡ look_with other shape f
look_with-same paint_of other shape f valid same =
    let fore : paint_of (cond f.invert f.back f.fore) ≡ other (cond f.invert f.back f.fore) =
    same (cond f.invert f.back f.fore) (cond_both f.invert f.back f.fore IsEntry (λ _. valid.back) (λ _. valid.fore)) in
    let back : paint_of (cond f.invert f.fore f.back) ≡ other (cond f.invert f.fore f.back) =
    same (cond f.invert f.fore f.back) (cond_both f.invert f.fore f.back IsEntry (λ _. valid.fore) (λ _. valid.back)) in
    λ i. record (look_with paint_of shape f) { fore = paint_over (fore i) (back i); back = back i }

look_of-blank_cell_same : (defined other : Definitions) (screen : Pen) → IsScreenPen screen
    → ((i : ℕ) → i < 32 → paint_in defined.paints i ≡ paint_in other.paints i)
    → look_of defined unset_pen screen whats.Blank ≡ look_of other unset_pen screen whats.Blank
unfolding look_of
look_of-blank_cell_same defined other screen is same =
    look_with-same (paint_in defined.paints) (paint_in other.paints) _ (cascade unset_pen unset_pen screen)
    (IsValidFull-cascade unset_pen unset_pen screen unset_pen-valid unset_pen-valid is.row.valid) same

IsUnwritten-cleared : (s : State) → IsScreenPen s.page.screen_pen → IsUnwritten (core_of (state_after s commands.Clear))
IsUnwritten-cleared s is = record {
  cells = ap (λ (p : Page). p.cells) (page-cleared_parts s);
  row_pens = ap (λ (p : Page). p.row_pens) (page-cleared_parts s);
  screen =
      ap (λ (p : Page). is_double_set p.screen_pen.size) (page-cleared_parts s) ∙ ap is_double_set is.size;
}

pub look-cleared : (s : State) (r c : ℕ) → OnScreen r c → IsScreenPen s.page.screen_pen
    → look (core_of (state_after s commands.Clear)) r c
    ≡ look_of (definitions_of s.page) unset_pen s.page.screen_pen whats.Blank
look-cleared s r c on is =
    look-unwritten (core_of (state_after s commands.Clear)) (IsUnwritten-cleared s is) r c on
    ∙ ap (λ (p : Page). look_of (definitions_of p) unset_pen p.screen_pen whats.Blank) (page-cleared_parts s)
    ∙ look_of-blank_cell_same (assumption (list_of_colours (paint_in s.page.paints), list_of_dclut (dclut_in s.page.dclut), list_of_codes (pattern_in s.page.patterns))) (definitions_of s.page) s.page.screen_pen is (λ i below.
    entry-list_by_index black_paint 0 32 (paint_in s.page.paints) i (omega arith) (omega (arith, below)))

-- which leaves them as they are in a valid page
pub page-cleared : (s : State) → IsValidPage s.page → (state_after s commands.Clear).page ≡ record blank_page {
  screen_pen = s.page.screen_pen;
  paints = s.page.paints;
  dclut = s.page.dclut;
  patterns =
      s.page.patterns;
}
page-cleared s is =
    page-cleared_parts s
    ∙ (λ i. record blank_page {
      screen_pen = s.page.screen_pen;
      paints = list_by_index-entry black_paint 0 32 s.page.paints is.colours i;
      dclut = list_by_index-entry 0 0 4 s.page.dclut is.names i;
      patterns = list_by_index-entry None 0x21 94 s.page.patterns is.codes i;
    })
