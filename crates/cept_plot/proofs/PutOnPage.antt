-- One command that makes no stroke, or puts one cell: the state after it.
use Rattle.std.proofs.Common.{◌≡◌, ℕ, Bool, true, false, not, ◌&&◌, cond, None, List, [], ◌∷◌, refl, ap, ◌∙◌}
use Rattle.cept_codes.specs.declared.cell.Cell.{Cell}
use Rattle.cept_codes.specs.declared.command.Command.{Command}
use Rattle.cept_codes.specs.declared.stroke.Stroke.TheVariants as strokes
use Rattle.cept_codes.specs.Attribute.{unset_pen}
use Rattle.cept_codes.specs.Cell.{blank_cell}
use Rattle.cept_codes.specs.Look.{black_paint}
use Rattle.cept_codes.specs.Place.{OnScreen, Place}
use Rattle.cept_codes.specs.Table.{value_at}
use Rattle.cept_codes.proofs.Laws.{list_by_index-entry, value_at-table}
use Rattle.cept_profile.specs.Cells.{cell_after, cells_after, cells_after_all, is_at}
use Rattle.cept_profile.specs.Control.{control_after}
use Rattle.cept_profile.specs.PageParts.{part_after_all}
use Rattle.cept_profile.specs.State.{Page, State, page_after, state_after}
use Rattle.cept_profile.specs.Strokes.{strokes_of}
use Rattle.cept_profile.specs.Valid.{IsValidPage}
use Rattle.cept_profile.specs.Working.{ControlState}

abbrev pub state_of : Page → ControlState → State
state_of p c = record { page = p; control = c }

-- a page on which a cell was put
abbrev pub page_with : Page → Place → Cell → Page
page_with p at cell = record p { cells = cells_after p.cells (strokes.Put at cell) }

pub page_after-none : (p : Page) → page_after p [] ≡ p
unfolding cells_after_all part_after_all
page_after-none p = refl

-- a cell that is put changes the cells alone
pub page_after-put : (p : Page) (at : Place) (cell : Cell) → IsValidPage p
    → page_after p (strokes.Put at cell ∷ []) ≡ page_with p at cell
unfolding cells_after_all part_after_all
page_after-put p at cell is = λ i. record {
  cells = cells_after p.cells (strokes.Put at cell);
  row_pens = list_by_index-entry unset_pen 1 24 p.row_pens is.rows i;
  screen_pen = p.screen_pen;
  paints = list_by_index-entry black_paint 0 32 p.paints is.colours i;
  dclut = list_by_index-entry 0 0 4 p.dclut is.names i;
  patterns = list_by_index-entry None 0x21 94 p.patterns is.codes i;
}

pub silent : (p : Page) (c t : ControlState) (command : Command) → control_after c command ≡ t
    → strokes_of c command ≡ [] → state_after (state_of p c) command ≡ state_of p t
silent p c t command control none =
    (λ i. state_of (page_after p (none i)) (control i)) ∙ ap (λ (q : Page). state_of q t) (page_after-none p)

pub puts_one : (p : Page) (c t : ControlState) (command : Command) (at : Place) (cell : Cell) → IsValidPage p
    → control_after c command ≡ t → strokes_of c command ≡ strokes.Put at cell ∷ []
    → state_after (state_of p c) command ≡ state_of (page_with p at cell) t
puts_one p c t command at cell is control one =
    (λ i. state_of (page_after p (one i)) (control i)) ∙ ap (λ (q : Page). state_of q t) (page_after-put p at cell is)

-- ---- the cells after it

-- another cell stays
pub cell-elsewhere : (cells : List (List Cell)) (at : Place) (cell : Cell) (r c : ℕ) → OnScreen r c
    → is_at at r c ≡ false
    → value_at blank_cell (cells_after cells (strokes.Put at cell)) r c ≡ value_at blank_cell cells r c
cell-elsewhere cells at cell r c on away =
    value_at-table (cell_after (strokes.Put at cell) (value_at blank_cell cells)) blank_cell r c on
    ∙ ap (λ (t : Bool). cond (t && not (value_at blank_cell cells r c).protected) cell (value_at blank_cell cells r c))
    away

-- the cell is there, where what stood there wasn't protected
pub cell-there : (cells : List (List Cell)) (at : Place) (cell : Cell) (r c : ℕ) → OnScreen r c → is_at at r c ≡ true
    → (value_at blank_cell cells r c).protected ≡ false
    → value_at blank_cell (cells_after cells (strokes.Put at cell)) r c ≡ cell
cell-there cells at cell r c on there free =
    value_at-table (cell_after (strokes.Put at cell) (value_at blank_cell cells)) blank_cell r c on
    ∙ ap (λ (t : Bool). cond (t && not (value_at blank_cell cells r c).protected) cell (value_at blank_cell cells r c))
    there
    ∙ ap (λ (t : Bool). cond (not t) cell (value_at blank_cell cells r c)) free
