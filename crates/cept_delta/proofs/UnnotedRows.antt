-- A row of which nothing is noted stays where old values are put back.
use Rattle.std.proofs.Common.{◌≡◌, ℕ, ◌≤◌, Option, unwrap_or, ap, ◌∙◌, arith}
use Rattle.cept_codes.specs.declared.attribute.Pen.{Pen}
use Rattle.cept_codes.specs.declared.cell.Cell.{Cell}
use Rattle.cept_codes.specs.Attribute.{unset_pen}
use Rattle.cept_codes.specs.Cell.{blank_cell}
use Rattle.cept_codes.specs.Place.{OnScreen}
use Rattle.cept_codes.specs.Table.{value_at}
use Rattle.cept_codes.proofs.Laws.{entry-list_by_index, value_at-table}
use Rattle.cept_profile.specs.OldValues.{OldValues, old_cell, old_row_pen, page_unwound}
use Rattle.cept_profile.specs.PageParts.{row_pen_in}
use Rattle.cept_profile.specs.State.{Page}
use Rattle.cept_delta.specs.Noted.{IsRowUnnoted}

-- its cells
pub cell_stays : (p : Page) (old : OldValues) (r c : ℕ) → OnScreen r c → IsRowUnnoted old r
    → value_at blank_cell (page_unwound p old).cells r c ≡ value_at blank_cell p.cells r c
cell_stays p old r c on none =
    value_at-table (λ q k. unwrap_or (old_cell old q k) (value_at blank_cell p.cells q k)) blank_cell r c on
    ∙ ap (λ (o : Option Cell). unwrap_or o (value_at blank_cell p.cells r c)) (none.cells c on)

-- and its attributes
pub pen_stays : (p : Page) (old : OldValues) (r : ℕ) → 1 ≤ r → r ≤ 24 → IsRowUnnoted old r
    → row_pen_in (page_unwound p old).row_pens r ≡ row_pen_in p.row_pens r
pen_stays p old r low high none =
    entry-list_by_index unset_pen 1 24 (λ q. unwrap_or (old_row_pen old q) (row_pen_in p.row_pens q)) r low
    (omega (arith, high))
    ∙ ap (λ (o : Option Pen). unwrap_or o (row_pen_in p.row_pens r)) none.pen
