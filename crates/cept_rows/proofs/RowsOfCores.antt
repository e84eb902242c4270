-- Rows of a core: what is resolved from a row of its page beneath the looks of the row above is that row of its grid.
use Rattle.std.proofs.Common.{◌≡◌, ℕ, ◌-◌, ◌≤◌, Bool, List, [], get_or, sym, ◌∙◌}
use Rattle.cept_codes.specs.declared.attribute.Pen.{Pen}
use Rattle.cept_codes.specs.declared.cell.Cell.{Cell}
use Rattle.cept_codes.specs.declared.look.Look.{Look}
use Rattle.cept_profile.specs.Definitions.{Definitions}
use Rattle.cept_profile.specs.Look.{look_in_row, looks_of, size_in_row}
use Rattle.cept_profile.specs.PageParts.{row_pen_in}
use Rattle.cept_profile.specs.RowsFromAbove.{looks_in, row_from_above}
use Rattle.cept_profile.specs.Serial.{row_in}
use Rattle.cept_profile.specs.State.{Core, definitions_of}
use Rattle.cept_profile.proofs.Laws.{looks_in-from_above}
use Rattle.cept_profile.specs.Edges.{edges_of_core, is_last}

pub row_of_core : (above : List Look) (cells : List Cell) (row screen : Pen) (defined : Definitions) (last : Bool)
    (looks : List Look)
    → looks
    ≡ row_from_above above (look_in_row defined (row_in cells) row screen)
    (size_in_row (row_in cells) row screen) last
    → (k : Core) (r : ℕ) → 1 ≤ r → r ≤ 24 → above ≡ looks_in (looks_of k) (r - 1)
    → cells ≡ get_or k.page.cells (r - 1) [] → row ≡ row_pen_in k.page.row_pens r → screen ≡ k.page.screen_pen
    → defined ≡ definitions_of k.page → last ≡ is_last (edges_of_core k) r → looks ≡ looks_in (looks_of k) r
row_of_core above cells row screen defined last looks e k r low high ea ec er es ep el =
    e
    ∙ (λ i. row_from_above (ea i) (look_in_row (ep i) (row_in (ec i)) (er i) (es i))
    (size_in_row (row_in (ec i)) (er i) (es i)) (el i))
    ∙ sym (looks_in-from_above k r low high)
