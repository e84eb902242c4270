-- Worked cases of an exchange of old values, by computing: what is noted then, and what comes back by it.
use Rattle.std.proofs.Common.{◌≡◌, ℕ, List, [], ◌∷◌, Some, None, true, false, refl}
use Rattle.cept_codes.specs.declared.cell.Cell.{Cell}
use Rattle.cept_codes.specs.declared.cell.What.TheVariants.{Serial}
use Rattle.cept_codes.specs.declared.glyph.SetId.TheVariants.{P}
use Rattle.cept_codes.specs.declared.stroke.Stroke.{Stroke}
use Rattle.cept_codes.specs.declared.stroke.Stroke.TheVariants as strokes
use Rattle.cept_codes.specs.Cell.{blank_cell}
use Rattle.cept_codes.specs.Table.{list_by_index, row_of, table, value_at}
use Rattle.cept_profile.specs.Cells.{cells_after_all}
use Rattle.cept_profile.specs.NotedStrokes.{with_strokes}
use Rattle.cept_profile.specs.OldValues.{OldValues, no_old_values, old_cell, old_dclut, page_unwound}
use Rattle.cept_profile.specs.PageParts.{dclut_in, part_after_all}
use Rattle.cept_profile.specs.State.{Page, blank_page, page_after}
use Rattle.cept_delta.specs.Exchanged.{page_exchanged}
use Rattle.cept_delta.specs.Noted.{notes_row, notes_screen}

abbrev cell_of : ℕ → Cell
cell_of code = record { what = Serial (record { set = P; code = code; accent = 0 }); protected = false }

abbrev put : ℕ → Stroke
put code = strokes.Put (record { row = 1; column = 1 }) (cell_of code)

-- an A, a B over it, and an entry of the DCLUT
abbrev before : Page
before = page_after blank_page (put 0x41 ∷ [])

abbrev edit : List Stroke
edit = put 0x42 ∷ strokes.Dclut 2 9 ∷ []

abbrev noted : OldValues
noted = with_strokes before edit no_old_values

abbrev after : Page
after = page_after before edit

abbrev exchanged_once : OldValues
exchanged_once = page_exchanged after noted

-- the new values are noted where the old ones were, and nothing else is
pub new_signs_are_noted : old_cell exchanged_once 1 1 ∷ old_cell exchanged_once 1 2 ∷ old_cell exchanged_once 2 1 ∷ []
    ≡ Some (cell_of 0x42) ∷ None ∷ None ∷ []
unfolding table row_of list_by_index cells_after_all part_after_all with_strokes
new_signs_are_noted = refl

pub new_entries_are_noted : old_dclut exchanged_once 2 ∷ old_dclut exchanged_once 1 ∷ [] ≡ Some 9 ∷ None ∷ []
unfolding table row_of list_by_index cells_after_all part_after_all with_strokes
new_entries_are_noted = refl

-- by them the page before leads on to the one after
pub new_values_lead_on : value_at blank_cell (page_unwound before exchanged_once).cells 1 1 ≡ cell_of 0x42
unfolding table row_of list_by_index cells_after_all part_after_all with_strokes
new_values_lead_on = refl

pub new_entries_lead_on : dclut_in (page_unwound before exchanged_once).dclut 2 ≡ 9
unfolding table row_of list_by_index cells_after_all part_after_all with_strokes
new_entries_lead_on = refl

-- by a sign that was written no other row may look otherwise; by an entry of the DCLUT any may
pub signs_note_no_screen : notes_screen (with_strokes before (put 0x42 ∷ []) no_old_values) ≡ false
unfolding table row_of list_by_index cells_after_all part_after_all with_strokes notes_screen
signs_note_no_screen = refl

pub entries_note_the_screen : notes_screen noted ≡ true
unfolding table row_of list_by_index cells_after_all part_after_all with_strokes notes_screen
entries_note_the_screen = refl

-- just the row is noted in which a sign was put
pub one_row_is_noted : notes_row noted 1 ∷ notes_row noted 2 ∷ [] ≡ true ∷ false ∷ []
unfolding notes_row table row_of list_by_index cells_after_all part_after_all with_strokes
one_row_is_noted = refl
