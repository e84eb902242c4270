-- Worked cases of old values, by computing: what strokes note, and what comes back.
use Rattle.cept_profile.proofs.WhatComputes.{computing}
use Rattle.std.proofs.Common.{◌≡◌, ℕ, ◌+◌, List, [], ◌∷◌, length, map, Some, None, false, refl}
use Rattle.std.specs.Prelude.{sum}
use Rattle.cept_codes.specs.declared.attribute.Attr.TheVariants.{Back}
use Rattle.cept_codes.specs.declared.cell.Cell.{Cell}
use Rattle.cept_codes.specs.declared.cell.What.TheVariants.{Serial}
use Rattle.cept_codes.specs.declared.command.Up.TheVariants.{Up}
use Rattle.cept_codes.specs.declared.glyph.SetId.TheVariants.{P}
use Rattle.cept_codes.specs.declared.look.Pattern.{Pattern}
use Rattle.cept_codes.specs.declared.stroke.Stroke.{Stroke}
use Rattle.cept_codes.specs.declared.stroke.Stroke.TheVariants as strokes
use Rattle.cept_codes.specs.Attribute.{unset_pen}
use Rattle.cept_codes.specs.Cell.{blank_cell}
use Rattle.cept_codes.specs.Look.{black_paint}
use Rattle.cept_codes.specs.Table.{value_at}
use Rattle.cept_profile.specs.Colours.{default_paint}
use Rattle.cept_profile.specs.NotedStrokes.{with_strokes}
use Rattle.cept_profile.specs.OldValues.{OldValues, no_old_values, old_cell, old_dclut, old_paint, old_pattern, old_row_pen}
use Rattle.cept_profile.specs.OldValues.{page_unwound}
use Rattle.cept_profile.specs.PageParts.{paint_in, pattern_in, row_pen_in}
use Rattle.cept_profile.specs.State.{Page, blank_page, page_after}

-- a place for the old value of each of the 1,116 locations
pub locations_are_1116 :
    sum (map length no_old_values.cells) + length no_old_values.row_pens + 1 + length no_old_values.paints
    + length no_old_values.dclut + length no_old_values.patterns + 1 ≡ 1116
unfolding computing
locations_are_1116 = refl

-- signs at the first place
abbrev pub cell_of : ℕ → Cell
cell_of code = record { what = Serial (record { set = P; code = code; accent = 0 }); protected = false }

abbrev pub put : ℕ → Stroke
put code = strokes.Put (record { row = 1; column = 1 }) (cell_of code)

-- what strokes note on a page on which an A stands
abbrev pub page_with_a : Page
page_with_a = page_after blank_page (put 0x41 ∷ [])

abbrev pub noted : List Stroke → OldValues
noted strokes = with_strokes page_with_a strokes no_old_values

-- the first old value stands
pub two_signs_note_the_first : old_cell (noted (put 0x42 ∷ put 0x43 ∷ [])) 1 1 ∷ old_cell (noted (put 0x42 ∷ [])) 1 2 ∷ []
    ≡ Some (cell_of 0x41) ∷ None ∷ []
unfolding computing
two_signs_note_the_first = refl

-- rows that move note all their cells, as they stand on the screen, and other rows none
abbrev pub scrolled : OldValues
scrolled = noted (strokes.Shift 1 2 Up ∷ [])

pub moved_rows_are_noted : old_cell scrolled 1 1 ∷ old_cell scrolled 2 1 ∷ old_cell scrolled 2 40 ∷ old_cell scrolled 3 1 ∷ []
    ≡ Some (cell_of 0x41) ∷ Some blank_cell ∷ Some blank_cell ∷ None ∷ []
unfolding computing
moved_rows_are_noted = refl

-- and where they are carried their attributes too
pub carried_rows_are_noted : old_row_pen (noted (strokes.Carry 1 2 Up ∷ [])) 1 ∷ old_row_pen (noted (strokes.Carry 1 2 Up ∷ [])) 2
    ∷ old_row_pen (noted (strokes.Carry 1 2 Up ∷ [])) 3 ∷ old_row_pen scrolled 1 ∷ []
    ≡ Some unset_pen ∷ Some unset_pen ∷ None ∷ None ∷ []
unfolding computing
carried_rows_are_noted = refl

-- a code that had no pattern has none again
abbrev pub lines : Pattern
lines = record { w = 6; h = 5; planes = 1; bits = 1 ∷ [] }

pub no_pattern_is_an_old_value :
    old_pattern (noted (strokes.Drcs 0x21 lines ∷ [])) 0x21 ∷ old_pattern (noted (strokes.Drcs 0x21 lines ∷ [])) 0x22 ∷ []
    ≡ Some None ∷ None ∷ []
unfolding computing
no_pattern_is_an_old_value = refl

-- defaults note all entries
pub defaults_note_all_entries : old_paint (noted (strokes.ColourDefaults ∷ [])) 31 ∷ []
    ≡ Some (default_paint 31) ∷ []
unfolding computing
defaults_note_all_entries = refl

pub defaults_note_the_dclut : old_dclut (noted (strokes.ColourDefaults ∷ [])) 3 ≡ Some 3
unfolding computing
defaults_note_the_dclut = refl

-- what comes back after an edit of all kinds
abbrev pub edit : List Stroke
edit = put 0x42 ∷ strokes.Shift 1 2 Up ∷ strokes.RowAttr 2 (Back 1) ∷ strokes.Colour 1 black_paint
    ∷ strokes.Drcs 0x21 lines ∷ put 0x43 ∷ []

abbrev pub edited : Page
edited = page_after page_with_a edit

abbrev pub taken_back : Page
taken_back = page_unwound edited (noted edit)

pub cells_come_back : value_at blank_cell edited.cells 1 1 ∷ value_at blank_cell taken_back.cells 1 1 ∷ []
    ≡ cell_of 0x43 ∷ cell_of 0x41 ∷ []
unfolding computing
cells_come_back = refl

pub attributes_come_back : row_pen_in edited.row_pens 2 ∷ row_pen_in taken_back.row_pens 2 ∷ []
    ≡ record unset_pen { back = Some 1 } ∷ unset_pen ∷ []
unfolding computing
attributes_come_back = refl

pub entries_come_back : paint_in edited.paints 1 ∷ paint_in taken_back.paints 1 ∷ []
    ≡ black_paint ∷ default_paint 1 ∷ []
unfolding computing
entries_come_back = refl

pub patterns_come_back : pattern_in edited.patterns 0x21 ∷ pattern_in taken_back.patterns 0x21 ∷ []
    ≡ Some lines ∷ None ∷ []
unfolding computing
patterns_come_back = refl
