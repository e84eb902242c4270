-- Worked cases: what the definitions give for short lists of commands, by computing.
use Rattle.cept_profile.proofs.WhatComputes.{computing}
use Rattle.std.proofs.Common.{◌≡◌, ℕ, List, [], ◌∷◌, Some, None, true, false, length, drop, refl}
use Rattle.cept_codes.specs.declared.cell.Cell.{Cell}
use Rattle.cept_codes.specs.declared.cell.What.TheVariants as whats
use Rattle.cept_codes.specs.declared.attribute.Flash.TheVariants.{Fast1, Fast2, Fast3}
use Rattle.cept_codes.specs.declared.command.Command.TheVariants.{Nul, CursorOn, Graphic, Position, Clear, Home, Return}
use Rattle.cept_codes.specs.declared.command.Command.TheVariants.{Back, Down, Up, Single, LockRight, Designate, Repeat}
use Rattle.cept_codes.specs.declared.command.Command.TheVariants.{C1, FlashMode, StopConceal, Cancel}
use Rattle.cept_codes.specs.declared.glyph.Glyph.{Glyph}
use Rattle.cept_codes.specs.declared.glyph.SetId.TheVariants.{P, S}
use Rattle.cept_codes.specs.declared.look.Look.{Look}
use Rattle.cept_codes.specs.declared.look.Shape.TheVariants as shapes
use Rattle.cept_codes.specs.declared.stroke.Stroke.{Stroke}
use Rattle.cept_codes.specs.declared.stroke.Stroke.TheVariants.{Put}
use Rattle.cept_codes.specs.Attribute.{unset_pen}
use Rattle.cept_codes.specs.Cell.{blank_cell}
use Rattle.cept_codes.specs.Look.{blank_look}
use Rattle.cept_codes.specs.Table.{value_at}
use Rattle.cept_profile.specs.Changes.{changes}
use Rattle.cept_profile.specs.Control.{ControlState, initial_control, initial_working, working_at, control}
use Rattle.cept_profile.specs.State.{state}
use Rattle.cept_profile.specs.Strokes.{strokes_in, strokes_of}
use Rattle.cept_profile.proofs.PlainPages.{changes-plain}

abbrev pub sign : ℕ → Glyph
sign code = record { set = P; code = code; accent = 0 }

abbrev pub cell_with : ℕ → Cell
cell_with code = record { what = whats.Parallel (sign code) unset_pen; protected = false }

abbrev pub look_with : ℕ → Look
look_with code = record blank_look { shape = shapes.Char (sign code) }

-- the initial state at another place
abbrev pub at_place : ℕ → ℕ → ControlState
at_place r c = record initial_control { working = working_at r c initial_working }

-- a sign stands at the first place
pub sign_at_first_place : value_at blank_cell (state (Graphic 0x41 ∷ [])).page.cells 1 1 ≡ cell_with 0x41
unfolding computing
sign_at_first_place = refl

pub nothing_beside_it : value_at blank_cell (state (Graphic 0x41 ∷ [])).page.cells 1 2 ≡ blank_cell
unfolding computing
nothing_beside_it = refl

-- and is the only change
pub one_change : changes [] (Graphic 0x41) ≡ (record { row = 1; column = 1 }, look_with 0x41) ∷ []
unfolding computing
one_change = changes-plain [] (Graphic 0x41) refl refl

-- a space is no change, though a sign stands there
pub space_changes_nothing : changes [] (Graphic 0x20) ≡ []
unfolding computing
space_changes_nothing = changes-plain [] (Graphic 0x20) refl refl

pub space_stands : value_at blank_cell (state (Graphic 0x20 ∷ [])).page.cells 1 1 ≡ cell_with 0x20
unfolding computing
space_stands = refl

-- after the last place comes the first
pub last_place : value_at blank_cell (state (Position 24 40 ∷ Graphic 0x41 ∷ Graphic 0x42 ∷ [])).page.cells 24 40
    ≡ cell_with 0x41
unfolding computing
last_place = refl

pub after_the_last_place : value_at blank_cell
    (state (Position 24 40 ∷ Graphic 0x41 ∷ Graphic 0x42 ∷ [])).page.cells 1 1 ≡ cell_with 0x42
unfolding computing
after_the_last_place = refl

-- an end of a row goes on in the row below
pub end_of_row : control (Position 3 40 ∷ Graphic 0x41 ∷ [])
    ≡ record initial_control { working = record (working_at 4 1 initial_working) { last = Some (sign 0x41) } }
unfolding computing
end_of_row = refl

-- the same sign again is no change
pub same_sign_again : changes (Graphic 0x41 ∷ Return ∷ []) (Graphic 0x41) ≡ []
unfolding computing
same_sign_again = changes-plain (Graphic 0x41 ∷ Return ∷ []) (Graphic 0x41) refl refl

-- Clear blanks and goes home, and tells what it blanked in reading order
pub clear_blanks : changes (Position 2 1 ∷ Graphic 0x41 ∷ Position 1 40 ∷ Graphic 0x42 ∷ []) Clear
    ≡ (record { row = 1; column = 40 }, blank_look) ∷ (record { row = 2; column = 1 }, blank_look) ∷ []
unfolding computing
clear_blanks = changes-plain (Position 2 1 ∷ Graphic 0x41 ∷ Position 1 40 ∷ Graphic 0x42 ∷ []) Clear refl refl

pub clear_goes_home : control (Position 9 9 ∷ Clear ∷ []) ≡ initial_control
clear_goes_home = refl

-- the last sign written survives Clear
pub clear_keeps_the_last_sign : (control (Graphic 0x41 ∷ Clear ∷ [])).working.last ≡ Some (sign 0x41)
unfolding computing
clear_keeps_the_last_sign = refl

-- Return goes to the first column of the row, Down to the row below, and from the last row to the first
pub return_stays_in_row : control (Position 9 9 ∷ Return ∷ []) ≡ at_place 9 1
return_stays_in_row = refl

pub down_goes_down : control (Position 9 9 ∷ Down ∷ []) ≡ at_place 10 9
down_goes_down = refl

pub down_wraps : control (Position 24 7 ∷ Down ∷ []) ≡ at_place 1 7
down_wraps = refl

-- Cancel leaves control as it is, but an accent waits no more
pub cancel_leaves : control (Graphic 0x41 ∷ Cancel ∷ []) ≡ control (Graphic 0x41 ∷ [])
unfolding computing
cancel_leaves = refl

pub cancel_drops_the_accent : control (Graphic 0xC8 ∷ Cancel ∷ []) ≡ initial_control
unfolding computing
cancel_drops_the_accent = refl

-- ---- accents

-- a cell with this sign and no attribute
abbrev pub cell_of_sign : Glyph → Cell
cell_of_sign g = record { what = whats.Parallel g unset_pen; protected = false }

abbrev pub put_at_first : Glyph → List Stroke
put_at_first g = Put (record { row = 1; column = 1 }) (cell_of_sign g) ∷ []

abbrev pub with_diaeresis : Glyph
with_diaeresis = record { set = P; code = 0x61; accent = 0x48 }

-- an accent by a single shift goes with the sign after it, and shows nothing before
pub accent_by_single_shift : strokes_in (Single 2 ∷ Graphic 0x48 ∷ Graphic 0x61 ∷ []) ≡ put_at_first with_diaeresis
unfolding computing
accent_by_single_shift = refl

-- and so does one of the right half
pub accent_of_the_right_half : strokes_in (Graphic 0xC8 ∷ Graphic 0x61 ∷ []) ≡ put_at_first with_diaeresis
unfolding computing
accent_of_the_right_half = refl

-- Return drops it, and so does a command that has no other effect
pub return_drops_the_accent : strokes_in (Graphic 0xC8 ∷ Return ∷ Graphic 0x61 ∷ []) ≡ put_at_first (sign 0x61)
unfolding computing
return_drops_the_accent = refl

pub cursor_drops_the_accent : strokes_in (Graphic 0xC8 ∷ CursorOn ∷ Graphic 0x61 ∷ []) ≡ put_at_first (sign 0x61)
unfolding computing
cursor_drops_the_accent = refl

-- NUL doesn't
pub nul_keeps_the_accent : strokes_in (Graphic 0xC8 ∷ Nul ∷ Graphic 0x61 ∷ []) ≡ put_at_first with_diaeresis
unfolding computing
nul_keeps_the_accent = refl

-- a later accent replaces it, and a mosaic is written without it
pub later_accent_replaces : strokes_in (Graphic 0xC1 ∷ Graphic 0xC8 ∷ Graphic 0x61 ∷ []) ≡ put_at_first with_diaeresis
unfolding computing
later_accent_replaces = refl

pub mosaic_takes_no_accent : strokes_in (Graphic 0xC8 ∷ Graphic 0xA1 ∷ [])
    ≡ put_at_first (record { set = S; code = 0x21; accent = 0 })
unfolding computing
mosaic_takes_no_accent = refl

pub no_accent_waits_after : (control (Graphic 0xC8 ∷ Graphic 0xA1 ∷ [])).working.accent ≡ None
unfolding computing
no_accent_waits_after = refl

-- ---- copies

-- a sign and 63 copies take a row and 24 places of the next
pub sixty_three_copies : length (strokes_of (control (Graphic 0x41 ∷ [])) (Repeat 63)) ≡ 63
unfolding computing
sixty_three_copies = refl

pub last_copy : drop 62 (strokes_of (control (Graphic 0x41 ∷ [])) (Repeat 63))
    ≡ Put (record { row = 2; column = 24 }) (cell_with 0x41) ∷ []
unfolding computing
last_copy = refl

pub no_copies : strokes_in (Graphic 0x41 ∷ Repeat 0 ∷ []) ≡ put_at_first (sign 0x41)
unfolding computing
no_copies = refl

pub nothing_to_copy : strokes_in (Repeat 5 ∷ []) ≡ []
nothing_to_copy = refl

-- ---- pens

pub inverted : strokes_in (C1 29 ∷ Graphic 0x43 ∷ [])
    ≡ Put (record { row = 1; column = 1 })
    (record { what = whats.Parallel (sign 0x43) (record unset_pen { invert = Some true }); protected = false }) ∷ []
unfolding computing
inverted = refl

pub background_set : (control (C1 21 ∷ [])).working.pen ≡ record unset_pen { back = Some 5 }
background_set = refl

pub background_unset : (control (C1 21 ∷ Graphic 0x41 ∷ C1 30 ∷ [])).working.pen ≡ unset_pen
unfolding computing
background_unset = refl

pub foreground_set : (control (C1 3 ∷ [])).working.pen ≡ record unset_pen { fore = Some 3 }
foreground_set = refl

pub concealed : (control (C1 24 ∷ [])).working.pen ≡ record unset_pen { conceal = Some true }
concealed = refl

pub concealing_stops : (control (C1 24 ∷ StopConceal ∷ [])).working.pen ≡ record unset_pen { conceal = Some false }
concealing_stops = refl

pub home_unsets_the_pen : control (C1 3 ∷ FlashMode 3 ∷ Home ∷ []) ≡ initial_control
home_unsets_the_pen = refl

-- the fast flashes go round in a circle of three
pub fast_forwards : (control (FlashMode 5 ∷ FlashMode 5 ∷ FlashMode 5 ∷ FlashMode 5 ∷ [])).working.pen.flash
    ≡ Some Fast1
fast_forwards = refl

pub fast_backwards : (control (FlashMode 6 ∷ FlashMode 6 ∷ [])).working.pen.flash ≡ Some Fast2
fast_backwards = refl

pub fast_before_none : (control (FlashMode 6 ∷ [])).working.pen.flash ≡ Some Fast3
fast_before_none = refl

pub steady_ends_fast : control (FlashMode 4 ∷ C1 9 ∷ FlashMode 5 ∷ []) ≡ control (FlashMode 2 ∷ [])
steady_ends_fast = refl

pub inverted_ends_fast : control (FlashMode 4 ∷ FlashMode 0 ∷ FlashMode 5 ∷ []) ≡ control (FlashMode 2 ∷ [])
inverted_ends_fast = refl

-- ---- motions

pub back_goes_back : control (Position 3 5 ∷ Back ∷ []) ≡ at_place 3 4
back_goes_back = refl

pub back_wraps : control (Position 3 1 ∷ Back ∷ []) ≡ at_place 2 40
back_wraps = refl

pub back_from_the_first_place : control (Back ∷ []) ≡ at_place 24 40
back_from_the_first_place = refl

pub up_wraps : control (Position 1 9 ∷ Up ∷ []) ≡ at_place 24 9
up_wraps = refl

pub up_goes_up : control (Position 7 9 ∷ Up ∷ []) ≡ at_place 6 9
up_goes_up = refl

-- ---- sets

pub single_shift_is_spent : control (Position 24 40 ∷ Single 2 ∷ Graphic 0x48 ∷ Return ∷ []) ≡ at_place 24 1
unfolding computing
single_shift_is_spent = refl

pub designated_and_locked : strokes_in (Designate 1 S ∷ LockRight 1 ∷ Graphic 0xA1 ∷ [])
    ≡ put_at_first (record { set = S; code = 0x21; accent = 0 })
unfolding computing
designated_and_locked = refl
