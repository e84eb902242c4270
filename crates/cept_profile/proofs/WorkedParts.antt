-- Worked cases of attributes of rows and of the screen, of colour entries and of the DCLUT, by computing.
use Rattle.cept_profile.proofs.WhatComputes.{computing}
use Rattle.std.proofs.Common.{◌≡◌, ℕ, List, [], ◌∷◌, ◌++◌, Some, true, false, refl}
use Rattle.cept_codes.specs.declared.attribute.Flash.TheVariants.{Fast2, Steady}
use Rattle.cept_codes.specs.declared.attribute.Pen.{Pen}
use Rattle.cept_codes.specs.declared.attribute.Size.TheVariants.{High}
use Rattle.cept_codes.specs.declared.cell.What.{What}
use Rattle.cept_codes.specs.declared.cell.What.TheVariants as whats
use Rattle.cept_codes.specs.declared.command.C1Set.TheVariants.{Serial}
use Rattle.cept_codes.specs.declared.command.Command.{Command}
use Rattle.cept_codes.specs.declared.command.Command.TheVariants.{Graphic, C1, DesignateC1, Table, Home, Position}
use Rattle.cept_codes.specs.declared.command.Command.TheVariants.{Clear, FlashMode, FullScreen, FullRow, ColourDefaults}
use Rattle.cept_codes.specs.declared.command.Command.TheVariants.{Entry, Dclut}
use Rattle.cept_codes.specs.declared.glyph.Glyph.{Glyph}
use Rattle.cept_codes.specs.declared.glyph.SetId.TheVariants.{P}
use Rattle.cept_codes.specs.declared.look.Paint.{Paint}
use Rattle.cept_codes.specs.declared.look.Paint.TheVariants.{Ink, Video}
use Rattle.cept_codes.specs.declared.look.Rgb.{Rgb}
use Rattle.cept_codes.specs.Attribute.{unset_pen}
use Rattle.cept_codes.specs.Cell.{blank_cell}
use Rattle.cept_codes.specs.Table.{value_at}
use Rattle.cept_profile.specs.Control.{control}
use Rattle.cept_profile.specs.PageParts.{paint_in, row_pen_in}
use Rattle.cept_profile.specs.State.{state}

-- the attributes of a row, and those of the screen, after these commands
abbrev pub row_pen : List Command → ℕ → Pen
row_pen history r = row_pen_in (state history).page.row_pens r

abbrev pub screen_pen : List Command → Pen
screen_pen history = (state history).page.screen_pen

-- what stands in a cell of the first row
abbrev pub cell_in : List Command → ℕ → What
cell_in history c = (value_at blank_cell (state history).page.cells 1 c).what

-- the pen of the next sign
abbrev pub pen : List Command → Pen
pen history = (control history).working.pen

-- the paint of an entry
abbrev pub paint : List Command → ℕ → Paint
paint history i = paint_in (state history).page.paints i

abbrev pub sign_a : Glyph
sign_a = record { set = P; code = 0x41; accent = 0 }

-- ---- rows

-- the active row alone takes the attribute
abbrev pub red_after_row_2 : List Command
red_after_row_2 = Position 2 1 ∷ FullRow 17 ∷ []

pub active_row_is_set : row_pen red_after_row_2 2 ≡ record unset_pen { back = Some 1 }
unfolding computing
active_row_is_set = refl

pub other_rows_are_not : row_pen red_after_row_2 1 ∷ row_pen red_after_row_2 3 ∷ [] ≡ unset_pen ∷ unset_pen ∷ []
unfolding computing
other_rows_are_not = refl

-- a clearing unsets it
pub clear_unsets_the_row : row_pen (red_after_row_2 ++ Clear ∷ []) 2 ≡ unset_pen
unfolding computing
clear_unsets_the_row = refl

-- code 9/14 takes away the background of the row alone
pub background_of_the_row_is_taken_away :
    row_pen (Position 5 1 ∷ FullRow 26 ∷ FullRow 17 ∷ FullRow 30 ∷ []) 5 ≡ record unset_pen { lined = Some true }
unfolding computing
background_of_the_row_is_taken_away = refl

-- a class that is set to off is set
pub set_to_off : row_pen (FullScreen 11 ∷ FullRow 10 ∷ []) 1 ≡ record unset_pen { boxed = Some false }
unfolding computing
set_to_off = refl

pub each_class_by_itself : row_pen (FullRow 14 ∷ FullRow 24 ∷ FullRow 29 ∷ FullRow 3 ∷ FullRow 20 ∷ FullRow 13 ∷ []) 1
    ≡ record unset_pen
    { fore = Some 3; back = Some 4; conceal = Some true; size = Some High; invert = Some true }
unfolding computing
each_class_by_itself = refl

-- the pen of signs has no size by it
pub size_of_the_row_is_not_the_pens : pen (FullRow 14 ∷ Graphic 0x41 ∷ []) ≡ unset_pen
unfolding computing
size_of_the_row_is_not_the_pens = refl

-- under the serial set the same, and no marker is left
abbrev pub serial_red_row : List Command
serial_red_row = DesignateC1 Serial ∷ FullRow 1 ∷ Graphic 0x41 ∷ []

pub row_under_the_serial_set : row_pen serial_red_row 1 ≡ record unset_pen { fore = Some 1 }
unfolding computing
row_under_the_serial_set = refl

pub no_marker_is_left : cell_in serial_red_row 1 ∷ cell_in serial_red_row 2 ∷ [] ≡ whats.Serial sign_a ∷ whats.Blank
    ∷ []
unfolding computing
no_marker_is_left = refl

-- steady in the row ends no fast flash: the next mode takes the second
abbrev pub steady_row : List Command
steady_row = FlashMode 2 ∷ FullRow 9 ∷ []

pub fast_stays : (control steady_row).working.fast ≡ 1
fast_stays = refl

pub next_after_it : pen (steady_row ++ FlashMode 5 ∷ []) ≡ record unset_pen { flash = Some Fast2 }
next_after_it = refl

pub row_is_steady : row_pen steady_row 1 ≡ record unset_pen { flash = Some Steady }
unfolding computing
row_is_steady = refl

-- ---- the screen

-- a clearing keeps them, and wipes the cells
abbrev pub cleared_on_blue : List Command
cleared_on_blue = FullScreen 20 ∷ Graphic 0x41 ∷ Clear ∷ []

pub clear_keeps_the_screen : screen_pen cleared_on_blue ≡ record unset_pen { back = Some 4 }
unfolding computing
clear_keeps_the_screen = refl

pub clear_wipes_the_cells : cell_in cleared_on_blue 1 ≡ whats.Blank
unfolding computing
clear_wipes_the_cells = refl

-- the row of the position has none by it
pub screen_sets_no_row : row_pen (FullScreen 20 ∷ []) 1 ≡ unset_pen
unfolding computing
screen_sets_no_row = refl

-- inverted, while the pen of the second sign is set to be not
pub screen_is_inverted : screen_pen (FullScreen 29 ∷ Graphic 0x41 ∷ C1 28 ∷ Graphic 0x42 ∷ [])
    ≡ record unset_pen { invert = Some true }
unfolding computing
screen_is_inverted = refl

pub pen_is_not_inverted : pen (FullScreen 29 ∷ Graphic 0x41 ∷ C1 28 ∷ Graphic 0x42 ∷ [])
    ≡ record unset_pen { invert = Some false }
unfolding computing
pen_is_not_inverted = refl

-- ---- the colour table

-- neither going home nor a position brings table 0 back
pub table_stays : pen (Table 1 ∷ Home ∷ Position 2 2 ∷ C1 1 ∷ []) ≡ record unset_pen { fore = Some 9 }
table_stays = refl

pub table_counts_for_rows : row_pen (Table 2 ∷ Clear ∷ FullRow 1 ∷ FullRow 23 ∷ []) 1
    ≡ record unset_pen { fore = Some 17; back = Some 23 }
unfolding computing
table_counts_for_rows = refl

pub table_counts_for_the_screen : screen_pen (Table 3 ∷ FullScreen 7 ∷ Table 1 ∷ FullScreen 16 ∷ [])
    ≡ record unset_pen { fore = Some 31; back = Some 8 }
table_counts_for_the_screen = refl

-- ---- colour entries

abbrev pub rgb : ℕ → ℕ → ℕ → Rgb
rgb red green blue = record { r = red; g = green; b = blue }

-- black, red, green, yellow, blue, magenta, cyan and white, full; the picture behind, and the others reduced
abbrev pub sixteen : List Paint
sixteen =
    Ink (rgb 0x0 0x0 0x0) ∷ Ink (rgb 0xF 0x0 0x0) ∷ Ink (rgb 0x0 0xF 0x0) ∷ Ink (rgb 0xF 0xF 0x0)
    ∷ Ink (rgb 0x0 0x0 0xF) ∷ Ink (rgb 0xF 0x0 0xF) ∷ Ink (rgb 0x0 0xF 0xF) ∷ Ink (rgb 0xF 0xF 0xF)
    ∷ Video ∷ Ink (rgb 0x7 0x0 0x0) ∷ Ink (rgb 0x0 0x7 0x0) ∷ Ink (rgb 0x7 0x7 0x0)
    ∷ Ink (rgb 0x0 0x0 0x7) ∷ Ink (rgb 0x7 0x0 0x7) ∷ Ink (rgb 0x0 0x7 0x7) ∷ Ink (rgb 0x7 0x7 0x7) ∷ []

pub paints_at_the_start : (state []).page.paints ≡ sixteen ++ sixteen
unfolding computing
paints_at_the_start = refl

-- three entries are set, two of them those that show the picture behind
abbrev pub three_set : List Command
three_set = Entry 8 (rgb 0 0 0) ∷ Entry 24 (rgb 1 2 3) ∷ Entry 4 (rgb 15 9 1) ∷ []

pub entries_are_set : paint three_set 8 ∷ paint three_set 24 ∷ paint three_set 4 ∷ paint three_set 5 ∷ []
    ≡ Ink (rgb 0 0 0) ∷ Ink (rgb 1 2 3) ∷ Ink (rgb 15 9 1) ∷ Ink (rgb 15 0 15) ∷ []
unfolding computing
entries_are_set = refl

pub last_setting_counts : paint (three_set ++ Entry 4 (rgb 0 7 0) ∷ []) 4 ≡ Ink (rgb 0 7 0)
unfolding computing
last_setting_counts = refl

-- only the defaults show the picture behind again, and bring every entry back; a clearing doesn't
pub paints_stay_when_cleared : paint (three_set ++ Clear ∷ []) 8 ∷ paint (three_set ++ Clear ∷ []) 4 ∷ []
    ≡ Ink (rgb 0 0 0) ∷ Ink (rgb 15 9 1) ∷ []
unfolding computing
paints_stay_when_cleared = refl

pub all_paints_come_back : (state (three_set ++ ColourDefaults ∷ [])).page.paints ≡ sixteen ++ sixteen
unfolding computing
all_paints_come_back = refl

pub set_after_the_defaults : paint (three_set ++ ColourDefaults ∷ Entry 24 (rgb 5 5 5) ∷ []) 24 ∷
    paint (three_set ++ ColourDefaults ∷ Entry 24 (rgb 5 5 5) ∷ []) 8 ∷ [] ≡ Ink (rgb 5 5 5) ∷ Video ∷ []
unfolding computing
set_after_the_defaults = refl

-- ---- the DCLUT

pub dclut_at_the_start : (state []).page.dclut ≡ 0 ∷ 1 ∷ 2 ∷ 3 ∷ []
unfolding computing
dclut_at_the_start = refl

abbrev pub dclut_set : List Command
dclut_set = Dclut 0 4 ∷ Dclut 3 31 ∷ Dclut 0 5 ∷ []

pub dclut_is_set : (state dclut_set).page.dclut ≡ 5 ∷ 1 ∷ 2 ∷ 31 ∷ []
unfolding computing
dclut_is_set = refl

pub dclut_stays_when_cleared : (state (dclut_set ++ Clear ∷ [])).page.dclut ≡ 5 ∷ 1 ∷ 2 ∷ 31 ∷ []
unfolding computing
dclut_stays_when_cleared = refl

pub dclut_comes_back : (state (dclut_set ++ ColourDefaults ∷ [])).page.dclut ≡ 0 ∷ 1 ∷ 2 ∷ 3 ∷ []
unfolding computing
dclut_comes_back = refl

-- setting paints leaves it, and setting it leaves them
pub paints_leave_the_dclut : (state (dclut_set ++ three_set)).page.dclut ≡ 5 ∷ 1 ∷ 2 ∷ 31 ∷ []
unfolding computing
paints_leave_the_dclut = refl

pub dclut_leaves_the_paints : (state dclut_set).page.paints ≡ sixteen ++ sixteen
unfolding computing
dclut_leaves_the_paints = refl
