-- Worked cases: looks by the attributes of rows and of the screen and by the paints of the entries, by computing.
use Rattle.cept_profile.proofs.WhatComputes.{computing}
use Rattle.std.proofs.Common.{◌≡◌, ℕ, List, [], ◌∷◌, ◌++◌, true, refl}
use Rattle.cept_codes.specs.declared.command.C1Set.TheVariants.{Serial}
use Rattle.cept_codes.specs.declared.command.Command.{Command}
use Rattle.cept_codes.specs.declared.command.Command.TheVariants.{C1, ColourDefaults, ColourStart, DesignateC1, Entry}
use Rattle.cept_codes.specs.declared.command.Command.TheVariants.{FullRow, FullScreen, Graphic, Position, Table}
use Rattle.cept_codes.specs.declared.glyph.SetId.TheVariants.{P}
use Rattle.cept_codes.specs.declared.look.Look.{Look}
use Rattle.cept_codes.specs.declared.look.Paint.{Paint}
use Rattle.cept_codes.specs.declared.look.Paint.TheVariants.{Ink, Video}
use Rattle.cept_codes.specs.declared.look.Rgb.{Rgb}
use Rattle.cept_codes.specs.declared.look.Shape.TheVariants as shapes
use Rattle.cept_codes.specs.Look.{blank_look}
use Rattle.cept_profile.specs.Changes.{changes}
use Rattle.cept_profile.specs.Look.{look}
use Rattle.cept_profile.specs.State.{core}
use Rattle.cept_profile.proofs.PlainPages.{changes-plain}

-- ---- how the cases are told

-- the look at this row and column after the commands
abbrev pub look_after : List Command → ℕ → ℕ → Look
look_after history r c = look (core history) r c

-- red, green and blue
abbrev pub rgb : ℕ → ℕ → ℕ → Rgb
rgb red green blue = record { r = red; g = green; b = blue }

abbrev pub black : Paint
black = Ink (rgb 0x0 0x0 0x0)

abbrev pub red : Paint
red = Ink (rgb 0xF 0x0 0x0)

abbrev pub green : Paint
green = Ink (rgb 0x0 0xF 0x0)

abbrev pub reduced_green : Paint
reduced_green = Ink (rgb 0x0 0x7 0x0)

abbrev pub blue : Paint
blue = Ink (rgb 0x0 0x0 0xF)

abbrev pub white : Paint
white = Ink (rgb 0xF 0xF 0xF)

-- nothing in these paints, and a sign
abbrev pub space_in : Paint → Paint → Look
space_in fore back = record blank_look { fore = fore; back = back }

abbrev pub sign_in : ℕ → Paint → Paint → Look
sign_in code fore back =
    record (space_in fore back) { shape = shapes.Char (record { set = P; code = code; accent = 0 }) }

-- ---- rows and the screen

-- `1B 23 20 4B 1B 23 21 4A 41`: a box that the row sets to off beats that of the screen
abbrev pub box_off_in_row : List Command
box_off_in_row = FullScreen 11 ∷ FullRow 10 ∷ Graphic 0x41 ∷ []

pub no_box_in_row : look_after box_off_in_row 1 1 ≡ sign_in 0x41 white black
unfolding computing
no_box_in_row = refl

pub no_box_beside_it : look_after box_off_in_row 1 40 ≡ blank_look
unfolding computing
no_box_beside_it = refl

pub box_elsewhere : look_after box_off_in_row 2 1 ≡ record blank_look { boxed = true }
unfolding computing
box_elsewhere = refl

-- `1B 23 21 54 90 41 9E 42`: 9/14 unsets the background, so that of the row is seen again
abbrev pub black_then_unset : List Command
black_then_unset = FullRow 20 ∷ C1 16 ∷ Graphic 0x41 ∷ C1 30 ∷ Graphic 0x42 ∷ []

pub on_black : look_after black_then_unset 1 1 ≡ sign_in 0x41 white black
unfolding computing
on_black = refl

pub on_that_of_the_row : look_after black_then_unset 1 2 ≡ sign_in 0x42 white blue
unfolding computing
on_that_of_the_row = refl

-- `1B 23 21 4E 8C 41 42`: signs of single size in a row of wide ones
abbrev pub single_in_wide_row : List Command
single_in_wide_row = FullRow 14 ∷ C1 12 ∷ Graphic 0x41 ∷ Graphic 0x42 ∷ []

pub single_signs : look_after single_in_wide_row 1 1 ∷ look_after single_in_wide_row 1 2 ∷ []
    ≡ sign_in 0x41 white black ∷ sign_in 0x42 white black ∷ []
unfolding computing
single_signs = refl

pub wide_after_them : look_after single_in_wide_row 1 3 ∷ look_after single_in_wide_row 1 4 ∷ []
    ≡ record blank_look { w = 2 } ∷ record blank_look { w = 2; dx = 1 } ∷ []
unfolding computing
wide_after_them = refl

-- `1F 58 41 1B 23 21 4D 41`: the last row isn't high
pub last_row_is_flat : look_after (Position 24 1 ∷ FullRow 13 ∷ Graphic 0x41 ∷ []) 24 1 ≡ sign_in 0x41 white black
unfolding computing
last_row_is_flat = refl

-- `1F 42 41 1B 23 21 51 1F 41 41 8D 41`: a place that is covered from above has the row attributes of its origin
abbrev pub high_over_red_row : List Command
high_over_red_row = Position 2 1 ∷ FullRow 17 ∷ Position 1 1 ∷ C1 13 ∷ Graphic 0x41 ∷ []

pub covered_as_its_origin : look_after high_over_red_row 2 1 ≡ record (sign_in 0x41 white black) { h = 2; dy = 1 }
unfolding computing
covered_as_its_origin = refl

pub red_beside_it : look_after high_over_red_row 2 2 ≡ space_in white red
unfolding computing
red_beside_it = refl

-- ---- backgrounds of markers

-- `S 9B 31 40 82 9C 41 9D 42`: black is entry 0 under every table, a new background the foreground of its table
abbrev pub black_and_new : List Command
black_and_new = DesignateC1 Serial ∷ Table 1 ∷ C1 2 ∷ C1 28 ∷ Graphic 0x41 ∷ C1 29 ∷ Graphic 0x42 ∷ []

pub on_entry_0 : look_after black_and_new 1 3 ≡ sign_in 0x41 reduced_green black
unfolding computing
on_entry_0 = refl

pub on_entry_10 : look_after black_and_new 1 5 ≡ sign_in 0x42 reduced_green reduced_green
unfolding computing
on_entry_10 = refl

-- `1B 23 21 41 S 9D 41 1B 23 21 42`: without a marker of it the foreground is that of the row, also after this changed
abbrev pub new_background_in_red_row : List Command
new_background_in_red_row = FullRow 1 ∷ DesignateC1 Serial ∷ C1 29 ∷ Graphic 0x41 ∷ []

pub red_on_red : look_after new_background_in_red_row 1 2 ≡ sign_in 0x41 red red
unfolding computing
red_on_red = refl

pub green_on_green : look_after (new_background_in_red_row ++ FullRow 2 ∷ []) 1 2 ≡ sign_in 0x41 green green
unfolding computing
green_on_green = refl

pub from_the_marker_to_the_end : look_after (new_background_in_red_row ++ FullRow 2 ∷ []) 1 1
    ∷ look_after (new_background_in_red_row ++ FullRow 2 ∷ []) 1 40 ∷ []
    ≡ space_in green green ∷ space_in green green ∷ []
unfolding computing
from_the_marker_to_the_end = refl

-- ---- the picture behind

-- `9B 31 40 80 41 9B 30 40 91 42`: a foreground that would show it is as the background
abbrev pub picture_in_front : List Command
picture_in_front = Table 1 ∷ C1 0 ∷ Graphic 0x41 ∷ Table 0 ∷ C1 17 ∷ Graphic 0x42 ∷ []

pub as_the_background : look_after picture_in_front 1 1 ∷ look_after picture_in_front 1 2 ∷ []
    ≡ sign_in 0x41 black black ∷ sign_in 0x42 red red ∷ []
unfolding computing
as_the_background = refl

-- `9B 31 40 80 9B 30 40 91 9D 41`: exchanged it is the background, and the foreground stays
pub exchanged_first : look_after (Table 1 ∷ C1 0 ∷ Table 0 ∷ C1 17 ∷ C1 29 ∷ Graphic 0x41 ∷ []) 1 1
    ≡ sign_in 0x41 red Video
unfolding computing
exchanged_first = refl

-- `9B 31 40 80 90 41`
pub picture_on_picture : look_after (Table 1 ∷ C1 0 ∷ C1 16 ∷ Graphic 0x41 ∷ []) 1 1 ≡ sign_in 0x41 Video Video
unfolding computing
picture_on_picture = refl

-- `9B 31 40 90 41 1F 26 30 38 40 40 1F 26 21`: entry 8 becomes black, and by the defaults the picture behind again
abbrev pub sign_on_entry_8 : List Command
sign_on_entry_8 = Table 1 ∷ C1 16 ∷ Graphic 0x41 ∷ []

abbrev pub entry_8_black : List Command
entry_8_black = sign_on_entry_8 ++ ColourStart 8 ∷ Entry 8 (rgb 0x0 0x0 0x0) ∷ []

pub picture_behind_at_first : look_after sign_on_entry_8 1 1 ≡ sign_in 0x41 white Video
unfolding computing
picture_behind_at_first = refl

pub black_by_the_entry : look_after entry_8_black 1 1 ≡ sign_in 0x41 white black
unfolding computing
black_by_the_entry = refl

pub picture_behind_again : look_after (entry_8_black ++ ColourDefaults ∷ []) 1 1 ≡ sign_in 0x41 white Video
unfolding computing
picture_behind_again = refl

-- ---- entries

-- `81 41 1F 26 30 39 ..`: an entry that no cell names changes no look
abbrev pub red_sign : List Command
red_sign = C1 1 ∷ Graphic 0x41 ∷ []

pub entry_not_named : changes red_sign (Entry 9 (rgb 0xF 0x0 0xF)) ≡ []
unfolding computing
entry_not_named = changes-plain red_sign (Entry 9 (rgb 0xF 0x0 0xF)) refl refl

-- the paint that it has changes none either
pub same_paint_again : changes red_sign (Entry 1 (rgb 0xF 0x0 0x0)) ≡ []
unfolding computing
same_paint_again = changes-plain red_sign (Entry 1 (rgb 0xF 0x0 0x0)) refl refl

-- another changes what names it
pub another_paint : changes red_sign (Entry 1 (rgb 0x0 0xF 0x0))
    ≡ (record { row = 1; column = 1 }, sign_in 0x41 green black) ∷ []
unfolding computing
another_paint = changes-plain red_sign (Entry 1 (rgb 0x0 0xF 0x0)) refl refl
