-- Worked cases: the looks of cells, by computing.
use Rattle.cept_profile.proofs.WhatComputes.{computing}
use Rattle.std.proofs.Common.{◌≡◌, ℕ, Some, true, refl}
use Rattle.cept_codes.specs.declared.attribute.Pen.{Pen}
use Rattle.cept_codes.specs.declared.cell.Marker.TheVariants as markers
use Rattle.cept_codes.specs.declared.cell.What.{What}
use Rattle.cept_codes.specs.declared.cell.What.TheVariants as whats
use Rattle.cept_codes.specs.declared.glyph.Glyph.{Glyph}
use Rattle.cept_codes.specs.declared.glyph.SetId.TheVariants.{P}
use Rattle.cept_codes.specs.declared.look.Look.{Look}
use Rattle.cept_codes.specs.declared.look.Paint.{Paint}
use Rattle.cept_codes.specs.declared.look.Paint.TheVariants as paints
use Rattle.cept_codes.specs.declared.look.Shape.TheVariants as shapes
use Rattle.cept_codes.specs.Attribute.{unset_pen}
use Rattle.cept_codes.specs.Look.{blank_look, black_paint, white_paint}
use Rattle.cept_profile.specs.Attributes.{cascade}
use Rattle.cept_profile.specs.Colours.{ink, default_paint}
use Rattle.cept_profile.specs.Look.{look_of}
use Rattle.cept_profile.specs.State.{blank_page, definitions_of}

abbrev pub glyph : ℕ → ℕ → Glyph
glyph code accent = record { set = P; code = code; accent = accent }

-- a sign in these paints, with no other attribute
abbrev pub in_paints : ℕ → Paint → Paint → Look
in_paints code fore back = record blank_look { shape = shapes.Char (glyph code 0); fore = fore; back = back }

-- what stands in a cell, in the default paints, where row and screen set nothing
abbrev pub default_look : What → Look
default_look what = look_of (definitions_of blank_page) unset_pen unset_pen what

abbrev pub written : ℕ → Pen → What
written code pen = whats.Parallel (glyph code 0) pen

-- `95 41 9E 42 9D 43`: a magenta background, which 9/14 ends by black, and then inverted; each pen is what these set
abbrev pub magenta_after : Pen
magenta_after = record unset_pen { back = Some 5 }

abbrev pub black_after : Pen
black_after = record unset_pen { back = Some 0 }

abbrev pub inverted : Pen
inverted = record black_after { invert = Some true }

pub sign_on_magenta : default_look (written 0x41 magenta_after) ≡ in_paints 0x41 white_paint (ink 15 0 15)
unfolding computing
sign_on_magenta = refl

pub sign_on_black : default_look (written 0x42 black_after) ≡ in_paints 0x42 white_paint black_paint
unfolding computing
sign_on_black = refl

pub sign_inverted : default_look (written 0x43 inverted) ≡ in_paints 0x43 black_paint white_paint
unfolding computing
sign_inverted = refl

-- a sign that would show the picture behind is as its background, which is transparent under invert
pub no_sign_shows_the_picture : default_look (written 0x41 (record unset_pen { fore = Some 8; back = Some 1 }))
    ≡ in_paints 0x41 (ink 15 0 0) (ink 15 0 0)
unfolding computing
no_sign_shows_the_picture = refl

pub picture_behind_inverted : default_look
    (written 0x41 (record unset_pen { fore = Some 24; back = Some 1; invert = Some true }))
    ≡ in_paints 0x41 (ink 15 0 0) paints.Video
unfolding computing
picture_behind_inverted = refl

-- the third table is as the first, the fourth as the second
pub reduced_green : default_paint 26 ≡ ink 0 7 0
unfolding computing
reduced_green = refl

-- an accent is of its sign; a space with an accent is drawn, one without is not
pub accent_of_its_sign : default_look (whats.Parallel (glyph 0x61 0x48) unset_pen)
    ≡ record blank_look { shape = shapes.Char (glyph 0x61 0x48) }
unfolding computing
accent_of_its_sign = refl

pub space_is_not_drawn : default_look (written 0x20 magenta_after) ≡ record blank_look { back = ink 15 0 15 }
unfolding computing
space_is_not_drawn = refl

-- a marker has the defaults
pub marker_is_blank : default_look (whats.Marker markers.NewBack) ≡ blank_look
unfolding computing
marker_is_blank = refl

-- the pen comes before the row, and the row before the screen
pub pen_first : (cascade (record unset_pen { fore = Some 1 }) (record unset_pen { fore = Some 2 })
    (record unset_pen { fore = Some 3 })).fore ≡ 1
pen_first = refl

pub row_next : (cascade unset_pen (record unset_pen { fore = Some 2 }) (record unset_pen { fore = Some 3 })).fore ≡ 2
row_next = refl

pub screen_last : (cascade unset_pen unset_pen (record unset_pen { fore = Some 3 })).fore ≡ 3
screen_last = refl
