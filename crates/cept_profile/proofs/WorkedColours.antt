-- Worked tables: the paint of each entry by default, and which of them a sign and what is after it take, by computing.
use Rattle.cept_profile.proofs.WhatComputes.{computing}
use Rattle.std.proofs.Common.{◌≡◌, ℕ, List, [], ◌∷◌, ◌++◌, map, Option, Some, None, Bool, true, false, refl}
use Rattle.std.specs.List.{range_with_len}
use Rattle.cept_codes.specs.declared.cell.What.{What}
use Rattle.cept_codes.specs.declared.cell.What.TheVariants as whats
use Rattle.cept_codes.specs.declared.glyph.Glyph.{Glyph}
use Rattle.cept_codes.specs.declared.glyph.SetId.TheVariants.{P, S}
use Rattle.cept_codes.specs.declared.look.Look.{Look}
use Rattle.cept_codes.specs.declared.look.Paint.{Paint}
use Rattle.cept_codes.specs.declared.look.Paint.TheVariants.{Ink, Video}
use Rattle.cept_codes.specs.declared.look.Shape.{Shape}
use Rattle.cept_codes.specs.declared.look.Shape.TheVariants.{Char, Space}
use Rattle.cept_codes.specs.Attribute.{unset_pen}
use Rattle.cept_profile.specs.Colours.{default_paint}
use Rattle.cept_profile.specs.Look.{look_of}
use Rattle.cept_profile.specs.State.{blank_page, definitions_of}

-- red, green and blue
abbrev pub rgb : ℕ → ℕ → ℕ → Paint
rgb red green blue = Ink (record { r = red; g = green; b = blue })

-- the first sixteen entries
abbrev pub sixteen : List Paint
sixteen =
    rgb 0x0 0x0 0x0 ∷ rgb 0xF 0x0 0x0 ∷ rgb 0x0 0xF 0x0 ∷ rgb 0xF 0xF 0x0 ∷ rgb 0x0 0x0 0xF ∷ rgb 0xF 0x0 0xF
    ∷ rgb 0x0 0xF 0xF ∷ rgb 0xF 0xF 0xF
    ∷ Video ∷ rgb 0x7 0x0 0x0 ∷ rgb 0x0 0x7 0x0 ∷ rgb 0x7 0x7 0x0 ∷ rgb 0x0 0x0 0x7 ∷ rgb 0x7 0x0 0x7
    ∷ rgb 0x0 0x7 0x7 ∷ rgb 0x7 0x7 0x7 ∷ []

pub all_entries : map default_paint (range_with_len 0 32) ≡ sixteen ++ sixteen
unfolding computing
all_entries = refl

-- ---- foreground and background

-- the two paints of a look
abbrev pub paints_of : Look → Paint × Paint
paints_of look = (look.fore, look.back)

-- what stands in a cell, in the default paints, where row and screen set nothing
abbrev pub default_look : What → Look
default_look what = look_of (definitions_of blank_page) unset_pen unset_pen what

-- a sign with these entries
abbrev pub coloured : Option ℕ → Option ℕ → Option Bool → What
coloured fore back invert =
    whats.Parallel (record { set = P; code = 0x41; accent = 0 })
    (record unset_pen { fore = fore; back = back; invert = invert })

-- as it is, not inverted, and inverted; then the same without entries of its own
pub both_polarities : map (λ (what : What). paints_of (default_look what))
    (coloured (Some 1) (Some 2) None ∷ coloured (Some 1) (Some 2) (Some false) ∷ coloured (Some 1) (Some 2) (Some true)
    ∷ coloured None None None ∷ coloured None None (Some false) ∷ coloured None None (Some true) ∷ []) ≡
    (rgb 15 0 0, rgb 0 15 0) ∷ (rgb 15 0 0, rgb 0 15 0) ∷ (rgb 0 15 0, rgb 15 0 0)
    ∷ (rgb 15 15 15, rgb 0 0 0) ∷ (rgb 15 15 15, rgb 0 0 0) ∷ (rgb 0 0 0, rgb 15 15 15) ∷ []
unfolding computing
both_polarities = refl

-- where the foreground would show the picture behind it is as the background, also where that shows it
pub picture_after : map (λ (what : What). paints_of (default_look what))
    (coloured (Some 8) (Some 2) None ∷ coloured (Some 1) (Some 24) None ∷ coloured (Some 8) (Some 24) None
    ∷ coloured (Some 8) (Some 2) (Some true) ∷ coloured (Some 1) (Some 24) (Some true) ∷ []) ≡
    (rgb 0 15 0, rgb 0 15 0) ∷ (rgb 15 0 0, Video) ∷ (Video, Video)
    ∷ (rgb 0 15 0, Video) ∷ (rgb 15 0 0, rgb 15 0 0) ∷ []
unfolding computing
picture_after = refl

-- ---- shapes

-- the shape of a sign
abbrev pub shape_seen : Glyph → Shape
shape_seen g = (default_look (whats.Parallel g unset_pen)).shape

abbrev pub space : Glyph
space = record { set = P; code = 0x20; accent = 0 }

abbrev pub accented_space : Glyph
accented_space = record { set = P; code = 0x20; accent = 0x48 }

abbrev pub accented_sign : Glyph
accented_sign = record { set = P; code = 0x61; accent = 0x48 }

abbrev pub supplementary : Glyph
supplementary = record { set = S; code = 0x21; accent = 0 }

-- only the space without an accent shows nothing
pub shapes_of_signs : map shape_seen (space ∷ accented_space ∷ accented_sign ∷ supplementary ∷ []) ≡
    Space ∷ Char accented_space ∷ Char accented_sign ∷ Char supplementary ∷ []
unfolding computing
shapes_of_signs = refl
