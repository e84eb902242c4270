-- Colours: entries in tables of eight (ETS 300 072, colour tables). Which paint each has by default, what invert
-- exchanges, and that a foreground gives way to the background where it would show the picture behind, are this
-- profile's own.
use Rattle.std.specs.Prelude.{ℕ, ◌%◌, List, [], ◌∷◌, slice_index_or}
use Rattle.cept_codes.specs.declared.look.Paint.{Paint}
use Rattle.cept_codes.specs.declared.look.Paint.TheVariants as paints
use Rattle.cept_codes.specs.Look.{black_paint}

-- red, green and blue, 0 to 15 each
abbrev pub ink : ℕ → ℕ → ℕ → Paint
ink r g b = paints.Ink (record { r = r; g = g; b = b })

-- entries 0 to 15 of the default colour table: full colours, the one that shows the picture behind, reduced colours
unfoldable pub default_paints : List Paint
default_paints =
    ink 0 0 0 ∷ ink 15 0 0 ∷ ink 0 15 0 ∷ ink 15 15 0 ∷ ink 0 0 15 ∷ ink 15 0 15 ∷ ink 0 15 15 ∷ ink 15 15 15 ∷
    paints.Video ∷ ink 7 0 0 ∷ ink 0 7 0 ∷ ink 7 7 0 ∷ ink 0 0 7 ∷ ink 7 0 7 ∷ ink 0 7 7 ∷ ink 7 7 7 ∷ []

-- entries 16 to 31 are as those
abbrev pub default_paint : ℕ → Paint
default_paint i = slice_index_or default_paints (i % 16) black_paint

-- a foreground that would show the picture behind has the paint of the background
abbrev pub paint_over : Paint → Paint → Paint
paint_over paints.Video back = back
paint_over (paints.Ink c) back = paints.Ink c
