-- Worked cases: which pattern a code has, and what is drawn of a sign of the downloaded set, by computing.
use Rattle.cept_profile.proofs.WhatComputes.{computing}
use Rattle.std.proofs.Common.{◌≡◌, ℕ, Some, None, [], ◌∷◌, map, true, refl}
use Rattle.cept_codes.specs.declared.attribute.Pen.{Pen}
use Rattle.cept_codes.specs.declared.cell.What.{What}
use Rattle.cept_codes.specs.declared.cell.What.TheVariants as whats
use Rattle.cept_codes.specs.declared.glyph.SetId.TheVariants.{D, M}
use Rattle.cept_codes.specs.declared.look.Look.{Look}
use Rattle.cept_codes.specs.declared.look.Paint.{Paint}
use Rattle.cept_codes.specs.declared.look.Paint.TheVariants.{Video}
use Rattle.cept_codes.specs.declared.look.Pattern.{Pattern}
use Rattle.cept_codes.specs.declared.look.Shape.{Shape}
use Rattle.cept_codes.specs.declared.look.Shape.TheVariants.{Char, Drcs}
use Rattle.cept_codes.specs.declared.stroke.Stroke.TheVariants as strokes
use Rattle.cept_codes.specs.Attribute.{unset_pen}
use Rattle.cept_profile.specs.Colours.{default_paint, default_paints, ink}
use Rattle.cept_profile.specs.Definitions.{Definitions, inks_with}
use Rattle.cept_profile.specs.Look.{look_of, shape_in}
use Rattle.cept_profile.specs.PageParts.{list_of_codes, list_of_colours, pattern_in}
use Rattle.cept_profile.proofs.PartsByStrokes.{pattern_back}

-- 6 by 6 pixels, all set in the first plane
abbrev pub pattern_of : ℕ → Pattern
pattern_of planes =
    record { w = 6; h = 6; planes = planes; bits = 0xFFFFFFFFF ∷ 0 ∷ 0 ∷ 0 ∷ 0 ∷ 0 ∷ 0 ∷ 0 ∷ 0 ∷ [] }

-- ---- which pattern a code has

-- a code has the pattern that was defined last, of its own
pub last_of_its_own : map (pattern_back (strokes.Drcs 0x22 (pattern_of 2) ∷ strokes.Drcs 0x21 (pattern_of 4)
    ∷ strokes.Drcs 0x21 (pattern_of 1) ∷ [])) (0x21 ∷ 0x22 ∷ 0x23 ∷ []) ≡
    Some (pattern_of 4) ∷ Some (pattern_of 2) ∷ None ∷ []
last_of_its_own = refl

-- a header that deletes takes those before it, and a wipe none
pub deleted : map (pattern_back (strokes.Wipe ∷ strokes.Drcs 0x22 (pattern_of 2) ∷ strokes.DrcsClear
    ∷ strokes.Drcs 0x21 (pattern_of 1) ∷ [])) (0x21 ∷ 0x22 ∷ []) ≡ None ∷ Some (pattern_of 2) ∷ []
deleted = refl

-- code 7/15 has none
pub none_for_the_last : pattern_in (list_of_codes (λ d. Some (pattern_of 1))) 0x7F ≡ None
unfolding computing
none_for_the_last = refl

-- ---- what is drawn

-- 2/1 to 2/3 are defined with one, two and four planes; the DCLUT names entries 4, 1, 31 and 24
abbrev pub defined : Definitions
defined = record {
  paints = list_of_colours default_paint;
  dclut = 4 ∷ 1 ∷ 31 ∷ 24 ∷ [];
  patterns = Some (pattern_of 1) ∷ Some (pattern_of 2) ∷ Some (pattern_of 4) ∷ [];
}

abbrev pub drawn : ℕ → What
drawn code = whats.Serial (record { set = D; code = code; accent = 0 })

-- one plane has no inks, two have those of the entries that the DCLUT names, the picture behind among them
pub one_plane : shape_in defined (drawn 0x21) None ≡ Drcs (pattern_of 1) (inks_with [])
unfolding computing
one_plane = refl

pub two_planes : shape_in defined (drawn 0x22) None
    ≡ Drcs (pattern_of 2) (inks_with (ink 0 0 15 ∷ ink 15 0 0 ∷ ink 7 7 7 ∷ Video ∷ []))
unfolding computing
two_planes = refl

-- four have those of entries 16 to 31, of which 24 shows the picture behind
pub four_planes : shape_in defined (drawn 0x23) None ≡ Drcs (pattern_of 4) (inks_with default_paints)
unfolding computing
four_planes = refl

-- a code without a pattern is drawn as itself, and so is the code of another set
pub no_pattern : map (λ w. shape_in defined w None)
    (drawn 0x24 ∷ drawn 0x7F ∷ whats.Serial (record { set = M; code = 0x21; accent = 0 }) ∷ []) ≡
    Char (record { set = D; code = 0x24; accent = 0 }) ∷ Char (record { set = D; code = 0x7F; accent = 0 })
    ∷ Char (record { set = M; code = 0x21; accent = 0 }) ∷ []
no_pattern = refl

-- invert exchanges foreground and background, and no inks
abbrev pub in_pen : Pen → Look
in_pen pen = look_of defined unset_pen unset_pen (whats.Parallel (record { set = D; code = 0x22; accent = 0 }) pen)

abbrev pub seen : Look → Shape × Paint × Paint
seen l = (l.shape, l.fore, l.back)

pub inverted : map (λ (pen : Pen). seen (in_pen pen))
    (record unset_pen { fore = Some 2; back = Some 1 }
    ∷ record unset_pen { fore = Some 2; back = Some 1; invert = Some true } ∷ []) ≡
    (shape_in defined (drawn 0x22) None, ink 0 15 0, ink 15 0 0) ∷ (shape_in defined (drawn 0x22) None, ink 15 0 0, ink 0 15 0)
    ∷ []
unfolding computing
inverted = refl
