-- Worked cases: bytes of commands and of patterns, by the tables of the units and by the pixels drawn on paper.
use Rattle.std.proofs.Common.{◌≡◌, false, [], ◌∷◌, refl}
use Rattle.cept_codes.specs.declared.command.C1Set.TheVariants as c1_set
use Rattle.cept_codes.specs.declared.command.Command.TheVariants as command
use Rattle.cept_codes.specs.declared.glyph.SetId.TheVariants as set
use Rattle.cept_codes.specs.declared.look.Pattern.{Pattern}
use Rattle.cept_parser.specs.Spelling.{spelling, spellings, pattern_bytes, plane_bytes, line_bytes, half_line_byte}

-- the first and the last place of the screen
pub first_place : spelling (command.Position 1 1) ≡ 0x1F ∷ 0x41 ∷ 0x41 ∷ []
unfolding spelling
first_place = refl

pub last_place : spelling (command.Position 24 40) ≡ 0x1F ∷ 0x58 ∷ 0x68 ∷ []
unfolding spelling
last_place = refl

-- red in full: bits 3 and 2 of red in the first byte, bits 1 and 0 in the second
pub red_entry : spelling (command.Entry 8 (record { r = 15; g = 0; b = 0 })) ≡ 0x64 ∷ 0x64 ∷ []
unfolding spelling
red_entry = refl

pub green_entry : spelling (command.Entry 8 (record { r = 0; g = 15; b = 0 })) ≡ 0x52 ∷ 0x52 ∷ []
unfolding spelling
green_entry = refl

-- 1000 of red, 0100 of green and 0011 of blue: bit 3 of red and bit 2 of green in the first byte,
-- bits 1 and 0 of blue in the second
pub mixed_entry : spelling (command.Entry 8 (record { r = 8; g = 4; b = 3 })) ≡ 0x62 ∷ 0x49 ∷ []
unfolding spelling
mixed_entry = refl

-- entry 19 begins by its two digits
pub colours_at_19 : spelling (command.ColourStart 19) ≡ 0x1F ∷ 0x26 ∷ 0x31 ∷ 0x39 ∷ []
unfolding spelling
colours_at_19 = refl

-- 20 rows, positions don't wrap
pub short_format : spelling (command.Format 20 false) ≡ 0x1F ∷ 0x2D ∷ 0x42 ∷ 0x71 ∷ []
unfolding spelling
short_format = refl

-- the second revision of the rules, and the first
pub second_revision : spelling (command.Revision 2) ≡ 0x1F ∷ 0x2F ∷ 0x45 ∷ []
unfolding spelling
second_revision = refl

pub first_revision : spelling (command.Revision 1) ≡ 0x1F ∷ 0x2F ∷ 0x46 ∷ []
unfolding spelling
first_revision = refl

-- 6x5 in four planes
pub small_header : spelling (command.DrcsHeader false (record { w = 6; h = 5; planes = 4 }))
    ≡ 0x1F ∷ 0x23 ∷ 0x20 ∷ 0x20 ∷ 0x40 ∷ 0x3C ∷ 0x44 ∷ []
unfolding spelling
small_header = refl

-- rows 2 to 15 scroll
pub area_2_to_15 : spelling (command.AreaCreate 2 15) ≡ 0x9B ∷ 0x30 ∷ 0x32 ∷ 0x3B ∷ 0x31 ∷ 0x35 ∷ 0x55 ∷ []
unfolding spelling
area_2_to_15 = refl

-- the last sign 39 times more
pub repeated : spelling (command.Repeat 39) ≡ 0x12 ∷ 0x67 ∷ []
unfolding spelling
repeated = refl

-- the head of a page, and one sign of the downloaded set
pub downloaded_sign : spellings (command.FullDefaults c1_set.Parallel ∷ command.Designate 0 set.D ∷ command.Graphic 0x21
    ∷ command.Designate 0 set.P ∷ [])
    ≡ 0x1F ∷ 0x2F ∷ 0x42 ∷ 0x1B ∷ 0x28 ∷ 0x20 ∷ 0x40 ∷ 0x21 ∷ 0x1B ∷ 0x28 ∷ 0x40 ∷ []
unfolding spelling
downloaded_sign = refl

-- 6x5 in one plane: pixel y of line y, a falling line. These are bits 0, 7, 14, 21 and 28
abbrev falling : Pattern
falling = record { w = 6; h = 5; planes = 1; bits = 0x10204081 ∷ 0 ∷ 0 ∷ 0 ∷ 0 ∷ 0 ∷ 0 ∷ 0 ∷ 0 ∷ [] }

pub falling_line : pattern_bytes falling ≡ 0x30 ∷ 0x60 ∷ 0x50 ∷ 0x48 ∷ 0x44 ∷ 0x42 ∷ []
unfolding pattern_bytes plane_bytes line_bytes half_line_byte
falling_line = refl

-- 12x10 in two planes: the left half of the first line of plane 0, bits 0 to 5, and the right half of the last line of
-- plane 1, bits 234 to 239, which are 42 to 47 of the fourth word
abbrev two_halves : Pattern
two_halves =
    record { w = 12; h = 10; planes = 2; bits = 0x3F ∷ 0 ∷ 0 ∷ 0xFC0000000000 ∷ 0 ∷ 0 ∷ 0 ∷ 0 ∷ 0 ∷ [] }

pub half_lines : pattern_bytes two_halves
    ≡ 0x30 ∷ 0x7F ∷ 0x40 ∷ 0x40 ∷ 0x40 ∷ 0x40 ∷ 0x40 ∷ 0x40 ∷ 0x40 ∷ 0x40 ∷ 0x40 ∷ 0x40 ∷ 0x40 ∷ 0x40 ∷ 0x40 ∷ 0x40
    ∷ 0x40 ∷ 0x40 ∷ 0x40 ∷ 0x40 ∷ 0x40 ∷ 0x31 ∷ 0x40 ∷ 0x40 ∷ 0x40 ∷ 0x40 ∷ 0x40 ∷ 0x40 ∷ 0x40 ∷ 0x40 ∷ 0x40 ∷ 0x40
    ∷ 0x40 ∷ 0x40 ∷ 0x40 ∷ 0x40 ∷ 0x40 ∷ 0x40 ∷ 0x40 ∷ 0x40 ∷ 0x40 ∷ 0x7F ∷ []
unfolding pattern_bytes plane_bytes line_bytes half_line_byte
half_lines = refl

-- 6x6 in four planes: pixel p of line p of plane p. These are bits 0 and 43 of the first word, and of the second
-- bit 22 and, as 129, of the third bit 1
abbrev one_in_each : Pattern
one_in_each =
    record { w = 6; h = 6; planes = 4; bits = 0x80000000001 ∷ 0x400000 ∷ 2 ∷ 0 ∷ 0 ∷ 0 ∷ 0 ∷ 0 ∷ 0 ∷ [] }

pub four_planes : pattern_bytes one_in_each
    ≡ 0x30 ∷ 0x60 ∷ 0x40 ∷ 0x40 ∷ 0x40 ∷ 0x40 ∷ 0x40 ∷ 0x31 ∷ 0x40 ∷ 0x50 ∷ 0x40 ∷ 0x40 ∷ 0x40 ∷ 0x40 ∷ 0x32 ∷ 0x40
    ∷ 0x40 ∷ 0x48 ∷ 0x40 ∷ 0x40 ∷ 0x40 ∷ 0x33 ∷ 0x40 ∷ 0x40 ∷ 0x40 ∷ 0x44 ∷ 0x40 ∷ 0x40 ∷ []
unfolding pattern_bytes plane_bytes line_bytes half_line_byte
four_planes = refl
