-- Worked cases: texts of patterns, by computing.
use Rattle.std.proofs.Common.{◌≡◌, ℕ, ◌-◌, ◌^◌, [], ◌∷◌, ◌++◌, codes, length, map, replicate, refl}
use Rattle.std.specs.Char.{encode_utf8}
use Rattle.std.specs.Fmt.{digits}
use Rattle.std.specs.Int.{div_ceil}
use Rattle.cept_codes.specs.declared.look.Inks.{Inks}
use Rattle.cept_codes.specs.declared.look.Look.{Look}
use Rattle.cept_codes.specs.declared.look.Paint.{Paint}
use Rattle.cept_codes.specs.declared.look.Paint.TheVariants as paints
use Rattle.cept_codes.specs.declared.look.Shape.TheVariants as shapes
use Rattle.cept_codes.specs.Look.{black_paint, blank_look}
use Rattle.cept_report.specs.Screen.{cell_text, look_sign, shape_sign}
use Rattle.cept_report.specs.Text.{change_line, hex_word, ink_texts, look_text, pattern_text, shape_text}

abbrev ink : ℕ → ℕ → ℕ → Paint
ink r g b = paints.Ink (record { r = r; g = g; b = b })

-- the inks of a pattern of one plane, and those of one of two planes
abbrev none : Inks
none = record { count = 0; paints = replicate 16 black_paint }

abbrev four : Paint → Inks
four second = record {
  count = 4;
  paints = black_paint ∷ second ∷ ink 0 15 0 ∷ ink 15 15 0 ∷ replicate 12 black_paint;
}

-- 120 pixels, all set, at the first place
abbrev all_set : Look
all_set = record blank_look {
  shape = shapes.Drcs (record {
    w = 12;
    h = 10;
    planes = 1;
    bits = 0xFFFFFFFFFFFFFFFF ∷ 0x00FFFFFFFFFFFFFF ∷ replicate 7 0;
  }) none;
}

pub pixels_are_reported : change_line 14 (record { row = 1; column = 1 }) all_set
    ≡ codes "14 1 1 %12x10x1/FFFFFFFFFFFFFFFF00FFFFFFFFFFFFFF 11.00 FFF 000 S---" ++ 10 ∷ []
unfolding shape_text pattern_text ink_texts hex_word digits
pixels_are_reported = refl

pub pattern_is_a_white_square : look_sign all_set ≡ 0xE2 ∷ 0x96 ∷ 0xA1 ∷ []
unfolding look_sign shape_sign encode_utf8
pattern_is_a_white_square = refl

-- the first pixel of the first two lines is set: a line of twelve pixels is three digits
abbrev first_column : Look
first_column = record blank_look {
  shape = shapes.Drcs (record { w = 12; h = 10; planes = 1; bits = 0x1001 ∷ replicate 8 0 }) none;
}

pub words_of_zeros_are_reported : look_text first_column
    ≡ codes "%12x10x1/00000000000010010000000000000000 11.00 FFF 000 S---"
unfolding shape_text pattern_text ink_texts hex_word digits
words_of_zeros_are_reported = refl

-- two planes, the lower all set
abbrev two_planes : Paint → Look
two_planes second = record blank_look {
  shape =
      shapes.Drcs (record { w = 6; h = 6; planes = 2; bits = 0xFFFFFFFFF ∷ replicate 8 0 }) (four second);
}

pub inks_are_reported : look_text (two_planes (ink 15 0 0))
    ≡ codes "%6x6x2/0000000FFFFFFFFF0000000000000000/000F000F0FF0 11.00 FFF 000 S---"
unfolding shape_text pattern_text ink_texts hex_word digits
inks_are_reported = refl

pub other_ink_is_reported : look_text (two_planes (ink 0 0 15))
    ≡ codes "%6x6x2/0000000FFFFFFFFF0000000000000000/00000F0F0FF0 11.00 FFF 000 S---"
unfolding shape_text pattern_text ink_texts hex_word digits
other_ink_is_reported = refl

-- thirty pixels, the first and the last set, as a cell
pub smallest_has_one_word : cell_text (record { row = 3; column = 12 }) (record blank_look {
  shape = shapes.Drcs (record { w = 6; h = 5; planes = 1; bits = 0x20000001 ∷ replicate 8 0 }) none;
})
    ≡ codes "3 12 %6x5x1/0000000020000001 11.00 FFF 000 S---" ++ 10 ∷ []
unfolding cell_text shape_text pattern_text ink_texts hex_word digits
smallest_has_one_word = refl

-- nine words that differ, and sixteen inks, one of them the picture behind
abbrev largest : Look
largest = record blank_look {
  shape = shapes.Drcs (record {
    w = 12;
    h = 12;
    planes = 4;
    bits = 0x0123456789ABCDEF ∷ 2 ∷ 3 ∷ 4 ∷ 5 ∷ 6 ∷ 7 ∷ 8 ∷ 0xFEDCBA9876543210 ∷ [];
  }) (record {
    count = 16;
    paints = map (λ n. ink n 0 (15 - n)) (0 ∷ 1 ∷ 2 ∷ 3 ∷ 4 ∷ 5 ∷ 6 ∷ 7 ∷ []) ++ paints.Video
        ∷ map (λ n. ink 15 n 0) (9 ∷ 10 ∷ 11 ∷ 12 ∷ 13 ∷ 14 ∷ 15 ∷ []);
  });
}

pub largest_has_nine_words : look_text largest
    ≡ codes "%12x12x4/0123456789ABCDEF00000000000000020000000000000003"
    ++ codes "000000000000000400000000000000050000000000000006"
    ++ codes "00000000000000070000000000000008FEDCBA9876543210"
    ++ codes "/00F10E20D30C40B50A609708---F90FA0FB0FC0FD0FE0FF0 11.00 FFF 000 S---"
unfolding shape_text pattern_text ink_texts hex_word digits
largest_has_nine_words = refl

-- the longest line of all
pub longest_line : length (change_line (2 ^ 64 - 1) (record { row = 24; column = 40 }) largest) ≡ 249
unfolding shape_text pattern_text ink_texts hex_word digits
longest_line = refl

-- 6x5, 6x6, 6x10, 6x12, 12x10 and 12x12 in 1, 2 and 4 planes
pub words_of_each_form : map (λ n. div_ceil n 64) (30 ∷ 60 ∷ 120 ∷ 36 ∷ 72 ∷ 144 ∷ 60 ∷ 120 ∷ 240 ∷ [])
    ++ map (λ n. div_ceil n 64) (72 ∷ 144 ∷ 288 ∷ 120 ∷ 240 ∷ 480 ∷ 144 ∷ 288 ∷ 576 ∷ [])
    ≡ 1 ∷ 1 ∷ 2 ∷ 1 ∷ 2 ∷ 3 ∷ 1 ∷ 2 ∷ 4 ∷ 2 ∷ 3 ∷ 5 ∷ 2 ∷ 4 ∷ 8 ∷ 3 ∷ 5 ∷ 9 ∷ []
words_of_each_form = refl
