-- Worked cases: every row of the tables of numbers, and records, by computing.
use Rattle.std.proofs.Common.{◌≡◌, true, false, [], ◌∷◌, replicate, refl}
use Rattle.cept_codes.specs.declared.attribute.Flash.TheVariants as flashes
use Rattle.cept_codes.specs.declared.glyph.SetId.TheVariants as sets
use Rattle.cept_codes.specs.declared.item.Reason.TheVariants as reasons
use Rattle.cept_codes.specs.declared.look.Inks.{Inks}
use Rattle.cept_codes.specs.declared.look.Look.{Look}
use Rattle.cept_codes.specs.declared.look.Paint.TheVariants as paints
use Rattle.cept_codes.specs.declared.look.Pattern.{Pattern}
use Rattle.cept_codes.specs.declared.look.Shape.TheVariants as shapes
use Rattle.cept_codes.specs.Look.{black_paint}
use Rattle.cept_control.specs.Numbers.{bit, flash_number, set_number}
use Rattle.cept_live.specs.Notices.{Change, Refusal, colour_of, no_colour, no_pixels, notice_of, pixels_of}
use Rattle.cept_live.specs.Notices.{sign_of}
use Rattle.cept_report.specs.Text.{named_reason}

-- ---- sets: 0 P, 1 S, 2 M, 3 N, 4 D

primary_is_0 : set_number sets.P ≡ 0
primary_is_0 = refl

supplementary_is_1 : set_number sets.S ≡ 1
supplementary_is_1 = refl

first_mosaic_is_2 : set_number sets.M ≡ 2
first_mosaic_is_2 = refl

second_mosaic_is_3 : set_number sets.N ≡ 3
second_mosaic_is_3 = refl

downloaded_is_4 : set_number sets.D ≡ 4
downloaded_is_4 = refl

-- ---- ways to flash: 0 to 6

steady_is_0 : flash_number flashes.Steady ≡ 0
steady_is_0 = refl

plain_is_1 : flash_number flashes.Plain ≡ 1
plain_is_1 = refl

inverted_is_2 : flash_number flashes.Inverted ≡ 2
inverted_is_2 = refl

reduced_is_3 : flash_number flashes.Reduced ≡ 3
reduced_is_3 = refl

first_fast_is_4 : flash_number flashes.Fast1 ≡ 4
first_fast_is_4 = refl

second_fast_is_5 : flash_number flashes.Fast2 ≡ 5
second_fast_is_5 = refl

third_fast_is_6 : flash_number flashes.Fast3 ≡ 6
third_fast_is_6 = refl

-- ---- reasons: 1 to 7

unassigned_control_is_1 : (named_reason reasons.UnassignedControl).0 ≡ 1
unfolding named_reason
unassigned_control_is_1 = refl

unknown_escape_is_2 : (named_reason reasons.UnknownEscape).0 ≡ 2
unfolding named_reason
unknown_escape_is_2 = refl

unknown_csi_is_3 : (named_reason reasons.UnknownCsi).0 ≡ 3
unfolding named_reason
unknown_csi_is_3 = refl

unknown_unit_is_4 : (named_reason reasons.UnknownUnit).0 ≡ 4
unfolding named_reason
unknown_unit_is_4 = refl

bad_parameter_is_5 : (named_reason reasons.BadParameter).0 ≡ 5
unfolding named_reason
bad_parameter_is_5 = refl

interrupted_is_6 : (named_reason reasons.Interrupted).0 ≡ 6
unfolding named_reason
interrupted_is_6 = refl

truncated_is_7 : (named_reason reasons.Truncated).0 ≡ 7
unfolding named_reason
truncated_is_7 = refl

-- ---- flags and colours

set_flag_is_1 : bit true ≡ 1
set_flag_is_1 = refl

unset_flag_is_0 : bit false ≡ 0
unset_flag_is_0 = refl

ink_has_its_parts : colour_of (paints.Ink (record { r = 15; g = 7; b = 3 })) ≡ record { red = 15; green = 7; blue = 3; behind = 0 }
ink_has_its_parts = refl

picture_behind_is_1 : colour_of paints.Video ≡ record { red = 0; green = 0; blue = 0; behind = 1 }
picture_behind_is_1 = refl

-- ---- shapes: nothing, a sign, a pattern of one ink of each plane's four

space_is_no_sign : sign_of shapes.Space ≡ record { kind = 0; set = 0; code = 0; accent = 0 }
space_is_no_sign = refl

space_has_no_pixels : pixels_of shapes.Space ≡ no_pixels
space_has_no_pixels = refl

umlaut_is_a_sign : sign_of (shapes.Char (record { set = sets.P; code = 0x61; accent = 0x48 }))
    ≡ record { kind = 1; set = 0; code = 0x61; accent = 0x48 }
umlaut_is_a_sign = refl

sign_has_no_pixels : pixels_of (shapes.Char (record { set = sets.N; code = 0x41; accent = 0 })) ≡ no_pixels
sign_has_no_pixels = refl

abbrev two_planes : Pattern
two_planes = record { w = 6; h = 5; planes = 2; bits = 1 ∷ 2 ∷ 0 ∷ 0 ∷ 0 ∷ 0 ∷ 0 ∷ 0 ∷ 9 ∷ [] }

abbrev four_inks : Inks
four_inks = record {
  count = 4;
  paints = black_paint ∷ paints.Ink (record { r = 1; g = 2; b = 3 }) ∷ paints.Video ∷ paints.Ink (record { r = 4; g = 5; b = 6 })
      ∷ replicate 12 black_paint;
}

pattern_is_a_pattern : sign_of (shapes.Drcs two_planes four_inks) ≡ record { kind = 2; set = 0; code = 0; accent = 0 }
pattern_is_a_pattern = refl

pattern_has_its_pixels : pixels_of (shapes.Drcs two_planes four_inks) ≡ record {
  bits = 1 ∷ 2 ∷ 0 ∷ 0 ∷ 0 ∷ 0 ∷ 0 ∷ 0 ∷ 9 ∷ [];
  w = 6;
  h = 5;
  planes = 2;
  inks = 4;
  colours = no_colour ∷ record { red = 1; green = 2; blue = 3; behind = 0 } ∷ record { red = 0; green = 0; blue = 0; behind = 1 }
      ∷ record { red = 4; green = 5; blue = 6; behind = 0 } ∷ replicate 12 no_colour;
}
pattern_has_its_pixels = refl

-- ---- records

-- the lower right quarter of a P in size both, white on what lies behind, in the second fast flash, concealed and boxed
abbrev quarter : Look
quarter = record {
  shape = shapes.Char (record { set = sets.P; code = 0x50; accent = 0 });
  dy = 1;
  dx = 1;
  w = 2;
  h = 2;
  fore = paints.Ink (record { r = 15; g = 15; b = 15 });
  back = paints.Video;
  flash = flashes.Fast2;
  conceal = true;
  lined = false;
  boxed = true;
}

change_is_told : notice_of (Change 376 (record { row = 24; column = 40 }) quarter) ≡ record {
  at = 376;
  kind = 1;
  length = 0;
  reason = 0;
  row = 24;
  column = 40;
  sign = record { kind = 1; set = 0; code = 0x50; accent = 0 };
  dy = 1;
  dx = 1;
  w = 2;
  h = 2;
  fore = record { red = 15; green = 15; blue = 15; behind = 0 };
  back = record { red = 0; green = 0; blue = 0; behind = 1 };
  flash = 5;
  conceal = 1;
  lined = 0;
  boxed = 1;
  pattern = no_pixels;
}
change_is_told = refl

refusal_is_told : notice_of (Refusal 7 2 reasons.UnknownEscape) ≡ record {
  at = 7;
  kind = 2;
  length = 2;
  reason = 2;
  row = 0;
  column = 0;
  sign = record { kind = 0; set = 0; code = 0; accent = 0 };
  dy = 0;
  dx = 0;
  w = 0;
  h = 0;
  fore = no_colour;
  back = no_colour;
  flash = 0;
  conceal = 0;
  lined = 0;
  boxed = 0;
  pattern = no_pixels;
}
unfolding named_reason
refusal_is_told = refl
