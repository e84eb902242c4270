-- Valid colours, patterns and looks: four bits each of red, green and blue (ETS 300 072, colour tables). The sizes of
-- patterns, the order of their bits, parts and looks are this profile's own.
use Rattle.std.specs.Prelude.{ℕ, ◌≡◌, ◌≤◌, ◌<◌, ◌*◌, ◌+◌, ◌/◌, ◌%◌, ◌^◌, Bool, false, List, drop, length, slice_index}
use Rattle.std.specs.Prelude.{IsTrue, ◌==◌, ◌&&◌, ◌||◌, if◌then◌else◌}
use Rattle.std.specs.List.{AllByRecursion}
use Rattle.cept_codes.specs.declared.look.Rgb.{Rgb}
use Rattle.cept_codes.specs.declared.look.Paint.{Paint}
use Rattle.cept_codes.specs.declared.look.Paint.TheVariants as paints
use Rattle.cept_codes.specs.declared.look.Pattern.{Pattern}
use Rattle.cept_codes.specs.declared.look.Inks.{Inks}
use Rattle.cept_codes.specs.declared.look.Shape.{Shape}
use Rattle.cept_codes.specs.declared.look.Shape.TheVariants as shapes
use Rattle.cept_codes.specs.declared.look.Part.{Part}
use Rattle.cept_codes.specs.declared.look.Look.{Look}
use Rattle.cept_codes.specs.declared.attribute.Flash.TheVariants as flashes
use Rattle.cept_codes.specs.Glyph.{IsValidGlyph}

-- each part is of four bits
pub record IsValidRgb (c : Rgb) : Type 0 where
  pub r : c.r ≤ 15
  pub g : c.g ≤ 15
  pub b : c.b ≤ 15

-- what lies behind the screen is always valid
abbrev pub IsValidPaint : Paint → Type 0
IsValidPaint (paints.Ink c) = IsValidRgb c
IsValidPaint paints.Video = Unit {0}

-- the six sizes of a pattern, width by height
abbrev pub is_pattern_size : ℕ → ℕ → Bool
is_pattern_size w h = ((w == 12) && (h == 12)) || ((w == 12) && (h == 10)) || ((w == 6) && (h == 12))
    || ((w == 6) && (h == 10)) || ((w == 6) && (h == 5)) || ((w == 6) && (h == 6))

-- a pattern has one, two or four planes
abbrev pub is_plane_count : ℕ → Bool
is_plane_count n = (n == 1) || (n == 2) || (n == 4)

-- the bit of this number in a row of words of 64 bits, the lowest bit of a word first
abbrev pub bit_of : List ℕ → ℕ → ℕ
bit_of words n = (slice_index words (n / 64) / 2 ^ (n % 64)) % 2

-- the pixel of plane p, line y and column x
abbrev pub pixel : Pattern → ℕ → ℕ → ℕ → ℕ
pixel pattern p y x = bit_of pattern.bits ((p * pattern.h + y) * pattern.w + x)

-- one of the sizes, one of the counts of planes, nine words of 64 bits, and no bit set after the last pixel
pub record IsValidPattern (p : Pattern) : Type 0 where
  pub size : IsTrue (is_pattern_size p.w p.h)
  pub planes : IsTrue (is_plane_count p.planes)
  pub words : length p.bits ≡ 9
  pub fits : (k : ℕ) → slice_index p.bits k < 2 ^ 64
  pub clear : (n : ℕ) → p.w * p.h * p.planes ≤ n → bit_of p.bits n ≡ 0

-- how many inks stand beside a pattern of so many planes
abbrev pub ink_count : ℕ → ℕ
ink_count planes = if planes == 1 then 0 else if planes == 2 then 4 else 16

-- no red, no green and no blue, which also fills the unused inks
abbrev pub black_paint : Paint
black_paint = paints.Ink (record { r = 0; g = 0; b = 0 })

-- all of red, green and blue
abbrev pub white_paint : Paint
white_paint = paints.Ink (record { r = 15; g = 15; b = 15 })

-- sixteen valid inks beside a pattern of so many planes, those after the count black
pub record IsValidInks (inks : Inks) (planes : ℕ) : Type 0 where
  pub count : inks.count ≡ ink_count planes
  pub places : length inks.paints ≡ 16
  pub paints : AllByRecursion IsValidPaint inks.paints
  pub unused : AllByRecursion (λ paint. paint ≡ black_paint) (drop inks.count inks.paints)

-- a pattern stands with the inks of its planes
abbrev pub IsValidShape : Shape → Type 0
IsValidShape shapes.Space = Unit {0}
IsValidShape (shapes.Char g) = IsValidGlyph g
IsValidShape (shapes.Drcs pattern inks) = IsValidPattern pattern × IsValidInks inks pattern.planes

-- which quarter, half or whole of a shape is shown: so far down and right, of one so wide and high
pub record IsPart (dy dx w h : ℕ) : Type 0 where
  pub down : dy ≤ 1
  pub right : dx ≤ 1
  pub wide : (1 ≤ w) × (w ≤ 2)
  pub high : (1 ≤ h) × (h ≤ 2)

-- the same of a part by itself
abbrev pub IsValidPart : Part → Type 0
IsValidPart p = IsPart p.dy p.dx p.w p.h

-- a valid shape, a part of it, and two valid paints
pub record IsValidLook (l : Look) : Type 0 where
  pub shape : IsValidShape l.shape
  pub part : IsPart l.dy l.dx l.w l.h
  pub fore : IsValidPaint l.fore
  pub back : IsValidPaint l.back

-- a space, white on black, steady, with no attribute
abbrev pub blank_look : Look
blank_look = record {
  shape = shapes.Space;
  dy = 0;
  dx = 0;
  w = 1;
  h = 1;
  fore = white_paint;
  back = black_paint;
  flash = flashes.Steady;
  conceal = false;
  lined = false;
  boxed = false;
}
