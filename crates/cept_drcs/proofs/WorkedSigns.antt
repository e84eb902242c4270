-- Worked cases: bytes of pattern blocks, and where their pixels stand, by computing.
use Rattle.std.proofs.Common.{◌≡◌, ℕ, ◌-◌, Bool, true, false, List, [], ◌∷◌, ◌++◌, map, replicate, refl}
use Rattle.std.specs.List.{range_with_len}
use Rattle.cept_codes.specs.declared.command.Form.{Form}
use Rattle.cept_drcs.specs.Block.{with_byte, all_may_come, block_lines}
use Rattle.cept_drcs.specs.Cut.{blocks}
use Rattle.cept_drcs.specs.Unit.{are_blocks, blocks_number, is_pattern, lines_from, pattern, pattern_grows}

-- a form
abbrev form : ℕ → ℕ → ℕ → Form
form w h planes = record { w = w; h = h; planes = planes }

-- bytes of a block, and its lines: bit x of a line is the pixel of column x
abbrev Row : Type 0
Row = List ℕ × List ℕ

abbrev lines_of : Form → List Row → List (List ℕ)
lines_of f rows = map (λ row. block_lines f row.0) rows

abbrev told : List Row → List (List ℕ)
told rows = map (λ row. row.1) rows

-- ---- pixels: the left one of six stands in the highest bit

abbrev six_pixels : List Row
six_pixels =
    (0x40 ∷ [], 0 ∷ [])
    ∷ (0x60 ∷ [], 1 ∷ [])
    ∷ (0x50 ∷ [], 2 ∷ [])
    ∷ (0x48 ∷ [], 4 ∷ [])
    ∷ (0x44 ∷ [], 8 ∷ [])
    ∷ (0x42 ∷ [], 16 ∷ [])
    ∷ (0x41 ∷ [], 32 ∷ [])
    ∷ (0x7F ∷ [], 63 ∷ [])
    ∷ (0x60 ∷ 0x41 ∷ [], 1 ∷ 32 ∷ [])
    ∷ []

six_pixels_are_lines : lines_of (form 6 5 1) six_pixels ≡ told six_pixels
unfolding with_byte
six_pixels_are_lines = refl

-- a line of 12 takes two bytes, the left half first. A half line alone is completed with pixels of 0
abbrev twelve_pixels : List Row
twelve_pixels =
    (0x40 ∷ 0x40 ∷ [], 0 ∷ [])
    ∷ (0x60 ∷ 0x40 ∷ [], 0x001 ∷ [])
    ∷ (0x50 ∷ 0x40 ∷ [], 0x002 ∷ [])
    ∷ (0x48 ∷ 0x40 ∷ [], 0x004 ∷ [])
    ∷ (0x44 ∷ 0x40 ∷ [], 0x008 ∷ [])
    ∷ (0x42 ∷ 0x40 ∷ [], 0x010 ∷ [])
    ∷ (0x41 ∷ 0x40 ∷ [], 0x020 ∷ [])
    ∷ (0x40 ∷ 0x60 ∷ [], 0x040 ∷ [])
    ∷ (0x40 ∷ 0x50 ∷ [], 0x080 ∷ [])
    ∷ (0x40 ∷ 0x48 ∷ [], 0x100 ∷ [])
    ∷ (0x40 ∷ 0x44 ∷ [], 0x200 ∷ [])
    ∷ (0x40 ∷ 0x42 ∷ [], 0x400 ∷ [])
    ∷ (0x40 ∷ 0x41 ∷ [], 0x800 ∷ [])
    ∷ (0x7F ∷ 0x40 ∷ [], 0x03F ∷ [])
    ∷ (0x40 ∷ 0x7F ∷ [], 0xFC0 ∷ [])
    ∷ (0x41 ∷ [], 0x020 ∷ [])
    ∷ (0x60 ∷ 0x40 ∷ 0x41 ∷ [], 0x001 ∷ 0x020 ∷ [])
    ∷ []

twelve_pixels_are_lines : lines_of (form 12 10 1) twelve_pixels ≡ told twelve_pixels
unfolding with_byte
twelve_pixels_are_lines = refl

-- ---- signs of lines, 2/0 to 2/15 without 2/11

-- after a line of the first pixel alone, with eleven lines left
abbrev signs : List Row
signs =
    (0x60 ∷ 0x20 ∷ [], 1 ∷ replicate 11 0)
    ∷ (0x60 ∷ 0x21 ∷ [], replicate 2 1)
    ∷ (0x60 ∷ 0x22 ∷ [], replicate 3 1)
    ∷ (0x60 ∷ 0x23 ∷ [], replicate 4 1)
    ∷ (0x60 ∷ 0x24 ∷ [], replicate 5 1)
    ∷ (0x60 ∷ 0x25 ∷ [], replicate 6 1)
    ∷ (0x60 ∷ 0x26 ∷ [], replicate 7 1)
    ∷ (0x60 ∷ 0x27 ∷ [], replicate 8 1)
    ∷ (0x60 ∷ 0x28 ∷ [], replicate 9 1)
    ∷ (0x60 ∷ 0x29 ∷ [], replicate 10 1)
    ∷ (0x60 ∷ 0x2A ∷ [], replicate 11 1)
    ∷ (0x60 ∷ 0x2C ∷ [], 1 ∷ 0 ∷ [])
    ∷ (0x60 ∷ 0x2D ∷ [], 1 ∷ 63 ∷ [])
    ∷ (0x60 ∷ 0x2E ∷ [], replicate 12 1)
    ∷ (0x60 ∷ 0x2F ∷ [], 1 ∷ replicate 11 63)
    ∷ []

signs_add_lines : lines_of (form 6 12 1) signs ≡ told signs
unfolding with_byte
signs_add_lines = refl

-- the same after a half line, which each of them completes with pixels of 0
abbrev signs_after_half_lines : List Row
signs_after_half_lines =
    (0x60 ∷ 0x20 ∷ [], 1 ∷ replicate 11 0)
    ∷ (0x60 ∷ 0x21 ∷ [], replicate 2 1)
    ∷ (0x60 ∷ 0x2A ∷ [], replicate 11 1)
    ∷ (0x60 ∷ 0x2C ∷ [], 1 ∷ 0 ∷ [])
    ∷ (0x60 ∷ 0x2D ∷ [], 1 ∷ 0xFFF ∷ [])
    ∷ (0x60 ∷ 0x2E ∷ [], replicate 12 1)
    ∷ (0x60 ∷ 0x2F ∷ [], 1 ∷ replicate 11 0xFFF)
    ∷ []

half_lines_are_completed : lines_of (form 12 12 1) signs_after_half_lines ≡ told signs_after_half_lines
unfolding with_byte
half_lines_are_completed = refl

-- the line before is that of the sign before, and a line of 0 at the start of a block
abbrev lines_before : List Row
lines_before =
    (0x21 ∷ [], 0 ∷ [])
    ∷ (0x2E ∷ [], replicate 5 0)
    ∷ (0x2D ∷ 0x21 ∷ [], 63 ∷ 63 ∷ [])
    ∷ (0x2D ∷ 0x2C ∷ 0x22 ∷ [], 63 ∷ 0 ∷ 0 ∷ 0 ∷ [])
    ∷ (0x60 ∷ 0x21 ∷ 0x50 ∷ 0x2E ∷ [], 1 ∷ 1 ∷ 2 ∷ 2 ∷ 2 ∷ [])
    ∷ []

lines_before_are_copied : lines_of (form 6 5 1) lines_before ≡ told lines_before
unfolding with_byte
lines_before_are_copied = refl

-- lines past the height are dropped, in each of the six sizes
heights : map (λ f. block_lines f (0x2D ∷ 0x2A ∷ []))
    (form 12 12 1 ∷ form 12 10 1 ∷ form 6 12 1 ∷ form 6 10 1 ∷ form 6 5 1 ∷ form 6 6 1 ∷ [])
    ≡ replicate 11 0xFFF ∷ replicate 10 0xFFF ∷ replicate 11 63 ∷ replicate 10 63 ∷ replicate 5 63 ∷ replicate 6 63 ∷ []
unfolding with_byte
heights = refl

full_blocks : map (λ f. block_lines f (0x2F ∷ []))
    (form 12 12 1 ∷ form 12 10 1 ∷ form 6 12 1 ∷ form 6 10 1 ∷ form 6 5 1 ∷ form 6 6 1 ∷ [])
    ≡ replicate 12 0xFFF ∷ replicate 10 0xFFF ∷ replicate 12 63 ∷ replicate 10 63 ∷ replicate 5 63 ∷ replicate 6 63 ∷ []
unfolding with_byte
full_blocks = refl

-- ---- which bytes a block takes

-- each plain byte after these: it belongs to a pattern, or not
abbrev taken_after : Form → List ℕ → List Bool
taken_after f u = map (λ byte. is_pattern f (u ++ byte ∷ [])) (range_with_len 0x20 96)

-- 2/0 to 2/10 and 2/12 to 2/15 are signs of lines, 3/0 to 3/15 end it, 4/0 to 7/15 are pixels
abbrev by_columns : List Bool → List Bool
by_columns column_3 = replicate 11 true ++ false ∷ replicate 4 true ++ column_3 ++ replicate 64 true

first_bytes : taken_after (form 6 5 1) (0x30 ∷ []) ≡ by_columns (replicate 16 false)
unfolding with_byte all_may_come are_blocks blocks is_pattern
first_bytes = refl

bytes_after_a_half_line : taken_after (form 12 10 1) (0x30 ∷ 0x60 ∷ []) ≡ by_columns (replicate 16 false)
unfolding with_byte all_may_come are_blocks blocks is_pattern
bytes_after_a_half_line = refl

bytes_of_the_last_line : taken_after (form 6 5 1) (0x30 ∷ 0x24 ∷ []) ≡ by_columns (replicate 16 false)
unfolding with_byte all_may_come are_blocks blocks is_pattern
bytes_of_the_last_line = refl

bytes_after_the_last_line : taken_after (form 6 5 1) (0x30 ∷ 0x25 ∷ []) ≡ replicate 96 false
unfolding with_byte all_may_come are_blocks blocks is_pattern
bytes_after_the_last_line = refl

-- of four planes, 31 to 33 open one after plane 0, and only 33 does after plane 2
openers_after_plane_0 : taken_after (form 6 5 4) (0x30 ∷ [])
    ≡ by_columns (false ∷ true ∷ true ∷ true ∷ replicate 12 false)
unfolding with_byte all_may_come are_blocks blocks is_pattern
openers_after_plane_0 = refl

openers_after_plane_2 : taken_after (form 6 5 4) (0x30 ∷ 0x32 ∷ [])
    ≡ by_columns (false ∷ false ∷ false ∷ true ∷ replicate 12 false)
unfolding with_byte all_may_come are_blocks blocks is_pattern
openers_after_plane_2 = refl

openers_of_two_planes : taken_after (form 6 5 2) (0x30 ∷ [])
    ≡ by_columns (false ∷ true ∷ replicate 14 false)
unfolding with_byte all_may_come are_blocks blocks is_pattern
openers_of_two_planes = refl

-- the first opener is 30
first_openers : map (λ byte. is_pattern (form 6 5 4) (byte ∷ [])) (range_with_len 0x20 96)
    ≡ replicate 16 false ++ true ∷ replicate 79 false
unfolding with_byte all_may_come are_blocks blocks is_pattern
first_openers = refl

-- a byte fits after a pattern that lacks a line or a plane, and after no other
growing : map (λ u. pattern_grows (form 6 5 2) u)
    ((0x30 ∷ []) ∷ (0x30 ∷ 0x24 ∷ []) ∷ (0x30 ∷ 0x25 ∷ []) ∷ (0x30 ∷ 0x25 ∷ 0x31 ∷ []) ∷ (0x30 ∷ 0x31 ∷ 0x24 ∷ [])
    ∷ (0x30 ∷ 0x31 ∷ 0x25 ∷ []) ∷ (0x30 ∷ 0x25 ∷ 0x31 ∷ 0x25 ∷ []) ∷ [])
    ≡ true ∷ true ∷ true ∷ true ∷ true ∷ false ∷ false ∷ []
unfolding with_byte all_may_come are_blocks blocks is_pattern pattern_grows
growing = refl

-- ---- where pixels stand: that of plane p, line y and column x is bit number (p * h + y) * w + x

-- the bits of a pattern: so many words of 0, one word, and words of 0
abbrev word : ℕ → ℕ → List ℕ
word k n = replicate k 0 ++ n ∷ replicate (8 - k) 0

abbrev bits : Form → List ℕ → List ℕ
bits f u = (pattern f u).bits

-- the second pixel of the second line
second_pixel_of_the_second_line : map (λ f. bits f (0x30 ∷ 0x2C ∷ 0x50 ∷ []))
    (form 12 12 1 ∷ form 12 10 1 ∷ form 6 12 1 ∷ form 6 10 1 ∷ form 6 5 1 ∷ form 6 6 1 ∷ [])
    ≡ word 0 0x2000 ∷ word 0 0x2000 ∷ word 0 0x80 ∷ word 0 0x80 ∷ word 0 0x80 ∷ word 0 0x80 ∷ []
unfolding with_byte blocks_number blocks lines_from
second_pixel_of_the_second_line = refl

-- the last pixel of the last line of the only plane, of plane 1 of two, and of plane 3 of four
abbrev last_pixel : ℕ → ℕ → List ℕ → List (List ℕ)
last_pixel w h line =
    bits (form w h 1) (0x30 ∷ replicate (h - 1) 0x2C ++ line)
    ∷ bits (form w h 2) (0x30 ∷ 0x31 ∷ replicate (h - 1) 0x2C ++ line)
    ∷ bits (form w h 4) (0x30 ∷ 0x33 ∷ replicate (h - 1) 0x2C ++ line)
    ∷ []

-- bits 143, 287 and 575
last_pixel_of_12_by_12 : last_pixel 12 12 (0x40 ∷ 0x41 ∷ [])
    ≡ word 2 0x8000 ∷ word 4 0x80000000 ∷ word 8 0x8000000000000000 ∷ []
unfolding with_byte blocks_number blocks lines_from
last_pixel_of_12_by_12 = refl

-- bits 119, 239 and 479
last_pixel_of_12_by_10 : last_pixel 12 10 (0x40 ∷ 0x41 ∷ [])
    ≡ word 1 0x80000000000000 ∷ word 3 0x800000000000 ∷ word 7 0x80000000 ∷ []
unfolding with_byte blocks_number blocks lines_from
last_pixel_of_12_by_10 = refl

-- bits 71, 143 and 287
last_pixel_of_6_by_12 : last_pixel 6 12 (0x41 ∷ []) ≡ word 1 0x80 ∷ word 2 0x8000 ∷ word 4 0x80000000 ∷ []
unfolding with_byte blocks_number blocks lines_from
last_pixel_of_6_by_12 = refl

-- bits 59, 119 and 239
last_pixel_of_6_by_10 : last_pixel 6 10 (0x41 ∷ [])
    ≡ word 0 0x800000000000000 ∷ word 1 0x80000000000000 ∷ word 3 0x800000000000 ∷ []
unfolding with_byte blocks_number blocks lines_from
last_pixel_of_6_by_10 = refl

-- bits 29, 59 and 119
last_pixel_of_6_by_5 : last_pixel 6 5 (0x41 ∷ [])
    ≡ word 0 0x20000000 ∷ word 0 0x800000000000000 ∷ word 1 0x80000000000000 ∷ []
unfolding with_byte blocks_number blocks lines_from
last_pixel_of_6_by_5 = refl

-- bits 35, 71 and 143
last_pixel_of_6_by_6 : last_pixel 6 6 (0x41 ∷ []) ≡ word 0 0x800000000 ∷ word 1 0x80 ∷ word 2 0x8000 ∷ []
unfolding with_byte blocks_number blocks lines_from
last_pixel_of_6_by_6 = refl

-- the first pixels of planes 0 to 3 of 12x12: bits 0, 144, 288 and 432
first_pixels_of_planes : bits (form 12 12 4) (0x30 ∷ 0x60 ∷ 0x31 ∷ 0x60 ∷ 0x32 ∷ 0x60 ∷ 0x33 ∷ 0x60 ∷ [])
    ≡ 1 ∷ 0 ∷ 0x10000 ∷ 0 ∷ 0x100000000 ∷ 0 ∷ 0x1000000000000 ∷ 0 ∷ 0 ∷ []
unfolding with_byte blocks_number blocks lines_from
first_pixels_of_planes = refl
