-- Worked tables: the range of each number of a script, of the signs of a text and of hexadecimal digits, by computing.
use Rattle.std.proofs.Common.{◌≡◌, ℕ, ◌+◌, ◌-◌, List, [], ◌∷◌, ◌++◌, codes, map, Some, Ok, refl}
use Rattle.std.specs.Prelude.{decimal, filter, is_ok, is_some}
use Rattle.std.specs.Fmt.{digits}
use Rattle.std.specs.List.{range_with_len}
use Rattle.cept_codes.specs.declared.command.Command.{Command}
use Rattle.cept_codes.specs.declared.command.Command.TheVariants as commands
use Rattle.cept_editor.specs.Meaning.{Edit, hex_bytes, line_meaning}
use Rattle.cept_editor.specs.Table.{row_of}

-- ---- numbers

-- the numbers from 0 to 99 that may stand between these words
abbrev read_between : List ℕ → List ℕ → List ℕ
read_between before after = filter (λ n. is_ok (line_meaning (before ++ decimal n ++ after))) (range_with_len 0 100)

-- what stands before a number and after it, each with the numbers that may stand there
abbrev range : List (List ℕ × List ℕ × List ℕ) → Type 0
range places =
    map (λ (p : List ℕ × List ℕ × List ℕ). read_between p.0 p.1) places
    ≡ map (λ (p : List ℕ × List ℕ × List ℕ). p.2) places

-- all numbers from the first to the last
abbrev from_to : ℕ → ℕ → List ℕ
from_to first last = range_with_len first (last + 1 - first)

-- codes of the C1 set, of a row and of the screen: none is 27, and none of a screen is a size
codes_of_attributes : range (
    (codes "c1 ", [], from_to 0 26 ++ from_to 28 31)
    ∷ (codes "row ", [], from_to 0 26 ++ from_to 28 31)
    ∷ (codes "screen ", [], from_to 0 11 ++ from_to 16 26 ++ from_to 28 31) ∷ [])
unfolding line_meaning row_of digits
codes_of_attributes = refl

-- a number alone
single_numbers : range (
    (codes "table ", [], from_to 0 3)
    ∷ (codes "repeat ", [], from_to 0 63)
    ∷ (codes "revision ", [], from_to 1 2) ∷ [])
unfolding line_meaning row_of digits
single_numbers = refl

-- rows and columns
places : range (
    (codes "at ", codes " 1", from_to 1 24)
    ∷ (codes "at ", codes " 40", from_to 1 24)
    ∷ (codes "at 1 ", [], from_to 1 40)
    ∷ (codes "at 24 ", [], from_to 1 40) ∷ [])
unfolding line_meaning row_of digits
places = refl

-- the first row of an area is its last at most
areas : range (
    (codes "area ", codes " 24", from_to 1 24)
    ∷ (codes "area 1 ", [], from_to 1 24)
    ∷ (codes "area ", codes " 3", from_to 1 3)
    ∷ (codes "area 3 ", [], from_to 3 24)
    ∷ (codes "area 24 ", [], from_to 24 24)
    ∷ (codes "noarea ", codes " 24", from_to 1 24)
    ∷ (codes "noarea 1 ", [], from_to 1 24)
    ∷ (codes "noarea ", codes " 3", from_to 1 3)
    ∷ (codes "noarea 3 ", [], from_to 3 24)
    ∷ (codes "noarea 24 ", [], from_to 24 24) ∷ [])
unfolding line_meaning row_of digits
areas = refl

-- an entry, and its red, green and blue
colours : range (
    (codes "colour ", codes " 15 15 15", from_to 0 31)
    ∷ (codes "colour 31 ", codes " 15 15", from_to 0 15)
    ∷ (codes "colour 31 15 ", codes " 15", from_to 0 15)
    ∷ (codes "colour 31 15 15 ", [], from_to 0 15) ∷ [])
unfolding line_meaning row_of digits
colours = refl

-- ---- what the numbers mean

-- lines, each with its command
abbrev mean : List (List ℕ × Command) → Type 0
mean cases =
    map (λ (c : List ℕ × Command). line_meaning c.0) cases
    ≡ map (λ (c : List ℕ × Command). Ok (Some (Edit (c.1 ∷ [])))) cases

-- the first and the last of each range, and numbers in their order
edges : mean (
    (codes "at 1 1", commands.Position 1 1) ∷ (codes "at 24 40", commands.Position 24 40)
    ∷ (codes "at 02 3", commands.Position 2 3)
    ∷ (codes "c1 0", commands.C1 0) ∷ (codes "c1 31", commands.C1 31)
    ∷ (codes "row 0", commands.FullRow 0) ∷ (codes "row 31", commands.FullRow 31)
    ∷ (codes "screen 0", commands.FullScreen 0) ∷ (codes "screen 31", commands.FullScreen 31)
    ∷ (codes "table 0", commands.Table 0) ∷ (codes "table 3", commands.Table 3)
    ∷ (codes "colour 0 0 0 0", commands.Entry 0 (record { r = 0; g = 0; b = 0 }))
    ∷ (codes "colour 31 15 15 15", commands.Entry 31 (record { r = 15; g = 15; b = 15 }))
    ∷ (codes "colour 4 3 2 1", commands.Entry 4 (record { r = 3; g = 2; b = 1 }))
    ∷ (codes "repeat 0", commands.Repeat 0) ∷ (codes "repeat 63", commands.Repeat 63)
    ∷ (codes "area 1 24", commands.AreaCreate 1 24) ∷ (codes "area 24 24", commands.AreaCreate 24 24)
    ∷ (codes "noarea 1 24", commands.AreaDelete 1 24) ∷ (codes "noarea 24 24", commands.AreaDelete 24 24)
    ∷ (codes "revision 1", commands.Revision 1) ∷ (codes "revision 2", commands.Revision 2) ∷ [])
unfolding line_meaning row_of
edges = refl

-- ---- signs of a text

-- the bytes that may stand there
abbrev read_after : List ℕ → List ℕ
read_after before = filter (λ a. is_ok (line_meaning (before ++ a ∷ []))) (range_with_len 0 256)

-- 2/0 to 7/14, as the first sign and after one
signs : map read_after (codes "text " ∷ codes "text A" ∷ []) ≡ from_to 0x20 0x7E ∷ from_to 0x20 0x7E ∷ []
unfolding line_meaning row_of
signs = refl

-- all that stands after the word and one space, and G0 is locked before it
spaces_of_a_text : line_meaning (codes "text  a  ~ ") ≡ Ok (Some (Edit (commands.LockLeft 0
    ∷ map (λ a. commands.Graphic a) (0x20 ∷ 0x61 ∷ 0x20 ∷ 0x20 ∷ 0x7E ∷ 0x20 ∷ []))))
unfolding line_meaning row_of
spaces_of_a_text = refl

-- ---- hexadecimal digits

-- each digit as the high one and as the low one, in either case
all_digits : hex_bytes (codes "0123456789abcdefABCDEF" ++ codes "1032547698badcfeBADCFE")
    ≡ Some (0x01 ∷ 0x23 ∷ 0x45 ∷ 0x67 ∷ 0x89 ∷ 0xAB ∷ 0xCD ∷ 0xEF ∷ 0xAB ∷ 0xCD ∷ 0xEF
    ∷ 0x10 ∷ 0x32 ∷ 0x54 ∷ 0x76 ∷ 0x98 ∷ 0xBA ∷ 0xDC ∷ 0xFE ∷ 0xBA ∷ 0xDC ∷ 0xFE ∷ [])
unfolding hex_bytes
all_digits = refl

-- no other byte is one
no_more_digits : filter (λ a. is_some (hex_bytes (a ∷ 0x30 ∷ []))) (range_with_len 0 256)
    ≡ from_to 0x30 0x39 ++ from_to 0x41 0x46 ++ from_to 0x61 0x66
unfolding hex_bytes
no_more_digits = refl

no_more_low_digits : filter (λ a. is_some (hex_bytes (0x30 ∷ a ∷ []))) (range_with_len 0 256)
    ≡ from_to 0x30 0x39 ++ from_to 0x41 0x46 ++ from_to 0x61 0x66
unfolding hex_bytes
no_more_low_digits = refl
