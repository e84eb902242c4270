-- Worked tables: which sign each look shows, and the rows of a screen, by computing.
use Rattle.std.proofs.Common.{◌≡◌, ℕ, List, [], ◌∷◌, ◌++◌, codes, map, replicate, true, refl}
use Rattle.std.specs.Prelude.{◌==◌, if◌then◌else◌}
use Rattle.std.specs.Char.{encode_utf8}
use Rattle.std.specs.Fmt.{digits}
use Rattle.cept_codes.specs.declared.attribute.Flash.TheVariants.{Inverted}
use Rattle.cept_codes.specs.declared.glyph.SetId.{SetId}
use Rattle.cept_codes.specs.declared.glyph.SetId.TheVariants.{D, M, N, P, S}
use Rattle.cept_codes.specs.declared.look.Look.{Look}
use Rattle.cept_codes.specs.declared.look.Shape.TheVariants.{Char, Drcs}
use Rattle.cept_codes.specs.Look.{black_paint, blank_look}
use Rattle.cept_codes.specs.Table.{row_of, table}
use Rattle.cept_charsets.specs.Rendition.{mark, supplementary_rows}
use Rattle.cept_report.specs.Screen.{cell_text, cells_text, look_sign, row_line, screen_text, shape_sign}
use Rattle.cept_report.specs.Text.{shape_text}

-- a sign of this set and code, in a single cell
abbrev sign : SetId → ℕ → Look
sign set code = record blank_look { shape = Char (record { set = set; code = code; accent = 0 }) }

abbrev letter : Look
letter = sign P 0x41

-- a space; the ASCII sign, and the black square U+25A0; the sign of the supplementary set, and U+FFFD where it has
-- none; the medium shade U+2592 for mosaics; the white square U+25A1 for the downloaded set and for a pattern
each_shape : map look_sign (
    blank_look ∷ letter ∷ sign P 0x7F ∷ sign S 0x21 ∷ sign S 0x56 ∷ sign M 0x21 ∷ sign N 0x7F ∷ sign D 0x21
    ∷ record blank_look {
      shape = Drcs (record { w = 6; h = 5; planes = 1; bits = 1 ∷ replicate 8 0 })
          (record { count = 0; paints = replicate 16 black_paint });
    } ∷ []) ≡
    codes " " ∷ codes "A" ∷ (0xE2 ∷ 0x96 ∷ 0xA0 ∷ []) ∷ (0xC2 ∷ 0xA1 ∷ []) ∷ (0xEF ∷ 0xBF ∷ 0xBD ∷ [])
    ∷ (0xE2 ∷ 0x96 ∷ 0x92 ∷ []) ∷ (0xE2 ∷ 0x96 ∷ 0x92 ∷ []) ∷ (0xE2 ∷ 0x96 ∷ 0xA1 ∷ [])
    ∷ (0xE2 ∷ 0x96 ∷ 0xA1 ∷ []) ∷ []
unfolding look_sign shape_sign mark supplementary_rows encode_utf8
each_shape = refl

-- a space where it is concealed, or further down or right in its sign; the first cell of a large sign shows it, and so
-- does one that flashes, is lined and boxed
hidden : map look_sign (
    record letter { conceal = true } ∷ record letter { h = 2; dy = 1 } ∷ record letter { w = 2; dx = 1 }
    ∷ record letter { w = 2; h = 2; dy = 1; dx = 1 } ∷ record letter { w = 2; h = 2 }
    ∷ record letter { flash = Inverted; lined = true; boxed = true } ∷ []) ≡
    codes " " ∷ codes " " ∷ codes " " ∷ codes " " ∷ codes "A" ∷ codes "A" ∷ []
unfolding look_sign shape_sign mark encode_utf8
hidden = refl

-- ---- rows

-- letters at the ends of rows 1, 20, 21 and 24
abbrev grid : List (List Look)
grid = table (λ r c.
    if r == 1 then (if c == 1 then sign P 0x41 else if c == 40 then sign P 0x42 else blank_look) else
    if r == 20 then (if c == 1 then sign P 0x43 else if c == 40 then sign P 0x44 else blank_look) else
    if r == 21 then (if c == 1 then sign P 0x45 else if c == 40 then sign P 0x46 else blank_look) else
    if r == 24 then (if c == 1 then sign P 0x47 else if c == 40 then sign P 0x48 else blank_look) else
    blank_look)

-- forty signs between these, and a line feed
abbrev line : List ℕ → List ℕ → List ℕ
line first last = first ++ replicate 38 0x20 ++ last ++ codes "\n"

abbrev empty : List ℕ
empty = replicate 40 0x20 ++ codes "\n"

abbrev upper : List ℕ
upper = line (codes "A") (codes "B") ++ empty ++ empty ++ empty ++ empty ++ empty ++ empty ++ empty ++ empty ++ empty
    ++ empty ++ empty ++ empty ++ empty ++ empty ++ empty ++ empty ++ empty ++ empty ++ line (codes "C") (codes "D")

-- twenty rows, and twenty-four
twenty_rows : screen_text grid 20 ≡ upper
unfolding screen_text row_line look_sign shape_sign mark encode_utf8 table row_of
twenty_rows = refl

all_rows : screen_text grid 24
    ≡ upper ++ line (codes "E") (codes "F") ++ empty ++ empty ++ line (codes "G") (codes "H")
unfolding screen_text row_line look_sign shape_sign mark encode_utf8 table row_of
all_rows = refl

-- the cells of the same rows, in reading order
cells_of_twenty_rows : cells_text grid 20
    ≡ codes "1 1 P41 11.00 FFF 000 S---\n" ++ codes "1 40 P42 11.00 FFF 000 S---\n"
    ++ codes "20 1 P43 11.00 FFF 000 S---\n" ++ codes "20 40 P44 11.00 FFF 000 S---\n"
unfolding cells_text cell_text shape_text digits table row_of
cells_of_twenty_rows = refl

cells_of_all_rows : cells_text grid 24
    ≡ codes "1 1 P41 11.00 FFF 000 S---\n" ++ codes "1 40 P42 11.00 FFF 000 S---\n"
    ++ codes "20 1 P43 11.00 FFF 000 S---\n" ++ codes "20 40 P44 11.00 FFF 000 S---\n"
    ++ codes "21 1 P45 11.00 FFF 000 S---\n" ++ codes "21 40 P46 11.00 FFF 000 S---\n"
    ++ codes "24 1 P47 11.00 FFF 000 S---\n" ++ codes "24 40 P48 11.00 FFF 000 S---\n"
unfolding cells_text cell_text shape_text digits table row_of
cells_of_all_rows = refl
