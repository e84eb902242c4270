-- Worked cases: every row of the tables of signs and marks, by computing. The signs are those of the profile's page.
use Rattle.std.specs.Prelude.{codes}
use Rattle.std.proofs.Common.{◌≡◌, ℕ, List, [], ◌∷◌, ◌++◌, map, Option, Some, None, replicate, refl}
use Rattle.std.specs.Char.{encode_utf8}
use Rattle.std.specs.List.{flat_map, range_with_len}
use Rattle.cept_codes.specs.declared.glyph.SetId.{SetId}
use Rattle.cept_codes.specs.declared.glyph.SetId.TheVariants.{P, S, M, N, D}
use Rattle.cept_charsets.specs.Rendition.{mark, points_of, rendition, supplementary_rows}

-- ---- signs without an accent

-- the signs of so many codes of a set, from this one on
abbrev signs : SetId → ℕ → ℕ → List ℕ
signs set first n = flat_map (λ code. points_of set code 0) (range_with_len first n)

-- P 2/0 to 7/14 is ASCII
primary_signs : signs P 0x20 32 ++ signs P 0x40 32 ++ signs P 0x60 31
    ≡ codes " !\"#$%&'()*+,-./0123456789:;<=>?" ++ codes "@ABCDEFGHIJKLMNOPQRSTUVWXYZ[\\]^_"
    ++ codes "`abcdefghijklmnopqrstuvwxyz{|}~"
unfolding mark
primary_signs = refl

primary_block : signs P 0x7F 1 ≡ codes "■"
primary_block = refl

supplementary_signs_2 : signs S 0x21 15 ≡ codes "¡¢£$¥#§¤‘“«←↑→↓"
unfolding supplementary_rows
supplementary_signs_2 = refl

supplementary_signs_3 : signs S 0x30 16 ≡ codes "°±²³×µ¶·÷’”»¼½¾¿"
unfolding supplementary_rows
supplementary_signs_3 = refl

supplementary_signs_5 : signs S 0x50 16 ≡ codes "―¹®©™♪" ++ replicate 10 0xFFFD
unfolding supplementary_rows
supplementary_signs_5 = refl

supplementary_signs_6 : signs S 0x60 16 ≡ codes "ΩÆĐªĦ" ++ (0xFFFD ∷ []) ++ codes "ĲĿŁØŒºÞŦŊŉ"
unfolding supplementary_rows
supplementary_signs_6 = refl

supplementary_signs_7 : signs S 0x70 16 ≡ codes "ĸæđðħıĳŀłøœßþŧŋ" ++ (0xFFFD ∷ [])
unfolding supplementary_rows
supplementary_signs_7 = refl

-- each mosaic and each downloaded sign looks the same
first_mosaics : (code accent : ℕ) → points_of M code accent ≡ codes "▒"
first_mosaics code accent = refl

second_mosaics : (code accent : ℕ) → points_of N code accent ≡ codes "▒"
second_mosaics code accent = refl

downloaded_signs : (code accent : ℕ) → points_of D code accent ≡ codes "□"
downloaded_signs code accent = refl

-- ---- marks of accents

-- accents and what each adds. None stands before 4/0
abbrev accents : List (ℕ × Option ℕ)
accents =
    (0, None)
    ∷ (0x40, None)
    ∷ (0x41, Some 0x0300)  -- grave
    ∷ (0x42, Some 0x0301)  -- acute
    ∷ (0x43, Some 0x0302)  -- circumflex
    ∷ (0x44, Some 0x0303)  -- tilde
    ∷ (0x45, Some 0x0304)  -- macron
    ∷ (0x46, Some 0x0306)  -- breve
    ∷ (0x47, Some 0x0307)  -- dot above
    ∷ (0x48, Some 0x0308)  -- diaeresis
    ∷ (0x49, None)
    ∷ (0x4A, Some 0x030A)  -- ring
    ∷ (0x4B, Some 0x0327)  -- cedilla
    ∷ (0x4C, None)
    ∷ (0x4D, Some 0x030B)  -- double acute
    ∷ (0x4E, Some 0x0328)  -- ogonek
    ∷ (0x4F, Some 0x030C)  -- caron
    ∷ []

marks : map (λ row. mark row.0) accents ≡ map (λ row. row.1) accents
unfolding mark
marks = refl

-- the mark stands after its sign, also after a space; 7/15 has none, nor has a sign of S
marked_letter : points_of P 0x61 0x48 ≡ 0x61 ∷ 0x0308 ∷ []
unfolding mark
marked_letter = refl

marked_space : points_of P 0x20 0x4B ≡ 0x20 ∷ 0x0327 ∷ []
unfolding mark
marked_space = refl

last_marked_sign : points_of P 0x7E 0x41 ≡ 0x7E ∷ 0x0300 ∷ []
unfolding mark
last_marked_sign = refl

letter_without_a_mark : points_of P 0x61 0x49 ≡ 0x61 ∷ []
unfolding mark
letter_without_a_mark = refl

block_without_a_mark : points_of P 0x7F 0x48 ≡ 0x25A0 ∷ []
block_without_a_mark = refl

-- ---- bytes of UTF-8: one to three

one_byte : rendition (record { set = S; code = 0x24; accent = 0 }) ≡ 0x24 ∷ []
unfolding supplementary_rows encode_utf8
one_byte = refl

two_bytes : rendition (record { set = S; code = 0x60; accent = 0 }) ≡ 0xCE ∷ 0xA9 ∷ []
unfolding supplementary_rows encode_utf8
two_bytes = refl

letter_and_mark : rendition (record { set = P; code = 0x61; accent = 0x48 }) ≡ 0x61 ∷ 0xCC ∷ 0x88 ∷ []
unfolding mark encode_utf8
letter_and_mark = refl

arrow : rendition (record { set = S; code = 0x2C; accent = 0 }) ≡ 0xE2 ∷ 0x86 ∷ 0x90 ∷ []
unfolding supplementary_rows encode_utf8
arrow = refl

no_sign : rendition (record { set = S; code = 0x65; accent = 0 }) ≡ 0xEF ∷ 0xBF ∷ 0xBD ∷ []
unfolding supplementary_rows encode_utf8
no_sign = refl

block : rendition (record { set = P; code = 0x7F; accent = 0 }) ≡ 0xE2 ∷ 0x96 ∷ 0xA0 ∷ []
unfolding encode_utf8
block = refl

mosaic : rendition (record { set = M; code = 0x21; accent = 0 }) ≡ 0xE2 ∷ 0x96 ∷ 0x92 ∷ []
unfolding encode_utf8
mosaic = refl

pattern : rendition (record { set = D; code = 0x7F; accent = 0 }) ≡ 0xE2 ∷ 0x96 ∷ 0xA1 ∷ []
unfolding encode_utf8
pattern = refl
