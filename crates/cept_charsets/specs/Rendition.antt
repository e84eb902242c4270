-- The rendition of signs in Unicode. It is this project's own. The marks are those of the accents of ISO 6937.
use Rattle.std.specs.Prelude.{ℕ, ◌+◌, ◌-◌, ◌&&◌, Option, Some, None, List, [], ◌∷◌, length}
use Rattle.std.specs.Prelude.{slice_index, option_to_list, encode_utf8_all, nat_lt, nat_le, ◌==◌, if◌then◌else◌}
use Rattle.cept_codes.specs.declared.glyph.Glyph.{Glyph}
use Rattle.cept_codes.specs.declared.glyph.SetId.{SetId}
use Rattle.cept_codes.specs.declared.glyph.SetId.TheVariants.{P, S, M, N, D}

-- codes of set S from the first on, and their code points in order
pub record Row : Type 0 where
  pub first : ℕ
  pub points : List ℕ

-- a row by its first code and its points
abbrev pub row : ℕ → List ℕ → Row
row first points = record { first = first; points = points }

-- the codes of set S that have a rendition, by column
unfoldable pub supplementary_rows : List Row
supplementary_rows =
    row 0x21 (0x00A1 ∷ 0x00A2 ∷ 0x00A3 ∷ 0x0024 ∷ 0x00A5 ∷ 0x0023 ∷ 0x00A7 ∷ 0x00A4 ∷ 0x2018 ∷ 0x201C ∷ 0x00AB ∷ 0x2190
    ∷ 0x2191 ∷ 0x2192 ∷ 0x2193 ∷ []) ∷
    row 0x30 (0x00B0 ∷ 0x00B1 ∷ 0x00B2 ∷ 0x00B3 ∷ 0x00D7 ∷ 0x00B5 ∷ 0x00B6 ∷ 0x00B7 ∷ 0x00F7 ∷ 0x2019 ∷ 0x201D ∷ 0x00BB
    ∷ 0x00BC ∷ 0x00BD ∷ 0x00BE ∷ 0x00BF ∷ []) ∷
    row 0x50 (0x2015 ∷ 0x00B9 ∷ 0x00AE ∷ 0x00A9 ∷ 0x2122 ∷ 0x266A ∷ []) ∷
    row 0x60 (0x03A9 ∷ 0x00C6 ∷ 0x0110 ∷ 0x00AA ∷ 0x0126 ∷ []) ∷
    row 0x66 (0x0132 ∷ 0x013F ∷ 0x0141 ∷ 0x00D8 ∷ 0x0152 ∷ 0x00BA ∷ 0x00DE ∷ 0x0166 ∷ 0x014A ∷ 0x0149 ∷ []) ∷
    row 0x70 (0x0138 ∷ 0x00E6 ∷ 0x0111 ∷ 0x00F0 ∷ 0x0127 ∷ 0x0131 ∷ 0x0133 ∷ 0x0140 ∷ 0x0142 ∷ 0x00F8 ∷ 0x0153 ∷ 0x00DF
    ∷ 0x00FE ∷ 0x0167 ∷ 0x014B ∷ []) ∷
    []

-- the point of a code by the first row in which it stands, and U+FFFD where it stands in none
abbrev pub point_in : List Row → ℕ → ℕ
point_in [] code = 0xFFFD
point_in (r ∷ rows) code =
    if nat_le r.first code && nat_lt code (r.first + length r.points) then slice_index r.points (code - r.first) else
    point_in rows code

-- the mark that an accent adds: 4/0, 4/9 and 4/12 add none
unfoldable pub mark : ℕ → Option ℕ
mark accent =
    if accent == 0x41 then Some 0x0300 else  -- grave
    if accent == 0x42 then Some 0x0301 else  -- acute
    if accent == 0x43 then Some 0x0302 else  -- circumflex
    if accent == 0x44 then Some 0x0303 else  -- tilde
    if accent == 0x45 then Some 0x0304 else  -- macron
    if accent == 0x46 then Some 0x0306 else  -- breve
    if accent == 0x47 then Some 0x0307 else  -- dot above
    if accent == 0x48 then Some 0x0308 else  -- diaeresis
    if accent == 0x4A then Some 0x030A else  -- ring
    if accent == 0x4B then Some 0x0327 else  -- cedilla
    if accent == 0x4D then Some 0x030B else  -- double acute
    if accent == 0x4E then Some 0x0328 else  -- ogonek
    if accent == 0x4F then Some 0x030C else  -- caron
    None

-- the code points of a sign of P: the ASCII sign and its mark, but 7/15 is a black square and has no mark
abbrev pub primary_points : ℕ → ℕ → List ℕ
primary_points code accent =
    if code == 0x7F then 0x25A0 ∷ [] else
    code ∷ option_to_list (mark accent)

-- the code points of a sign: a mosaic is a medium shade, and a pattern is a white square
abbrev pub points_of : SetId → ℕ → ℕ → List ℕ
points_of P code accent = primary_points code accent
points_of S code accent = point_in supplementary_rows code ∷ []
points_of M code accent = 0x2592 ∷ []
points_of N code accent = 0x2592 ∷ []
points_of D code accent = 0x25A1 ∷ []

-- the rendition of a sign, in UTF-8
abbrev pub rendition : Glyph → List ℕ
rendition g = encode_utf8_all (points_of g.set g.code g.accent)
