-- Texts of a screen, in UTF-8: its signs, and its looks that aren't blank. They are this project's own.
use Rattle.std.specs.Prelude.{ℕ, ◌*◌, ◌||◌, List, [], ◌∷◌, ◌++◌, codes, decimal, encode_utf8, flat_map, nat_lt}
use Rattle.std.specs.Prelude.{if◌then◌else◌}
use Rattle.std.specs.List.{range_with_len}
use Rattle.cept_codes.specs.declared.look.Look.{Look}
use Rattle.cept_codes.specs.declared.look.Shape.{Shape}
use Rattle.cept_codes.specs.declared.look.Shape.TheVariants as shapes
use Rattle.cept_codes.specs.Look.{blank_look}
use Rattle.cept_codes.specs.Place.{Place, place_of}
use Rattle.cept_codes.specs.Same.{same_look}
use Rattle.cept_codes.specs.Table.{value_at}
use Rattle.cept_charsets.specs.Rendition.{rendition}
use Rattle.cept_profile.specs.Changes.{look_at}
use Rattle.cept_report.specs.Ascii.{ascii}
use Rattle.cept_report.specs.Text.{line_of, look_text}

-- a space, the rendition of a sign, or a white square for a pattern
unfoldable pub shape_sign : Shape → List ℕ
shape_sign shapes.Space = codes " "
shape_sign (shapes.Char g) = rendition g
shape_sign (shapes.Drcs pattern inks) = encode_utf8 0x25A1

-- the sign of a look: a space where it is concealed, or shows another part of its shape than the upper left
unfoldable pub look_sign : Look → List ℕ
look_sign l = if l.conceal || nat_lt 0 l.dy || nat_lt 0 l.dx then codes " " else shape_sign l.shape

-- the signs of row r from the left, and a line feed
unfoldable pub row_line : List (List Look) → ℕ → List ℕ
row_line g r = flat_map (λ c. look_sign (value_at blank_look g r c)) (range_with_len 1 40) ++ ascii "\n" ∷ []

-- so many rows from the top
unfoldable pub screen_text : List (List Look) → ℕ → List ℕ
screen_text g rows = flat_map (row_line g) (range_with_len 1 rows)

-- the line of a place, its row, its column and its look; and none where its look is blank
unfoldable pub cell_text : Place → Look → List ℕ
cell_text p l = if same_look l blank_look then [] else line_of (decimal p.row ∷ decimal p.column ∷ look_text l ∷ [])

-- the lines of the places in so many rows from the top, in reading order
unfoldable pub cells_text : List (List Look) → ℕ → List ℕ
cells_text g rows = flat_map (λ n. cell_text (place_of n) (look_at g (place_of n))) (range_with_len 0 (40 * rows))
