-- Names (own): the colour entries, entries of the DCLUT and codes of patterns that what is seen in a row depends on.
use Rattle.std.specs.Prelude.{ℕ, Bool, false, Option, Some, None, ◌-◌, ◌&&◌, ◌||◌, ◌==◌, nat_le, nat_lt}
use Rattle.std.specs.Prelude.{if◌then◌else◌, is_some}
use Rattle.std.specs.List.{list_any, range_with_len}
use Rattle.cept_codes.specs.declared.attribute.Full.{Full}
use Rattle.cept_codes.specs.declared.cell.What.{What}
use Rattle.cept_codes.specs.declared.cell.What.TheVariants as whats
use Rattle.cept_codes.specs.declared.glyph.SetId.{SetId}
use Rattle.cept_codes.specs.declared.glyph.SetId.TheVariants as sets
use Rattle.cept_codes.specs.declared.look.Part.{Part}
use Rattle.cept_codes.specs.declared.look.Pattern.{Pattern}
use Rattle.cept_codes.specs.declared.look.Shape.{Shape}
use Rattle.cept_codes.specs.declared.look.Shape.TheVariants as shapes
use Rattle.cept_profile.specs.Definitions.{Definitions}
use Rattle.cept_profile.specs.Look.{contents_of_row, look, parts_of}
use Rattle.cept_profile.specs.PageParts.{dclut_in, row_pen_in}
use Rattle.cept_profile.specs.Serial.{own_attributes}
use Rattle.cept_profile.specs.State.{Core, definitions_of}
use Rattle.cept_profile.specs.Tiling.{part_at}

-- ---- full attributes

-- what is at the origin of this part, at row r and column c: dy rows up and dx columns left
abbrev pub at_origin : {X : Type 0} → (ℕ → ℕ → X) → ℕ → ℕ → Part → X
at_origin own r c p = own (r - p.dy) (c - p.dx)

-- own attributes of what stands at row r and column c
abbrev pub own_attributes_in : Core → ℕ → ℕ → Full
own_attributes_in k r c =
    own_attributes (contents_of_row k r) (row_pen_in k.page.row_pens r) k.page.screen_pen c

-- full attributes of the place at row r and column c: own attributes at its origin
unfoldable pub full_attributes : Core → ℕ → ℕ → Full
full_attributes k r c = at_origin (own_attributes_in k) r c (part_at (parts_of k) r c)

-- what stands at its origin
unfoldable pub contents_at_origin : Core → ℕ → ℕ → What
contents_at_origin k r c = at_origin (contents_of_row k) r c (part_at (parts_of k) r c)

-- ---- the names of a place

-- the code of a sign of the downloaded set
abbrev pub code_in_set : SetId → ℕ → Option ℕ
code_in_set sets.D code = Some code
code_in_set sets.P code = None
code_in_set sets.S code = None
code_in_set sets.M code = None
code_in_set sets.N code = None

-- where one stands there
abbrev pub code_named : What → Option ℕ
code_named (whats.Serial g) = code_in_set g.set g.code
code_named (whats.Parallel g pen) = code_in_set g.set g.code
code_named whats.Blank = None
code_named (whats.Marker m) = None

-- the entries of foreground and background, and the code of a pattern
pub record Names : Type 0 where
  pub fore : ℕ
  pub back : ℕ
  pub code : Option ℕ

-- of attributes, and of what has them
abbrev pub names_with : Full → What → Names
names_with f what = record { fore = f.fore; back = f.back; code = code_named what }

-- the names of the place at row r and column c: of its full attributes, and of what stands at its origin
abbrev pub names_at : Core → ℕ → ℕ → Names
names_at k r c = names_with (full_attributes k r c) (contents_at_origin k r c)

-- ---- the names of a row

-- the pattern that a shape shows
abbrev pub pattern_shown : Shape → Option Pattern
pattern_shown (shapes.Drcs pattern inks) = Some pattern
pattern_shown shapes.Space = None
pattern_shown (shapes.Char g) = None

-- a pattern of so many planes has an ink of the colour entry i: of two planes those that the DCLUT names, of four the
-- entries 16 to 31
abbrev pub is_ink_of : Definitions → ℕ → ℕ → Bool
is_ink_of defined planes i =
    if planes == 1 then false else
    if planes == 2 then list_any (λ j. dclut_in defined.dclut j == i) (range_with_len 0 4) else
    nat_le 16 i && nat_lt i 32

-- the pattern that is shown has an ink of that entry
abbrev pub shows_ink_of : Definitions → Option Pattern → ℕ → Bool
shows_ink_of defined None i = false
shows_ink_of defined (Some pattern) i = is_ink_of defined pattern.planes i

-- the pattern that is shown has two planes
abbrev pub shows_two_planes : Option Pattern → Bool
shows_two_planes None = false
shows_two_planes (Some pattern) = pattern.planes == 2

-- the code is named
abbrev pub is_code : Option ℕ → ℕ → Bool
is_code None d = false
is_code (Some code) d = code == d

-- a place of the row meets this
abbrev pub some_place : (ℕ → Bool) → Bool
some_place meets = list_any meets (range_with_len 1 40)

-- a place names the colour entry i: as its foreground, as its background, or as an ink of the pattern shown there
abbrev pub place_names_entry : Core → ℕ → ℕ → ℕ → Bool
place_names_entry k r i c =
    (names_at k r c).fore == i || (names_at k r c).back == i
    || shows_ink_of (definitions_of k.page) (pattern_shown (look k r c).shape) i

-- row r names the colour entry i
unfoldable pub names_entry : Core → ℕ → ℕ → Bool
names_entry k r i = some_place (place_names_entry k r i)

-- row r names the entry j of the DCLUT: all four, where a pattern of two planes is shown
unfoldable pub names_dclut : Core → ℕ → ℕ → Bool
names_dclut k r j = nat_lt j 4 && some_place (λ c. shows_two_planes (pattern_shown (look k r c).shape))

-- row r names the code d of a pattern: the sign at the origin of a place is the one of the downloaded set with this code
unfoldable pub names_pattern : Core → ℕ → ℕ → Bool
names_pattern k r d = some_place (λ c. is_code (names_at k r c).code d)

-- row r names a code of a pattern
unfoldable pub names_some_pattern : Core → ℕ → Bool
names_some_pattern k r = some_place (λ c. is_some (names_at k r c).code)
