-- Names of a row from the row above it (own): a place that is covered from above names what the place above names, one
-- that is covered from the left what its left neighbour names, and any other what stands there itself.
use Rattle.std.specs.Prelude.{ℕ, nat_lt, zero, suc, None, if◌then◌else◌}
use Rattle.cept_codes.specs.declared.attribute.Pen.{Pen}
use Rattle.cept_codes.specs.declared.cell.What.{What}
use Rattle.cept_codes.specs.declared.look.Part.{Part}
use Rattle.cept_profile.specs.Look.{contents_of_row}
use Rattle.cept_profile.specs.Names.{Names, names_with}
use Rattle.cept_profile.specs.PageParts.{row_pen_in}
use Rattle.cept_profile.specs.Serial.{own_attributes}
use Rattle.cept_profile.specs.State.{Core}

-- ---- one row by itself

-- the names of what stands in a column of a row: of its own attributes, and of the sign that stands there
unfoldable pub names_in_row : (ℕ → What) → Pen → Pen → ℕ → Names
names_in_row row pen screen c = names_with (own_attributes row pen screen c) (row c)

-- the names of what stands at row r and column c of a core by itself
abbrev pub own_names : Core → ℕ → ℕ → Names
own_names k r c = names_in_row (contents_of_row k r) (row_pen_in k.page.row_pens r) k.page.screen_pen c

-- ---- one row from the one above it

-- white on black, and no pattern
abbrev pub default_names : Names
default_names = record { fore = 7; back = 0; code = None }

-- the names of a place by the part that it shows, by the names above it and left of it, and by those of what stands
-- there itself
abbrev pub names_by : Part → Names → Names → Names → Names
names_by p above left own = if nat_lt 0 p.dy then above else if nat_lt 0 p.dx then left else own

-- the names of a row from the left, by its parts; left of the first column stand the default ones
unfoldable pub names_from_above : (ℕ → Names) → (ℕ → Part) → (ℕ → Names) → ℕ → Names
names_from_above above parts own zero = default_names
names_from_above above parts own (suc c) =
    names_by (parts (suc c)) (above (suc c)) (names_from_above above parts own c) (own (suc c))
