-- The points of a page (block mosaics: ETS 300 072, first mosaic set, in which a sign has two blocks across and three
-- down; that they are the points of a field is this profile's own).
use Rattle.std.specs.Prelude.{ℕ, ◌+◌, ◌-◌, ◌*◌, ◌/◌, ◌%◌, ◌^◌, ◌<◌, ◌==◌, nat_lt, Bool, if◌then◌else◌}
use Rattle.cept_codes.specs.declared.cell.What.{What}
use Rattle.cept_codes.specs.declared.cell.What.TheVariants as whats
use Rattle.cept_codes.specs.declared.glyph.SetId.TheVariants as sets
use Rattle.cept_codes.specs.declared.glyph.SetId.{SetId}
use Rattle.cept_codes.specs.Cell.{blank_cell}
use Rattle.cept_codes.specs.Table.{value_at}
use Rattle.cept_profile.specs.State.{Core}

-- there is such a point: x from the left and y from the top, each from 0
pub record OnField (x y : ℕ) : Type 0 where
  pub across : x < 80
  pub down : y < 72

-- the row and the column of the cell in which a point stands
abbrev pub row_of_point : ℕ → ℕ
row_of_point y = y / 3 + 1

abbrev pub column_of_point : ℕ → ℕ
column_of_point x = x / 2 + 1

-- which of the six blocks of its cell a point is: from the top, in each pair from the left
abbrev pub block_of : ℕ → ℕ → ℕ
block_of x y = 2 * (y % 3) + x % 2

-- its weight in the value of the cell: 1, 2, 4, 8, 16 or 32
abbrev pub weight : ℕ → ℕ → ℕ
weight x y = 2 ^ block_of x y

-- a value has the weight of a point in it
abbrev pub has_weight : ℕ → ℕ → ℕ → Bool
has_weight value x y = value / weight x y % 2 == 1

-- the value of a code of a set: codes 2/0 to 3/15 and 6/0 to 7/15 of the first mosaic set are the block mosaics
abbrev pub value_of_code : SetId → ℕ → ℕ
value_of_code sets.M code = if nat_lt code 0x40 then code - 0x20 else if nat_lt code 0x60 then 0 else code - 0x40
value_of_code _ code = 0

-- the value of what stands in a cell: that of a block mosaic, in whatever way it was written, and else 0
abbrev pub value_of : What → ℕ
value_of (whats.Serial glyph) = value_of_code glyph.set glyph.code
value_of (whats.Parallel glyph pen) = value_of_code glyph.set glyph.code
value_of _ = 0

-- the value of the cell of a core in row r and column c
abbrev pub value_in_core : Core → ℕ → ℕ → ℕ
value_in_core k r c = value_of (value_at blank_cell k.page.cells r c).what

-- a point is in the field of a core
abbrev pub is_in_field : Core → ℕ → ℕ → Bool
is_in_field k x y = has_weight (value_in_core k (row_of_point y) (column_of_point x)) x y
