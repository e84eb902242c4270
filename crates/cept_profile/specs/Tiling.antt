-- Tiling: which part of a sign each place shows. The four sizes have their names from ETS 300 072 (normal size, double
-- height, double width, double size); all else is this profile's own.
use Rattle.std.specs.Prelude.{
  ℕ,
  ◌≡◌,
  ◌+◌,
  ◌-◌,
  ◌≤◌,
  ◌==◌,
  ◌&&◌,
  nat_lt,
  Bool,
  true,
  false,
  not,
  IsTrue,
  IsFalse,
  zero,
  suc,
}
use Rattle.std.specs.Prelude.{List, length, map, if◌then◌else◌}
use Rattle.std.specs.List.{range_with_len}
use Rattle.cept_codes.specs.declared.attribute.Size.{Size}
use Rattle.cept_codes.specs.declared.attribute.Size.TheVariants as sizes
use Rattle.cept_codes.specs.declared.look.Part.{Part}
use Rattle.cept_codes.specs.Place.{OnScreen}
use Rattle.cept_codes.specs.Table.{IsTable, entry, row_of}

-- ---- sizes and parts

-- twice as high
abbrev pub is_high : Size → Bool
is_high sizes.High = true
is_high sizes.Both = true
is_high _ = false

-- twice as wide
abbrev pub is_wide : Size → Bool
is_wide sizes.Wide = true
is_wide sizes.Both = true
is_wide _ = false

-- how many columns a sign of this size takes
abbrev pub columns_of_size : Size → ℕ
columns_of_size size = if is_wide size then 2 else 1

-- the upper left part of a sign, twice as wide or high where this is so
abbrev pub origin_part : Bool → Bool → Part
origin_part wide high = record { dy = 0; dx = 0; w = if wide then 2 else 1; h = if high then 2 else 1 }

-- the whole of a sign of single size
abbrev pub single_part : Part
single_part = record { dy = 0; dx = 0; w = 1; h = 1 }

-- a part that covers the place below it
abbrev pub covers_below : Part → Bool
covers_below p = p.dy == 0 && p.h == 2

-- the left neighbour, if of the left side of a wide sign, covers the place to its right, unless covered itself from above
abbrev pub is_covered_from_left : Part → Part → Bool
is_covered_from_left above_left left = not (covers_below above_left) && (left.dx == 0 && left.w == 2)

-- a part of the left side of a wide sign
abbrev pub covers_right : Part → Bool
covers_right p = p.dx == 0 && p.w == 2

-- ---- rows and tables of parts

-- what stands in this column of a row, from 1, and the default outside the row
abbrev pub column_entry : {X : Type 0} → X → List X → ℕ → X
column_entry default row c = entry default 1 row c

-- forty whole signs
abbrev pub flat_parts : List Part
flat_parts = row_of (λ _. single_part)

-- the parts of row r of a table, from 1; above the first row all are whole signs
abbrev pub parts_in : List (List Part) → ℕ → List Part
parts_in t r = column_entry flat_parts t r

-- the part at row r and column c; outside the table a whole sign
abbrev pub part_at : List (List Part) → ℕ → ℕ → Part
part_at t r c = entry single_part 1 (entry (row_of (λ _. single_part)) 1 t r) c

-- ---- the conditions on a finished table

-- the part in column c of a row, by the parts of that row and of the row above it: where the place above covers it, the
-- part below that one's; else, where its left neighbour covers it, the part to the right of that one's; else the origin
-- of a sign of the size that is wanted there, which is never high in the last row, and never wide in the last column or
-- where its right neighbour is covered from above
pub record IsTiledAt (above row : ℕ → Part) (size : Size) (last : Bool) (c : ℕ) : Type 0 where
  pub from_above : IsTrue (covers_below (above c)) → row c ≡ record (above c) { dy = 1 }
  pub from_left : IsFalse (covers_below (above c)) → IsTrue (is_covered_from_left (above (c - 1)) (row (c - 1)))
      → row c ≡ record (row (c - 1)) { dy = 0; dx = 1 }
  pub origin : IsFalse (covers_below (above c)) → IsFalse (is_covered_from_left (above (c - 1)) (row (c - 1)))
      → row c ≡ origin_part (is_wide size && nat_lt c 40 && not (covers_below (above (c + 1))))
      (is_high size && not last)

-- forty parts that are tiled beneath those of the row above, where these sizes are wanted
pub record IsTiledRow (above : List Part) (wanted : ℕ → Size) (last : Bool) (row : List Part) : Type 0 where
  pub columns : length row ≡ 40
  pub places : (c : ℕ) → 1 ≤ c → c ≤ 40
      → IsTiledAt (column_entry single_part above) (column_entry single_part row) (wanted c) last c

-- a table in which every part meets its condition, where these sizes are wanted and these rows are last
pub record IsTiled (wanted : ℕ → ℕ → Size) (is_last : ℕ → Bool) (t : List (List Part)) : Type 0 where
  pub table : IsTable t
  pub places : (r c : ℕ) → OnScreen r c → IsTiledAt (part_at t (r - 1)) (part_at t r) (wanted r c) (is_last r) c

-- ---- the one table that meets them, from the top and the left

-- the part of a place by the parts around it, which are the one above, those left and right of that, and the one left:
-- the part below the one above or to the right of the one left where that covers the place, else the origin of a sign
abbrev pub part_by : Part → Part → Part → Part → Size → Bool → ℕ → Part
part_by above above_left above_right left size last c =
    if covers_below above then record above { dy = 1 } else
    if is_covered_from_left above_left left then record left { dy = 0; dx = 1 } else
    origin_part (is_wide size && nat_lt c 40 && not (covers_below above_right)) (is_high size && not last)

-- the parts of a row from the left; left of the first column stands a whole sign
unfoldable pub part_from : (ℕ → Part) → (ℕ → Size) → Bool → ℕ → Part
part_from above wanted last zero = single_part
part_from above wanted last (suc c) =
    part_by (above (suc c)) (above c) (above (suc (suc c))) (part_from above wanted last c) (wanted (suc c)) last
    (suc c)

-- the one row that is tiled beneath these parts
unfoldable pub tiled_row : List Part → (ℕ → Size) → Bool → List Part
tiled_row above wanted last = row_of (part_from (entry single_part 1 above) wanted last)

-- the rows of the one tiled table, from 1; above the first all are whole signs
unfoldable pub tiled_rows : (ℕ → ℕ → Size) → (ℕ → Bool) → ℕ → List Part
tiled_rows wanted is_last zero = row_of (λ _. single_part)
tiled_rows wanted is_last (suc r) = tiled_row (tiled_rows wanted is_last r) (wanted (suc r)) (is_last (suc r))

-- the one tiled table
unfoldable pub tiled_table : (ℕ → ℕ → Size) → (ℕ → Bool) → List (List Part)
tiled_table wanted is_last = map (tiled_rows wanted is_last) (range_with_len 1 24)
