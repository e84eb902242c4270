-- Looks of a row from the row above it (own): a place that is covered from above shows one place further down what the
-- place above shows, one that is covered from the left one place further right what its left neighbour shows, and any
-- other what stands there itself.
use Rattle.std.specs.Prelude.{ℕ, ◌-◌, ◌&&◌, ◌||◌, nat_lt, Bool, not, zero, suc, List, Option, Some, None}
use Rattle.std.specs.Prelude.{if◌then◌else◌}
use Rattle.std.specs.List.{list_any, range_with_len}
use Rattle.cept_codes.specs.declared.attribute.Size.{Size}
use Rattle.cept_codes.specs.declared.look.Look.{Look}
use Rattle.cept_codes.specs.declared.look.Part.{Part}
use Rattle.cept_codes.specs.Look.{blank_look}
use Rattle.cept_codes.specs.Same.{same_look}
use Rattle.cept_codes.specs.Table.{row_of}
use Rattle.cept_profile.specs.Look.{part_of}
use Rattle.cept_profile.specs.Tiling.{column_entry, covers_below, is_covered_from_left, is_high, is_wide, origin_part}

-- forty blank looks
abbrev pub blank_looks : List Look
blank_looks = row_of (λ _. blank_look)

-- the looks of row r of a grid, from 1; above the first row all are blank
abbrev pub looks_in : List (List Look) → ℕ → List Look
looks_in g r = column_entry blank_looks g r

-- the look at row r and column c of a grid; outside it a blank one
abbrev pub look_seen : List (List Look) → ℕ → ℕ → Look
look_seen g r c = column_entry blank_look (looks_in g r) c

-- a look with this part in place of its own
abbrev pub look_with_part : Part → Look → Look
look_with_part p l = record l { dy = p.dy; dx = p.dx; w = p.w; h = p.h }

-- this part, at row r and column c, of what stands at its origin, dy rows up and dx columns left
abbrev pub look_of_origin : (ℕ → ℕ → Look) → ℕ → ℕ → Part → Look
look_of_origin own r c p = look_with_part p (own (r - p.dy) (c - p.dx))

-- ---- one row from the one above it

-- the look of a place by the looks around it and by the look and the size that stand there by themselves
abbrev pub look_by : Look → Look → Look → Look → Look → Size → Bool → ℕ → Look
look_by above above_left above_right left own size last c =
    if covers_below (part_of above) then record above { dy = 1 } else
    if is_covered_from_left (part_of above_left) (part_of left) then record left { dy = 0; dx = 1 } else
    look_with_part (origin_part (is_wide size && nat_lt c 40 && not (covers_below (part_of above_right)))
    (is_high size && not last)) own

-- the looks of a row from the left; left of the first column stands a blank one
unfoldable pub look_from : (ℕ → Look) → (ℕ → Look) → (ℕ → Size) → Bool → ℕ → Look
look_from above own wanted last zero = blank_look
look_from above own wanted last (suc c) =
    look_by (above (suc c)) (above c) (above (suc (suc c))) (look_from above own wanted last c) (own (suc c))
    (wanted (suc c)) last (suc c)

-- the looks of a row from the looks of the row above, and from the looks and the sizes of its own cells
unfoldable pub row_from_above : List Look → (ℕ → Look) → (ℕ → Size) → Bool → List Look
row_from_above above own wanted last = row_of (look_from (column_entry blank_look above) own wanted last)

-- ---- what covers a row from above

-- the look, where it covers the place below it
abbrev pub covering : Look → Option Look
covering l = if covers_below (part_of l) then Some l else None

-- what covers the place below is not the same
abbrev pub is_other_covering : Look → Look → Bool
is_other_covering a b = (covers_below (part_of a) || covers_below (part_of b)) && not (same_look a b)

-- what covers row r of the looks after from above is not what covers row q of the looks before; nothing covers the first
-- row
unfoldable pub is_covered_otherwise : List (List Look) → ℕ → List (List Look) → ℕ → Bool
is_covered_otherwise before q after r =
    list_any (λ c. is_other_covering (look_seen before (q - 1) c) (look_seen after (r - 1) c)) (range_with_len 1 40)
