-- Worked cases: which parts of signs of double size the places show, by computing. The values are worked out by hand
-- from the conditions on a tiled table.
use Rattle.cept_profile.proofs.WhatComputes.{computing}
use Rattle.std.proofs.Common.{◌≡◌, ℕ, ◌-◌, ◌==◌, Bool, List, [], ◌∷◌, map, refl}
use Rattle.std.specs.List.{range_with_len}
use Rattle.cept_codes.specs.declared.attribute.Size.{Size}
use Rattle.cept_codes.specs.declared.attribute.Size.TheVariants.{Both, High, Normal, Wide}
use Rattle.cept_codes.specs.declared.look.Part.{Part}
use Rattle.cept_profile.specs.Tiling.{column_entry, part_at, tiled_table}

-- ---- how the cases are told

-- the sizes that are wanted in the first rows and columns; elsewhere all are normal
abbrev pub wanting : List (List Size) → ℕ → ℕ → Size
wanting rows r c = column_entry Normal (column_entry [] rows r) c

-- the last row of the screen is last
abbrev pub is_last : ℕ → Bool
is_last r = r == 24

-- the parts that so many columns of a row show, from this column
abbrev pub parts_seen : (ℕ → ℕ → Size) → (ℕ → Bool) → ℕ → ℕ → ℕ → List Part
parts_seen wanted last r from count = map (part_at (tiled_table wanted last) r) (range_with_len from count)

-- the parts that the first rows show in this column
abbrev pub parts_down : (ℕ → ℕ → Size) → (ℕ → Bool) → ℕ → ℕ → List Part
parts_down wanted last c count = map (λ r. part_at (tiled_table wanted last) r c) (range_with_len 1 count)

-- a whole sign, the two parts of a high and of a wide one, and the four of one that is both
abbrev pub whole : Part
whole = record { dy = 0; dx = 0; w = 1; h = 1 }

abbrev pub upper : Part
upper = record { dy = 0; dx = 0; w = 1; h = 2 }

abbrev pub lower : Part
lower = record { dy = 1; dx = 0; w = 1; h = 2 }

abbrev pub left_half : Part
left_half = record { dy = 0; dx = 0; w = 2; h = 1 }

abbrev pub right_half : Part
right_half = record { dy = 0; dx = 1; w = 2; h = 1 }

abbrev pub upper_left : Part
upper_left = record { dy = 0; dx = 0; w = 2; h = 2 }

abbrev pub upper_right : Part
upper_right = record { dy = 0; dx = 1; w = 2; h = 2 }

abbrev pub lower_left : Part
lower_left = record { dy = 1; dx = 0; w = 2; h = 2 }

abbrev pub lower_right : Part
lower_right = record { dy = 1; dx = 1; w = 2; h = 2 }

-- ---- signs that cover others

-- `both` on the left: four places show it, whatever sizes three of them have; the place to the right stays
abbrev pub one_of_both : List (List Size)
one_of_both = (Both ∷ Both ∷ Wide ∷ []) ∷ (Wide ∷ High ∷ High ∷ []) ∷ []

pub both_above : parts_seen (wanting one_of_both) is_last 1 1 5
    ≡ upper_left ∷ upper_right ∷ left_half ∷ right_half ∷ whole ∷ []
unfolding computing
both_above = refl

pub both_beneath : parts_seen (wanting one_of_both) is_last 2 1 4 ≡ lower_left ∷ lower_right ∷ upper ∷ whole ∷ []
unfolding computing
both_beneath = refl

pub both_two_beneath : parts_seen (wanting one_of_both) is_last 3 1 4 ≡ whole ∷ whole ∷ lower ∷ whole ∷ []
unfolding computing
both_two_beneath = refl

-- wide signs in a row: each second one is covered from the left, and covers nothing
pub wide_side_by_side : parts_seen (wanting ((Wide ∷ Wide ∷ Wide ∷ Wide ∷ Wide ∷ []) ∷ [])) is_last 1 1 7
    ≡ left_half ∷ right_half ∷ left_half ∷ right_half ∷ left_half ∷ right_half ∷ whole ∷ []
unfolding computing
wide_side_by_side = refl

-- the place that a wide sign covers is as high as the sign, and not as is wanted there
pub covered_is_as_high : parts_seen (wanting ((Wide ∷ High ∷ []) ∷ [])) is_last 1 1 3
    ≡ left_half ∷ right_half ∷ whole ∷ []
unfolding computing
covered_is_as_high = refl

-- ---- beside and above a place that is covered from above

-- two columns to the left of a lower half there is room for a wide sign, and to its right
abbrev pub beside_lower : List (List Size)
beside_lower = (Normal ∷ Normal ∷ High ∷ []) ∷ (Wide ∷ Wide ∷ Wide ∷ Wide ∷ []) ∷ []

pub room_beside_lower : parts_seen (wanting beside_lower) is_last 2 1 5
    ≡ left_half ∷ right_half ∷ lower ∷ left_half ∷ right_half ∷ []
unfolding computing
room_beside_lower = refl

-- but none for one that begins one column to its left
abbrev pub over_lower : Size → List (List Size)
over_lower size = (Normal ∷ High ∷ []) ∷ (size ∷ Both ∷ []) ∷ []

pub wide_over_lower : parts_seen (wanting (over_lower Wide)) is_last 2 1 3 ≡ whole ∷ lower ∷ whole ∷ []
unfolding computing
wide_over_lower = refl

-- of both, the height stays
pub both_over_lower : parts_seen (wanting (over_lower Both)) is_last 2 1 3 ≡ upper ∷ lower ∷ whole ∷ []
unfolding computing
both_over_lower = refl

-- ---- at the edges

-- the sizes that are wanted in columns 39 and 40 of the first row
abbrev pub at_the_right : Size → Size → ℕ → ℕ → Size
at_the_right size last_size r c = wanting ((size ∷ last_size ∷ []) ∷ []) r (c - 38)

-- the sizes that are wanted from row 23 on
abbrev pub at_the_bottom : List (List Size) → ℕ → ℕ → Size
at_the_bottom rows r c = wanting rows (r - 22) c

pub wide_in_last_column : parts_seen (at_the_right Normal Wide) is_last 1 39 2 ≡ whole ∷ whole ∷ []
unfolding computing
wide_in_last_column = refl

pub both_in_last_column : parts_seen (at_the_right Normal Both) is_last 1 39 2 ≡ whole ∷ upper ∷ []
unfolding computing
both_in_last_column = refl

pub both_in_last_column_beneath : parts_seen (at_the_right Normal Both) is_last 2 39 2
    ≡ whole ∷ lower ∷ []
unfolding computing
both_in_last_column_beneath = refl

-- one column before, there is room
pub wide_before_last_column : parts_seen (at_the_right Wide Both) is_last 1 39 2
    ≡ left_half ∷ right_half ∷ []
unfolding computing
wide_before_last_column = refl

pub in_last_row : parts_seen (at_the_bottom ([] ∷ (Both ∷ Normal ∷ High ∷ []) ∷ [])) is_last 24 1 4
    ≡ left_half ∷ right_half ∷ whole ∷ whole ∷ []
unfolding computing
in_last_row = refl

-- one row above, there is room
pub before_last_row : parts_seen (at_the_bottom ((High ∷ []) ∷ (High ∷ []) ∷ [])) is_last 24 1 2
    ≡ lower ∷ whole ∷ []
unfolding computing
before_last_row = refl

-- where another row is last, nothing is high there, and a row beneath begins anew
pub another_row_last : parts_down (λ r c. High) (λ r. r == 3) 1 6 ≡ upper ∷ lower ∷ whole ∷ upper ∷ lower ∷ upper ∷ []
unfolding computing
another_row_last = refl

-- ---- high signs beneath each other

pub every_row_high : parts_down (λ r c. High) is_last 7 24
    ≡ upper ∷ lower ∷ upper ∷ lower ∷ upper ∷ lower ∷ upper ∷ lower ∷ upper ∷ lower ∷ upper ∷ lower ∷ upper ∷ lower
    ∷ upper ∷ lower ∷ upper ∷ lower ∷ upper ∷ lower ∷ upper ∷ lower ∷ upper ∷ lower ∷ []
unfolding computing
every_row_high = refl

-- high signs in rows 1 to 4: two are shown
abbrev pub four_high : Size → List (List Size)
four_high first = (first ∷ []) ∷ (High ∷ []) ∷ (High ∷ []) ∷ (High ∷ []) ∷ []

pub two_of_four : parts_down (wanting (four_high High)) is_last 1 6 ≡ upper ∷ lower ∷ upper ∷ lower ∷ whole ∷ whole ∷ []
unfolding computing
two_of_four = refl

-- where the first loses its height, the two others of them are shown, one row further down
pub first_lost_its_height : parts_down (wanting (four_high Normal)) is_last 1 6
    ≡ whole ∷ upper ∷ lower ∷ upper ∷ lower ∷ whole ∷ []
unfolding computing
first_lost_its_height = refl
