-- Worked cases: of which row a row came, and which rows are last, by computing.
use Rattle.cept_profile.proofs.WhatComputes.{computing}
use Rattle.std.proofs.Common.{◌≡◌, ℕ, List, [], ◌∷◌, map, Option, Some, None, true, false, refl}
use Rattle.cept_codes.specs.declared.command.Up.TheVariants.{Down, Up}
use Rattle.cept_codes.specs.declared.stroke.Stroke.{Stroke}
use Rattle.cept_codes.specs.declared.stroke.Stroke.TheVariants as strokes
use Rattle.cept_codes.specs.declared.attribute.Attr.TheVariants.{Back}
use Rattle.cept_codes.specs.declared.attribute.Pen.{Pen}
use Rattle.cept_codes.specs.Attribute.{unset_pen}
use Rattle.cept_profile.specs.Edges.{Edges, edges_of, is_last}
use Rattle.cept_profile.specs.MovedRows.{row_before}
use Rattle.cept_profile.specs.Working.{initial_control}
use Rattle.cept_profile.proofs.PartsByStrokes.{row_pen_back}

-- of which rows the rows 1 to 6 came
abbrev pub rows_before : List Stroke → List (Option ℕ)
rows_before strokes = map (row_before strokes) (1 ∷ 2 ∷ 3 ∷ 4 ∷ 5 ∷ 6 ∷ [])

-- rows 2 to 5 go up: what was in row 2 is gone, and row 5 comes free
pub up : rows_before (strokes.Shift 2 5 Up ∷ [])
    ≡ Some 1 ∷ Some 3 ∷ Some 4 ∷ Some 5 ∷ None ∷ Some 6 ∷ []
unfolding computing
up = refl

-- they go down: what was in row 5 is gone, and row 2 comes free
pub down : rows_before (strokes.Shift 2 5 Down ∷ [])
    ≡ Some 1 ∷ None ∷ Some 2 ∷ Some 3 ∷ Some 4 ∷ Some 6 ∷ []
unfolding computing
down = refl

-- twice up
pub up_twice : rows_before (strokes.Shift 2 5 Up ∷ strokes.Shift 2 5 Up ∷ [])
    ≡ Some 1 ∷ Some 4 ∷ Some 5 ∷ None ∷ None ∷ Some 6 ∷ []
unfolding computing
up_twice = refl

-- up and down again: the row that went off stays gone
pub up_and_down : rows_before (strokes.Shift 2 5 Up ∷ strokes.Shift 2 5 Down ∷ [])
    ≡ Some 1 ∷ None ∷ Some 3 ∷ Some 4 ∷ Some 5 ∷ Some 6 ∷ []
unfolding computing
up_and_down = refl

-- two areas, the first stroke first: row 4 goes to row 3, and from there to row 2
pub two_areas : rows_before (strokes.Shift 3 5 Up ∷ strokes.Shift 1 3 Up ∷ [])
    ≡ Some 2 ∷ Some 4 ∷ None ∷ Some 5 ∷ None ∷ Some 6 ∷ []
unfolding computing
two_areas = refl

-- an area of one row is freed
pub one_row : rows_before (strokes.Shift 3 3 Down ∷ []) ≡ Some 1 ∷ Some 2 ∷ None ∷ Some 4 ∷ Some 5 ∷ Some 6 ∷ []
unfolding computing
one_row = refl

-- rows that are carried come from where shifted ones come
pub carried : rows_before (strokes.Carry 2 5 Up ∷ strokes.Carry 3 4 Down ∷ [])
    ≡ Some 1 ∷ Some 3 ∷ None ∷ Some 4 ∷ None ∷ Some 6 ∷ []
unfolding computing
carried = refl

-- a wipe and an erased row move nothing
pub others_move_none : rows_before (strokes.Wipe ∷ strokes.Erase 3 1 ∷ strokes.Format 20 ∷ [])
    ≡ Some 1 ∷ Some 2 ∷ Some 3 ∷ Some 4 ∷ Some 5 ∷ Some 6 ∷ []
unfolding computing
others_move_none = refl

-- ---- attributes of rows, the last stroke first

-- the attributes of the rows 1 to 6
abbrev pub pens_of : List Stroke → List Pen
pens_of strokes = map (row_pen_back strokes) (1 ∷ 2 ∷ 3 ∷ 4 ∷ 5 ∷ 6 ∷ [])

-- row 3 has a background
abbrev pub back : Pen
back = record unset_pen { back = Some 1 }

pub shift_leaves_attributes : pens_of (strokes.Shift 2 5 Up ∷ strokes.RowAttr 3 (Back 1) ∷ [])
    ≡ unset_pen ∷ unset_pen ∷ back ∷ unset_pen ∷ unset_pen ∷ unset_pen ∷ []
shift_leaves_attributes = refl

pub carried_up : pens_of (strokes.Carry 2 5 Up ∷ strokes.RowAttr 3 (Back 1) ∷ [])
    ≡ unset_pen ∷ back ∷ unset_pen ∷ unset_pen ∷ unset_pen ∷ unset_pen ∷ []
carried_up = refl

pub carried_down : pens_of (strokes.Carry 2 5 Down ∷ strokes.RowAttr 3 (Back 1) ∷ [])
    ≡ unset_pen ∷ unset_pen ∷ unset_pen ∷ back ∷ unset_pen ∷ unset_pen ∷ []
carried_down = refl

-- what goes off is gone, the row that comes free has none, and rows outside stay
pub carried_off : pens_of (strokes.Carry 3 5 Down ∷ strokes.Carry 3 5 Up ∷ strokes.RowAttr 3 (Back 1) ∷ [])
    ≡ unset_pen ∷ unset_pen ∷ unset_pen ∷ unset_pen ∷ unset_pen ∷ unset_pen ∷ []
carried_off = refl

pub carried_beside : pens_of (strokes.Carry 2 5 Up ∷ strokes.RowAttr 6 (Back 1) ∷ strokes.RowAttr 1 (Back 1) ∷ [])
    ≡ back ∷ unset_pen ∷ unset_pen ∷ unset_pen ∷ unset_pen ∷ back ∷ []
carried_beside = refl

-- ---- which rows are last

-- the edges of so many rows with this area under this revision
abbrev edges_under : ℕ → Option (ℕ × ℕ) → ℕ → Edges
edges_under rows area revision =
    edges_of (record initial_control { rows = rows; area = area; revision = revision })

-- of 20 rows the last is the twentieth, and with it all after it; the first revision asks no area
pub last_of_20 : map (is_last (edges_under 20 (Some (3, 9)) 1)) (2 ∷ 9 ∷ 19 ∷ 20 ∷ 21 ∷ 24 ∷ [])
    ≡ false ∷ false ∷ false ∷ true ∷ true ∷ true ∷ []
last_of_20 = refl

-- under the second the row above the area is last, and the area's last one
pub last_at_area : map (is_last (edges_under 24 (Some (3, 9)) 2)) (1 ∷ 2 ∷ 3 ∷ 8 ∷ 9 ∷ 10 ∷ 23 ∷ 24 ∷ [])
    ≡ false ∷ true ∷ false ∷ false ∷ true ∷ false ∷ false ∷ true ∷ []
last_at_area = refl

-- above the first row there is none
pub last_at_first_row : map (is_last (edges_under 24 (Some (1, 1)) 2)) (1 ∷ 2 ∷ 3 ∷ []) ≡ true ∷ false ∷ false ∷ []
last_at_first_row = refl

-- an area past the format has no edges, and none has none
pub last_past_format : map (is_last (edges_under 20 (Some (3, 21)) 2)) (2 ∷ 3 ∷ 19 ∷ 20 ∷ [])
    ≡ false ∷ false ∷ false ∷ true ∷ []
last_past_format = refl

pub last_without_area : map (is_last (edges_under 24 None 2)) (1 ∷ 23 ∷ 24 ∷ []) ≡ false ∷ false ∷ true ∷ []
last_without_area = refl
