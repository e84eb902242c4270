-- Motions: where the position goes, and the strokes that each makes (T/CD 6-1, the C0 format effectors; wrapping and
-- scrolling areas are this profile's own).
use Rattle.std.specs.Prelude.{ℕ, ◌+◌, ◌-◌, Bool, false, Option, Some, None, List, [], ◌∷◌, nat_le, ◌==◌, option_and_then}
use Rattle.std.specs.Prelude.{if◌then◌else◌}
use Rattle.cept_codes.specs.declared.cell.What.{What}
use Rattle.cept_codes.specs.declared.command.Up.{Up}
use Rattle.cept_codes.specs.declared.command.Up.TheVariants as ways
use Rattle.cept_codes.specs.declared.stroke.Stroke.{Stroke}
use Rattle.cept_codes.specs.declared.stroke.Stroke.TheVariants as strokes
use Rattle.cept_codes.specs.Place.{Place, number}
use Rattle.cept_profile.specs.Working.{Working, ControlState, working_at}

-- the number of the position in reading order
abbrev pub place_number : ControlState → ℕ
place_number s = number s.working.row s.working.column

-- ---- scrolling areas

-- an area whose last row is one of so many
abbrev pub area_within : ℕ → Option (ℕ × ℕ) → Option (ℕ × ℕ)
area_within rows area = option_and_then (λ (a : ℕ × ℕ). if nat_le a.1 rows then Some a else None) area

-- the area in force: it is there, and within the format
abbrev pub area_in_force : ControlState → Option (ℕ × ℕ)
area_in_force s = area_within s.rows s.area

-- the area that motions scroll: the one in force, where implicit scrolling is on
abbrev pub scrolling_area : ControlState → Option (ℕ × ℕ)
scrolling_area s = if s.implicit then area_in_force s else None

-- row r is the first of the area
abbrev pub is_first_of : Option (ℕ × ℕ) → ℕ → Bool
is_first_of None r = false
is_first_of (Some area) r = area.0 == r

-- row r is the last of the area
abbrev pub is_last_of : Option (ℕ × ℕ) → ℕ → Bool
is_last_of None r = false
is_last_of (Some area) r = area.1 == r

-- the rows of the area go one row up or down: under the second revision their attributes go with them
abbrev pub strokes_of_scroll : ControlState → Up → Option (ℕ × ℕ) → List Stroke
strokes_of_scroll s way None = []
strokes_of_scroll s way (Some area) =
    (if s.revision == 2 then strokes.Carry area.0 area.1 way else strokes.Shift area.0 area.1 way) ∷ []

-- ---- motions, each with its strokes

-- the row below, where no area scrolls: from the last row it is row 1 with wrap, and the row itself without
abbrev pub row_below : ControlState → ℕ
row_below s = let r = s.working.row in if r == s.rows then (if s.wrap then 1 else r) else r + 1

-- the row above, where no area scrolls: from row 1 it is the last row with wrap, and the row itself without
abbrev pub row_above : ControlState → ℕ
row_above s = let r = s.working.row in if r == 1 then (if s.wrap then s.rows else r) else r - 1

-- one row down, to column c: at the last row of an area that scrolls its rows go up, and the row stays
abbrev pub below : ControlState → ℕ → Working × List Stroke
below s c =
    let r = s.working.row in
    if is_last_of (scrolling_area s) r then (working_at r c s.working, strokes_of_scroll s ways.Up (scrolling_area s)) else
    (working_at (row_below s) c s.working, [])

-- one row up, to column c: at the first row of an area that scrolls its rows go down, and the row stays
abbrev pub above : ControlState → ℕ → Working × List Stroke
above s c =
    let r = s.working.row in
    if is_first_of (scrolling_area s) r then (working_at r c s.working, strokes_of_scroll s ways.Down (scrolling_area s)) else
    (working_at (row_above s) c s.working, [])

-- n columns on: past the last column it goes to the first of the row below with wrap, and to the last without
abbrev pub ahead : ControlState → ℕ → Working × List Stroke
ahead s n =
    let w = s.working in
    if nat_le (w.column + n) 40 then (working_at w.row (w.column + n) w, []) else
    if s.wrap then below s 1 else (working_at w.row 40 w, [])

-- one column back: before the first column it goes to the last of the row above with wrap, and stays without
abbrev pub back : ControlState → Working × List Stroke
back s =
    let w = s.working in
    if w.column == 1 then (if s.wrap then above s 40 else (w, [])) else
    (working_at w.row (w.column - 1) w, [])

-- a cell is put at the position, protected as protection says, and the position moves on by n columns
abbrev pub put : ControlState → What → ℕ → Working × List Stroke
put s what n =
    let moved = ahead s n in let place : Place = record { row = s.working.row; column = s.working.column } in
    (moved.0, strokes.Put place (record { what = what; protected = s.working.protect }) ∷ moved.1)
