-- Worked cases: areas that scroll, and cells that are protected, by computing.
use Rattle.cept_profile.proofs.WhatComputes.{computing}
use Rattle.std.proofs.Common.{◌≡◌, ℕ, List, [], ◌∷◌, ◌++◌, map, reverse, Some, None, Bool, true, false, refl}
use Rattle.cept_codes.specs.declared.cell.Cell.{Cell}
use Rattle.cept_codes.specs.declared.cell.Marker.TheVariants.{Hold}
use Rattle.cept_codes.specs.declared.cell.What.TheVariants as whats
use Rattle.cept_codes.specs.declared.command.C1Set.TheVariants.{Serial}
use Rattle.cept_codes.specs.declared.command.Command.{Command}
use Rattle.cept_codes.specs.declared.command.Command.TheVariants as commands
use Rattle.cept_codes.specs.declared.command.Command.TheVariants.{AreaCreate, Graphic, Implicit, Position, Protect, Repeat}
use Rattle.cept_codes.specs.declared.command.Up.TheVariants.{Down, Up}
use Rattle.cept_codes.specs.declared.glyph.SetId.TheVariants.{P}
use Rattle.cept_codes.specs.declared.stroke.Stroke.{Stroke}
use Rattle.cept_codes.specs.declared.stroke.Stroke.TheVariants.{Put, Shift}
use Rattle.cept_codes.specs.Attribute.{unset_pen}
use Rattle.cept_codes.specs.Cell.{blank_cell}
use Rattle.cept_profile.specs.Control.{ControlState, initial_control}
use Rattle.cept_profile.specs.Motions.{area_in_force}
use Rattle.cept_profile.specs.Strokes.{strokes_back, strokes_in, strokes_of}
use Rattle.cept_profile.proofs.CellsByStrokes.{cell_back}

-- a sign, protected or not
abbrev pub cell : ℕ → Bool → Cell
cell code protected =
    record { what = whats.Parallel (record { set = P; code = code; accent = 0 }) unset_pen; protected = protected }

abbrev pub put : ℕ → ℕ → ℕ → Stroke
put r c code = Put (record { row = r; column = c }) (cell code false)

-- what stands in column c of these rows after the commands
abbrev pub column_of : List Command → ℕ → List ℕ → List Cell
column_of history c rows = map (λ r. cell_back (strokes_back (reverse history)) r c) rows

-- rows 2 to 5 scroll
abbrev pub scrolling : List Command
scrolling = AreaCreate 2 5 ∷ Implicit true ∷ []

-- ---- which motions scroll

-- `9B 31 3B 32 34 55 9B 32 60 1F 58 68 41 42`: the whole screen goes up after A, and B is on its last row
abbrev pub over_the_end : List Command
over_the_end = AreaCreate 1 24 ∷ Implicit true ∷ Position 24 40 ∷ Graphic 0x41 ∷ Graphic 0x42 ∷ []

pub sign_before_the_shift : strokes_in over_the_end ≡ put 24 40 0x41 ∷ Shift 1 24 Up ∷ put 24 1 0x42 ∷ []
unfolding computing
sign_before_the_shift = refl

pub sign_one_row_up : column_of over_the_end 40 (22 ∷ 23 ∷ 24 ∷ []) ≡ blank_cell ∷ cell 0x41 false ∷ blank_cell ∷ []
unfolding computing
sign_one_row_up = refl

-- down from the last row and up from the first: the row stays
pub down_at_the_last : strokes_in (scrolling ++ Position 5 7 ∷ commands.Down ∷ Graphic 0x41 ∷ [])
    ≡ Shift 2 5 Up ∷ put 5 7 0x41 ∷ []
unfolding computing
down_at_the_last = refl

pub up_at_the_first : strokes_in (scrolling ++ Position 2 7 ∷ commands.Up ∷ Graphic 0x41 ∷ [])
    ≡ Shift 2 5 Down ∷ put 2 7 0x41 ∷ []
unfolding computing
up_at_the_first = refl

-- back from the first column of the first row, to the last column of that row
pub back_at_the_first : strokes_in (scrolling ++ Position 2 1 ∷ commands.Back ∷ Graphic 0x41 ∷ [])
    ≡ Shift 2 5 Down ∷ put 2 40 0x41 ∷ []
unfolding computing
back_at_the_first = refl

-- forward from the last column of the last row
pub forward_at_the_last : strokes_in (scrolling ++ Position 5 40 ∷ commands.Forward ∷ Graphic 0x41 ∷ [])
    ≡ Shift 2 5 Up ∷ put 5 1 0x41 ∷ []
unfolding computing
forward_at_the_last = refl

-- and after a marker
pub marker_scrolls : strokes_in (scrolling ++ commands.DesignateC1 Serial ∷ Position 5 40 ∷ commands.C1 30 ∷ [])
    ≡ Put (record { row = 5; column = 40 }) (record { what = whats.Marker Hold; protected = false }) ∷ Shift 2 5 Up ∷ []
marker_scrolls = refl

-- every other row is gone past as without an area: into it, through it and out of it
pub no_edge : strokes_in (scrolling ++ Position 1 40 ∷ Graphic 0x41 ∷ Position 3 40 ∷ Graphic 0x42 ∷ Position 6 1
    ∷ commands.Up ∷ Position 24 1 ∷ commands.Down ∷ Position 1 1 ∷ commands.Up ∷ [])
    ≡ put 1 40 0x41 ∷ put 3 40 0x42 ∷ []
unfolding computing
no_edge = refl

-- an area of one row frees it
pub one_row : strokes_in (AreaCreate 3 3 ∷ Implicit true ∷ Position 3 1 ∷ Graphic 0x41 ∷ commands.Down ∷ Graphic 0x42
    ∷ []) ≡ put 3 1 0x41 ∷ Shift 3 3 Up ∷ put 3 2 0x42 ∷ []
unfolding computing
one_row = refl

-- copies of a sign with a shift between them
pub copies_scroll : strokes_in (AreaCreate 2 3 ∷ Implicit true ∷ Position 3 38 ∷ Graphic 0x41 ∷ Repeat 3 ∷ [])
    ≡ put 3 38 0x41 ∷ put 3 39 0x41 ∷ put 3 40 0x41 ∷ Shift 2 3 Up ∷ put 3 1 0x41 ∷ []
unfolding computing
copies_scroll = refl

-- ---- which areas scroll

-- without implicit scrolling motions scroll none, and the code that scrolls does
pub by_code_alone : strokes_in (AreaCreate 2 5 ∷ Position 5 1 ∷ commands.Down ∷ commands.ScrollUp ∷ commands.ScrollDown
    ∷ []) ≡ Shift 2 5 Up ∷ Shift 2 5 Down ∷ []
by_code_alone = refl

-- an area that ends past the format isn't in force, and is again with more rows
abbrev pub of_rows : ℕ → ControlState
of_rows rows = record initial_control { rows = rows; area = Some (1, 24); implicit = true }

pub past_the_format : map (λ rows. area_in_force (of_rows rows)) (20 ∷ 24 ∷ []) ≡ None ∷ Some (1, 24) ∷ []
past_the_format = refl

pub not_in_force : map (λ rows. strokes_of (of_rows rows) commands.ScrollUp) (20 ∷ 24 ∷ [])
    ≡ [] ∷ (Shift 1 24 Up ∷ []) ∷ []
not_in_force = refl

-- ---- protected cells

-- a sign doesn't write over one, nor do copies, and the position goes on
abbrev pub guarded : List Command
guarded = Protect true ∷ Graphic 0x41 ∷ Protect false ∷ Graphic 0x42 ∷ commands.Return ∷ Repeat 1 ∷ Graphic 0x43 ∷ []

pub guarded_cell_stays : map (λ c. cell_back (strokes_back (reverse guarded)) 1 c) (1 ∷ 2 ∷ 3 ∷ [])
    ≡ cell 0x41 true ∷ cell 0x43 false ∷ blank_cell ∷ []
unfolding computing
guarded_cell_stays = refl

-- it moves with its row, and goes with the first
abbrev pub shifted : List Command
shifted = AreaCreate 2 5 ∷ Protect true ∷ Position 2 1 ∷ Graphic 0x41 ∷ Position 5 1 ∷ Graphic 0x42 ∷ Protect false
    ∷ commands.ScrollUp ∷ []

pub guarded_cells_move : column_of shifted 1 (1 ∷ 2 ∷ 3 ∷ 4 ∷ 5 ∷ 6 ∷ [])
    ≡ blank_cell ∷ blank_cell ∷ blank_cell ∷ cell 0x42 true ∷ blank_cell ∷ blank_cell ∷ []
unfolding computing
guarded_cells_move = refl

pub guarded_cells_move_down : column_of (shifted ++ commands.ScrollDown ∷ commands.ScrollDown ∷ []) 1
    (2 ∷ 3 ∷ 4 ∷ 5 ∷ 6 ∷ []) ≡ blank_cell ∷ blank_cell ∷ blank_cell ∷ blank_cell ∷ blank_cell ∷ []
unfolding computing
guarded_cells_move_down = refl
