-- Moved rows (own): which rows a stroke moves, and the row before strokes of which a row after them came.
use Rattle.std.specs.Prelude.{ℕ, ◌+◌, ◌-◌, ◌&&◌, ◌==◌, Option, Some, None, List, [], ◌∷◌, nat_le, option_and_then}
use Rattle.std.specs.Prelude.{if◌then◌else◌}
use Rattle.cept_codes.specs.declared.command.Up.{Up}
use Rattle.cept_codes.specs.declared.command.Up.TheVariants as ways
use Rattle.cept_codes.specs.declared.stroke.Stroke.{Stroke}
use Rattle.cept_codes.specs.declared.stroke.Stroke.TheVariants as strokes

-- rows that move: all from the first to the last, one row up or one row down
pub record MovedRows : Type 0 where
  pub first : ℕ
  pub last : ℕ
  pub way : Up

-- the rows that a stroke moves, where it moves any
abbrev pub moved_rows : Stroke → Option MovedRows
moved_rows (strokes.Shift first last way) = Some (record { first = first; last = last; way = way })
moved_rows (strokes.Carry first last way) = Some (record { first = first; last = last; way = way })
-- any other moves none
moved_rows _ = None

-- of which row what is in row r of moved rows came: of the one below where they go up, of the one above where they go
-- down; the last comes free where they go up, the first where they go down
abbrev pub row_within : Up → ℕ → ℕ → ℕ → Option ℕ
row_within ways.Up first last r = if r == last then None else Some (r + 1)
row_within ways.Down first last r = if r == first then None else Some (r - 1)

-- of which row what is in row r came, or none where it came free; rows that don't move stay
abbrev pub row_before_move : Option MovedRows → ℕ → Option ℕ
row_before_move None r = Some r
row_before_move (Some moved) r =
    if nat_le moved.first r && nat_le r moved.last then row_within moved.way moved.first moved.last r else Some r

-- the row before the strokes, in order, of which row r after them came, or none where it was freed
unfoldable pub row_before : List Stroke → ℕ → Option ℕ
row_before [] r = Some r
row_before (stroke ∷ more) r = option_and_then (row_before_move (moved_rows stroke)) (row_before more r)
