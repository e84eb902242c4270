-- Worked cases: how far signs of each size and markers move on, by computing. Each list has the row and the column of
-- every sign and marker in turn.
use Rattle.cept_profile.proofs.WhatComputes.{computing}
use Rattle.std.proofs.Common.{◌≡◌, ℕ, List, [], ◌∷◌, map, flat_map, Some, None, false, refl}
use Rattle.std.specs.List.{range_with_len}
use Rattle.cept_codes.specs.declared.attribute.Size.TheVariants.{Wide}
use Rattle.cept_codes.specs.declared.cell.Marker.TheVariants as markers
use Rattle.cept_codes.specs.declared.cell.What.TheVariants as whats
use Rattle.cept_codes.specs.declared.command.C1Set.TheVariants.{Serial, Parallel}
use Rattle.cept_codes.specs.declared.command.Command.{Command}
use Rattle.cept_codes.specs.declared.command.Command.TheVariants.{Graphic, Position, Clear, Home, Return, Back, Forward}
use Rattle.cept_codes.specs.declared.command.Command.TheVariants.{Down, Up, Cancel, Repeat, C1, DesignateC1}
use Rattle.cept_codes.specs.declared.glyph.SetId.TheVariants.{P}
use Rattle.cept_codes.specs.declared.stroke.Stroke.{Stroke}
use Rattle.cept_codes.specs.declared.stroke.Stroke.TheVariants as strokes
use Rattle.cept_codes.specs.Attribute.{unset_pen}
use Rattle.cept_codes.specs.Cell.{blank_cell}
use Rattle.cept_codes.specs.Table.{value_at}
use Rattle.cept_profile.specs.Control.{
  ControlState,
  initial_control,
  initial_working,
  control,
  control_after,
  working_at,
}
use Rattle.cept_profile.specs.State.{state}
use Rattle.cept_profile.specs.Strokes.{strokes_in}

-- where a stroke puts something
abbrev pub place_of : Stroke → List (ℕ × ℕ)
place_of (strokes.Put p cell) = (p.row, p.column) ∷ []
place_of _ = []

-- where commands put something, in turn
abbrev pub placed : List Command → List (ℕ × ℕ)
placed history = flat_map place_of (strokes_in history)

-- where they leave the position
abbrev pub position_after : List Command → ℕ × ℕ
position_after history = ((control history).working.row, (control history).working.column)

-- two signs
abbrev pub two_signs : List Command
two_signs = Graphic 0x41 ∷ Graphic 0x42 ∷ []

-- ---- under the parallel set

abbrev pub wide_sign : ℕ → ℕ → Stroke
wide_sign column code =
    strokes.Put (record { row = 1; column = column })
    (record {
      what = whats.Parallel (record { set = P; code = code; accent = 0 }) (record unset_pen { size = Some Wide });
      protected = false;
    })

pub two_wide_signs : strokes_in (C1 14 ∷ two_signs) ≡ wide_sign 1 0x41 ∷ wide_sign 3 0x42 ∷ []
unfolding computing
two_wide_signs = refl

pub after_two_wide_signs : position_after (C1 14 ∷ two_signs) ≡ (1, 5)
unfolding computing
after_two_wide_signs = refl

-- single size, high, wide, and both: at first, and after a wide sign
pub by_size : map (λ n. placed (C1 n ∷ two_signs)) (range_with_len 12 4) ≡
    ((1, 1) ∷ (1, 2) ∷ []) ∷ ((1, 1) ∷ (1, 2) ∷ []) ∷ ((1, 1) ∷ (1, 3) ∷ []) ∷ ((1, 1) ∷ (1, 3) ∷ []) ∷ []
unfolding computing
by_size = refl

pub by_size_after_a_wide_sign : map (λ n. placed (C1 14 ∷ Graphic 0x40 ∷ C1 n ∷ two_signs)) (range_with_len 12 4) ≡
    ((1, 1) ∷ (1, 3) ∷ (1, 4) ∷ []) ∷ ((1, 1) ∷ (1, 3) ∷ (1, 4) ∷ [])
    ∷ ((1, 1) ∷ (1, 3) ∷ (1, 5) ∷ []) ∷ ((1, 1) ∷ (1, 3) ∷ (1, 5) ∷ []) ∷ []
unfolding computing
by_size_after_a_wide_sign = refl

-- from column 38 a wide sign goes on in column 40, from columns 39 and 40 in the row below
pub at_the_end_of_a_row : map (λ column. placed (Position 1 column ∷ C1 14 ∷ two_signs)) (range_with_len 38 3) ≡
    ((1, 38) ∷ (1, 40) ∷ []) ∷ ((1, 39) ∷ (2, 1) ∷ []) ∷ ((1, 40) ∷ (2, 1) ∷ []) ∷ []
unfolding computing
at_the_end_of_a_row = refl

pub at_the_end_of_the_last_row : placed (Position 24 39 ∷ C1 15 ∷ two_signs) ≡ (24, 39) ∷ (1, 1) ∷ []
unfolding computing
at_the_end_of_the_last_row = refl

-- without wrap it stops in the last column
abbrev pub unwrapped : ℕ → ControlState
unwrapped column = record initial_control {
  working = working_at 3 column (record initial_working { pen = record unset_pen { size = Some Wide } });
  wrap = false;
}

pub stopped_in_the_last_column :
    map (λ column. (control_after (unwrapped column) (Graphic 0x41)).working.column) (range_with_len 37 4)
    ≡ 39 ∷ 40 ∷ 40 ∷ 40 ∷ []
unfolding computing
stopped_in_the_last_column = refl

-- copies of a wide sign are wide, and copies of any sign take the pen of their own time
pub copies_of_a_wide_sign : placed (Position 1 35 ∷ C1 14 ∷ Graphic 0x41 ∷ Repeat 3 ∷ [])
    ≡ (1, 35) ∷ (1, 37) ∷ (1, 39) ∷ (2, 1) ∷ []
unfolding computing
copies_of_a_wide_sign = refl

pub copies_after_a_size : placed (Graphic 0x41 ∷ C1 14 ∷ Repeat 2 ∷ Graphic 0x42 ∷ [])
    ≡ (1, 1) ∷ (1, 2) ∷ (1, 4) ∷ (1, 6) ∷ []
unfolding computing
copies_after_a_size = refl

-- what ends a run keeps the size of the pen, but where the pen is unset: by Home, Clear and Position
abbrev pub ends_of_a_run : List Command
ends_of_a_run =
    Return ∷ Back ∷ Forward ∷ Down ∷ Up ∷ DesignateC1 Parallel ∷ DesignateC1 Serial ∷ Home ∷ Clear ∷ Position 1 1 ∷ []

pub size_of_the_pen : map (λ (command : Command). (control (C1 14 ∷ command ∷ [])).working.pen.size)
    (Cancel ∷ ends_of_a_run) ≡
    Some Wide ∷ Some Wide ∷ Some Wide ∷ Some Wide ∷ Some Wide ∷ Some Wide ∷ Some Wide ∷ Some Wide ∷ None ∷ None
    ∷ None ∷ []
size_of_the_pen = refl

pub return_keeps_the_size : placed (C1 14 ∷ Graphic 0x40 ∷ Return ∷ two_signs) ≡ (1, 1) ∷ (1, 1) ∷ (1, 3) ∷ []
unfolding computing
return_keeps_the_size = refl

-- ---- under the serial set, from the designation on

abbrev pub placed_serially : List Command → List (ℕ × ℕ)
placed_serially history = placed (DesignateC1 Serial ∷ history)

-- single size, high, wide, and both: the marker, then the signs
pub by_size_marker : map (λ n. placed_serially (C1 n ∷ two_signs)) (range_with_len 12 4) ≡
    ((1, 1) ∷ (1, 2) ∷ (1, 3) ∷ []) ∷ ((1, 1) ∷ (1, 2) ∷ (1, 3) ∷ [])
    ∷ ((1, 1) ∷ (1, 2) ∷ (1, 4) ∷ []) ∷ ((1, 1) ∷ (1, 2) ∷ (1, 4) ∷ []) ∷ []
unfolding computing
by_size_marker = refl

-- a marker moves on by one column
pub marker_after_a_size : placed_serially (C1 14 ∷ C1 1 ∷ two_signs) ≡ (1, 1) ∷ (1, 2) ∷ (1, 3) ∷ (1, 5) ∷ []
unfolding computing
marker_after_a_size = refl

-- a single size makes the step 1 again
pub single_size_after_a_wide_sign : placed_serially (C1 14 ∷ Graphic 0x40 ∷ C1 12 ∷ two_signs)
    ≡ (1, 1) ∷ (1, 2) ∷ (1, 4) ∷ (1, 5) ∷ (1, 6) ∷ []
unfolding computing
single_size_after_a_wide_sign = refl

-- the step lives on over the end of a row
pub over_the_end_of_a_row : placed_serially (Position 1 38 ∷ C1 14 ∷ Graphic 0x40 ∷ two_signs)
    ≡ (1, 38) ∷ (1, 39) ∷ (2, 1) ∷ (2, 3) ∷ []
unfolding computing
over_the_end_of_a_row = refl

pub copies_under_a_size_marker : placed_serially (C1 15 ∷ Graphic 0x41 ∷ Repeat 2 ∷ [])
    ≡ (1, 1) ∷ (1, 2) ∷ (1, 4) ∷ (1, 6) ∷ []
unfolding computing
copies_under_a_size_marker = refl

-- CAN keeps the step, and what ends a run makes it 1
pub step_after_each : map (λ (command : Command). (control (DesignateC1 Serial ∷ C1 14 ∷ command ∷ [])).working.step)
    (Cancel ∷ ends_of_a_run) ≡ 2 ∷ 1 ∷ 1 ∷ 1 ∷ 1 ∷ 1 ∷ 1 ∷ 1 ∷ 1 ∷ 1 ∷ 1 ∷ []
step_after_each = refl

pub cancel_keeps_the_step : placed_serially (C1 14 ∷ Cancel ∷ two_signs) ≡ (1, 1) ∷ (1, 2) ∷ (1, 4) ∷ []
unfolding computing
cancel_keeps_the_step = refl

-- after Return signs move on by one column, while the size marker stays in its cell
abbrev pub returned : List Command
returned = DesignateC1 Serial ∷ C1 14 ∷ Graphic 0x40 ∷ Return ∷ Forward ∷ two_signs

pub return_makes_the_step_one : placed returned ≡ (1, 1) ∷ (1, 2) ∷ (1, 2) ∷ (1, 3) ∷ []
unfolding computing
return_makes_the_step_one = refl

pub return_leaves_the_marker : value_at blank_cell (state returned).page.cells 1 1
    ≡ record { what = whats.Marker (markers.Size Wide); protected = false }
unfolding computing
return_leaves_the_marker = refl

-- the size of the pen counts for nothing
pub pen_counts_for_nothing : placed (C1 14 ∷ DesignateC1 Serial ∷ two_signs) ≡ (1, 1) ∷ (1, 2) ∷ []
unfolding computing
pen_counts_for_nothing = refl
