-- Worked tables: what each C1 code, flash mode and StopConceal leaves under the serial set, and what it makes of
-- control, by computing.
use Rattle.std.proofs.Common.{◌≡◌, List, [], ◌∷◌, map, option_map, Some, None, true, false, refl}
use Rattle.std.specs.List.{range_with_len}
use Rattle.cept_codes.specs.declared.attribute.Flash.TheVariants as flashes
use Rattle.cept_codes.specs.declared.attribute.Size.TheVariants.{Normal, High, Wide, Both}
use Rattle.cept_codes.specs.declared.cell.Marker.{Marker}
use Rattle.cept_codes.specs.declared.cell.Marker.TheVariants.{Alpha, Mosaic, BlackBack, NewBack, Hold, Release}
use Rattle.cept_codes.specs.declared.cell.Marker.TheVariants.{Flash, Conceal, Lined, Boxed, Size}
use Rattle.cept_codes.specs.declared.cell.What.TheVariants as whats
use Rattle.cept_codes.specs.declared.command.C1Set.TheVariants.{Serial}
use Rattle.cept_codes.specs.declared.command.Command.{Command}
use Rattle.cept_codes.specs.declared.command.Command.TheVariants as commands
use Rattle.cept_codes.specs.declared.stroke.Stroke.{Stroke}
use Rattle.cept_codes.specs.declared.stroke.Stroke.TheVariants.{Put}
use Rattle.cept_profile.specs.Control.{Working, ControlState, control_after, initial_control, initial_working}
use Rattle.cept_profile.specs.Control.{control_with}
use Rattle.cept_profile.specs.Pens.{c1_function}
use Rattle.cept_profile.specs.Strokes.{strokes_of}

-- ---- the markers of the codes

-- every C1 code from 8/0 to 9/15 with the colour table 1: only 9/11 leaves none
pub markers_of_codes : map (λ n. option_map (λ f. f.1) (c1_function 1 n)) (range_with_len 0 32)
    ≡ Some (Alpha 8) ∷ Some (Alpha 9) ∷ Some (Alpha 10) ∷ Some (Alpha 11) ∷ Some (Alpha 12) ∷ Some (Alpha 13)
    ∷ Some (Alpha 14)
    ∷ Some (Alpha 15) ∷ Some (Flash flashes.Plain) ∷ Some (Flash flashes.Steady) ∷ Some (Boxed false)
    ∷ Some (Boxed true) ∷ Some (Size Normal)
    ∷ Some (Size High) ∷ Some (Size Wide) ∷ Some (Size Both) ∷ Some (Mosaic 8) ∷ Some (Mosaic 9) ∷ Some (Mosaic 10)
    ∷ Some (Mosaic 11) ∷ Some (Mosaic 12)
    ∷ Some (Mosaic 13) ∷ Some (Mosaic 14) ∷ Some (Mosaic 15) ∷ Some (Conceal true) ∷ Some (Lined false)
    ∷ Some (Lined true) ∷ None
    ∷ Some BlackBack ∷ Some NewBack ∷ Some Hold ∷ Some Release ∷ []
markers_of_codes = refl

-- ---- commands under the serial set

-- in row 5, column 40, in a mosaic run with a fast flash, and cells become protected
abbrev pub serial : Working
serial = record initial_working {
  row = 5;
  column = 40;
  c1 = Serial;
  fast = 2;
  run = true;
  step = 2;
  table =
      1;
  protect = true;
}

abbrev pub state_of : Working → ControlState
state_of working = control_with initial_control working

-- what a command makes of control, and its strokes
abbrev pub after : Command → ControlState
after command = control_after (state_of serial) command

abbrev pub strokes_after : Command → List Stroke
strokes_after command = strokes_of (state_of serial) command

-- after the last column the position goes on in the row below
abbrev pub below : Working
below = record serial { row = 6; column = 1 }

abbrev pub left : Marker → List Stroke
left m = Put (record { row = 5; column = 40 }) (record { what = whats.Marker m; protected = true }) ∷ []

-- an alpha colour ends the mosaic run, a mosaic colour begins one, and others leave it; the step stays
pub colours : map after (commands.C1 3 ∷ commands.C1 19 ∷ commands.C1 30 ∷ [])
    ≡ state_of (record below { run = false }) ∷ state_of below ∷ state_of below ∷ []
colours = refl

pub mosaic_begins : control_after (state_of (record serial { run = false })) (commands.C1 19) ≡ state_of below
mosaic_begins = refl

pub markers_left : map strokes_after (commands.C1 3 ∷ commands.C1 19 ∷ commands.C1 30 ∷ [])
    ≡ left (Alpha 11) ∷ left (Mosaic 11) ∷ left Hold ∷ []
markers_left = refl

-- the codes of flash end a fast one
pub flash_codes : map after (commands.C1 8 ∷ commands.C1 9 ∷ [])
    ≡ state_of (record below { fast = 0 }) ∷ state_of (record below { fast = 0 }) ∷ []
flash_codes = refl

-- a size leaves its marker, and the step is as many columns as a sign of it takes
abbrev pub size_codes : List Command
size_codes = commands.C1 12 ∷ commands.C1 13 ∷ commands.C1 14 ∷ commands.C1 15 ∷ []

pub sizes_left : map strokes_after size_codes
    ≡ left (Size Normal) ∷ left (Size High) ∷ left (Size Wide) ∷ left (Size Both) ∷ []
sizes_left = refl

pub steps_of_sizes : map after size_codes ≡
    state_of (record below { step = 1 }) ∷ state_of (record below { step = 1 }) ∷ state_of below ∷ state_of below ∷ []
steps_of_sizes = refl

-- also from step 1, and within a row
pub steps_within_a_row : map (control_after (state_of (record serial { column = 3; step = 1 }))) size_codes ≡
    state_of (record serial { column = 4; step = 1 }) ∷ state_of (record serial { column = 4; step = 1 })
    ∷ state_of (record serial { column = 4 }) ∷ state_of (record serial { column = 4 }) ∷ []
steps_within_a_row = refl

-- each flash mode leaves its marker and its fast flash
pub flash_modes : map (λ k. strokes_after (commands.FlashMode k)) (range_with_len 0 7)
    ≡ left (Flash flashes.Inverted) ∷ left (Flash flashes.Reduced) ∷ left (Flash flashes.Fast1)
    ∷ left (Flash flashes.Fast2)
    ∷ left (Flash flashes.Fast3) ∷ left (Flash flashes.Fast3) ∷ left (Flash flashes.Fast1) ∷ []
flash_modes = refl

pub fast_after_modes : map (λ k. (after (commands.FlashMode k)).working.fast) (range_with_len 0 7)
    ≡ 0 ∷ 0 ∷ 1 ∷ 2 ∷ 3 ∷ 3 ∷ 1 ∷ []
fast_after_modes = refl

pub flash_moves : after (commands.FlashMode 4) ≡ state_of (record below { fast = 3 })
flash_moves = refl

-- StopConceal leaves a marker
pub reveal : strokes_after commands.StopConceal ≡ left (Conceal false)
reveal = refl

pub reveal_moves : after commands.StopConceal ≡ state_of below
reveal_moves = refl
