-- Markers: what a control function leaves in its cell under the serial set (ETS 300 072 and T/CD 6-1, the serial
-- supplementary control functions; when the mosaic run begins and ends, and how far signs move on after a size, is this
-- profile's own).
use Rattle.std.specs.Prelude.{ℕ, Bool, true, false, List}
use Rattle.cept_codes.specs.declared.cell.Marker.{Marker}
use Rattle.cept_codes.specs.declared.cell.Marker.TheVariants as markers
use Rattle.cept_codes.specs.declared.cell.What.TheVariants as whats
use Rattle.cept_codes.specs.declared.stroke.Stroke.{Stroke}
use Rattle.cept_profile.specs.Motions.{put}
use Rattle.cept_profile.specs.Tiling.{columns_of_size}
use Rattle.cept_profile.specs.Working.{Working, ControlState}

-- whether left bytes are mosaics after a marker: a mosaic colour begins the run, an alpha colour ends it
abbrev pub run_after : Marker → Bool → Bool
run_after (markers.Mosaic e) run = true
run_after (markers.Alpha e) run = false
run_after _ run = run

-- how far signs move on after a marker: after a size as many columns as a sign of it takes
abbrev pub step_after : Marker → ℕ → ℕ
step_after (markers.Size size) step = columns_of_size size
step_after _ step = step

-- a marker is left in its cell, and the mosaic run and the step are as it says
abbrev pub effect_of_marker : ControlState → Marker → Working × List Stroke
effect_of_marker s m =
    let made = put s (whats.Marker m) 1 in
    (record made.0 { run = run_after m s.working.run; step = step_after m s.working.step }, made.1)
