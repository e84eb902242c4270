-- Effects by halves: what each makes of control, and its strokes.
use Rattle.std.proofs.Common.{ℕ, false, ◌&&◌, cond, eqb, min, Option, Some, None, unwrap_or, option_map, List, []}
use Rattle.std.specs.Prelude.{option_and_then}
use Rattle.cept_codes.specs.declared.attribute.Attr.{Attr}
use Rattle.cept_codes.specs.declared.attribute.Attr.TheVariants as attrs
use Rattle.cept_codes.specs.declared.attribute.Flash.{Flash}
use Rattle.cept_codes.specs.declared.cell.Marker.{Marker}
use Rattle.cept_codes.specs.declared.cell.Marker.TheVariants as markers
use Rattle.cept_codes.specs.declared.command.C1Set.{C1Set}
use Rattle.cept_codes.specs.declared.command.Command.{Command}
use Rattle.cept_codes.specs.declared.glyph.Glyph.{Glyph}
use Rattle.cept_codes.specs.declared.glyph.Read.{Read}
use Rattle.cept_codes.specs.declared.stroke.Stroke.{Stroke}
use Rattle.cept_profile.specs.Control.{Working, ControlState, control_with, effect, working_at}
use Rattle.cept_profile.specs.Markers.{effect_of_marker}
use Rattle.cept_profile.specs.Motions.{above, ahead, back, below}
use Rattle.cept_profile.specs.Pens.{effect_of_function}
use Rattle.cept_profile.specs.Writing.{columns_under, effect_of_copies, effect_of_read, effect_of_sign}

-- ---- commands

abbrev pub control_effect : ControlState → Command → ControlState
control_effect s command = (effect s command).0

abbrev pub strokes_when : ControlState → Command → List Stroke
strokes_when s command = (effect s command).1

-- the state after a service that kept this
abbrev pub control_after_service : ControlState → Option Working → ControlState
control_after_service s kept =
    unwrap_or (option_map (λ w. record s { working = working_at (min w.row s.rows) w.column w; kept = None }) kept) s

-- an area after these rows were deleted
abbrev pub area_without : ℕ → ℕ → Option (ℕ × ℕ) → Option (ℕ × ℕ)
area_without first last area =
    option_and_then (λ (a : ℕ × ℕ). cond (eqb a.0 first && eqb a.1 last) None (Some a)) area

-- ---- control functions and markers

-- what a flash mode and StopConceal are
abbrev pub flashing : Flash → Option (Attr × Marker)
flashing flash = Some (attrs.Flash flash, markers.Flash flash)

abbrev pub revealing : Option (Attr × Marker)
revealing = Some (attrs.Conceal false, markers.Conceal false)

abbrev pub working_after_function : C1Set → Option (Attr × Marker) → ℕ → ControlState → Working
working_after_function c1 function fast s = (effect_of_function c1 function fast s).0

abbrev pub strokes_of_function : C1Set → Option (Attr × Marker) → ℕ → ControlState → List Stroke
strokes_of_function c1 function fast s = (effect_of_function c1 function fast s).1

abbrev pub working_after_marker : ControlState → Marker → Working
working_after_marker s m = (effect_of_marker s m).0

abbrev pub strokes_of_marker : ControlState → Marker → List Stroke
strokes_of_marker s m = (effect_of_marker s m).1

-- ---- signs

-- how many columns a sign that is written in this state moves on
abbrev pub columns_of_sign : ControlState → ℕ
columns_of_sign s = columns_under s.working.c1 s.working

abbrev pub working_after_sign : ControlState → Glyph → Working
working_after_sign s g = (effect_of_sign s g).0

abbrev pub strokes_of_sign : ControlState → Glyph → List Stroke
strokes_of_sign s g = (effect_of_sign s g).1

abbrev pub working_after_read : ControlState → Read → Working
working_after_read s read = (effect_of_read s read).0

abbrev pub strokes_of_read : ControlState → Read → List Stroke
strokes_of_read s read = (effect_of_read s read).1

abbrev pub control_after_copies : ℕ → ControlState → Glyph → ControlState
control_after_copies n s g = control_with s (effect_of_copies n s g).0

abbrev pub strokes_of_copies : ℕ → ControlState → Glyph → List Stroke
strokes_of_copies n s g = (effect_of_copies n s g).1

-- the last sign, if there is one, is written n times
abbrev pub effect_of_repeat : ℕ → ControlState → Option Glyph → Working × List Stroke
effect_of_repeat n s last = unwrap_or (option_map (λ g. effect_of_copies n s g) last) (s.working, [])

abbrev pub working_after_repeat : ℕ → ControlState → Option Glyph → Working
working_after_repeat n s last = (effect_of_repeat n s last).0

abbrev pub strokes_of_repeat : ℕ → ControlState → Option Glyph → List Stroke
strokes_of_repeat n s last = (effect_of_repeat n s last).1

-- ---- motions

abbrev pub working_below : ControlState → ℕ → Working
working_below s c = (below s c).0

abbrev pub below_strokes : ControlState → ℕ → List Stroke
below_strokes s c = (below s c).1

abbrev pub working_above : ControlState → ℕ → Working
working_above s c = (above s c).0

abbrev pub above_strokes : ControlState → ℕ → List Stroke
above_strokes s c = (above s c).1

abbrev pub working_ahead : ControlState → ℕ → Working
working_ahead s n = (ahead s n).0

abbrev pub on_strokes : ControlState → ℕ → List Stroke
on_strokes s n = (ahead s n).1

abbrev pub working_back : ControlState → Working
working_back s = (back s).0

abbrev pub back_strokes : ControlState → List Stroke
back_strokes s = (back s).1
