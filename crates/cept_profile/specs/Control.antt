-- Control: what each command makes of the state of the decoder beside the page (T/CD 6-1, the C0 control functions; code
-- extension after ISO 2022), and the strokes (own) that it makes on the page. What ends a mosaic run, unsets the pen or drops
-- an accent, that the row of a position is cut to the format, colour tables, and what formats, defaults and services keep are
-- this profile's own.
use Rattle.std.specs.Prelude.{ℕ, Bool, true, false, ◌==◌, ◌&&◌, ◌||◌, Some, None, List, [], ◌∷◌, reverse, map, min}
use Rattle.std.specs.Prelude.{if◌then◌else◌, unwrap_or, option_and_then, option_map, option_to_list}
use Rattle.cept_codes.specs.declared.attribute.Attr.TheVariants as attrs
use Rattle.cept_codes.specs.declared.cell.Marker.TheVariants as markers
use Rattle.cept_codes.specs.declared.command.Command.{Command}
use Rattle.cept_codes.specs.declared.command.Command.TheVariants as commands
use Rattle.cept_codes.specs.declared.command.C1Set.TheVariants as c1sets
use Rattle.cept_codes.specs.declared.command.Up.TheVariants as ways
use Rattle.cept_codes.specs.declared.look.Paint.TheVariants as paints
use Rattle.cept_codes.specs.declared.stroke.Stroke.{Stroke}
use Rattle.cept_codes.specs.declared.stroke.Stroke.TheVariants as strokes
use Rattle.cept_profile.specs.Motions.{above, ahead, area_in_force, back, below, strokes_of_scroll}
use Rattle.cept_profile.specs.Pens.{c1_function, effect_of_function, fast_after, flash_of}
use Rattle.cept_profile.specs.Sets.{sets_with}
use Rattle.cept_profile.specs.Writing.{control_after_shift, effect_of_copies, effect_of_read, graphic_read}
pub use Rattle.cept_profile.specs.Working.{Working, ControlState, Sets, initial_sets, initial_working, initial_control}
pub use Rattle.cept_profile.specs.Working.{control_with, working_afresh, working_at, working_by_default}

-- every command but these takes effect without an accent that waits; the state that a break of the service keeps has it
abbrev pub finds_accent : Command → Bool
finds_accent commands.Nul = true
finds_accent commands.Skipped = true
finds_accent (commands.Graphic byte) = true
finds_accent (commands.ServiceBreak row) = true
finds_accent _ = false

-- and all of these but a break of the service leave it waiting, or make use of it
abbrev pub leaves_accent : Command → Bool
leaves_accent (commands.ServiceBreak row) = false
leaves_accent command = finds_accent command

-- the state in which a command takes effect
abbrev pub state_for_effect : ControlState → Command → ControlState
state_for_effect s command =
    control_with s (if finds_accent command then s.working else record s.working { accent = None })

-- the state with what a command makes of its working state, and the strokes
abbrev pub works : ControlState → Working × List Stroke → ControlState × List Stroke
works s made = (control_with s made.0, made.1)

-- the mosaic run is over, and signs move on by one column again
abbrev pub without_run : Working × List Stroke → Working × List Stroke
without_run made = (record made.0 { run = false; step = 1 }, made.1)

-- the state after a command that takes effect in this state, and the strokes that it makes. An attribute of screen or row has
-- its parallel meaning under either C1 set, and a service keeps the state before its first break
abbrev pub effect : ControlState → Command → ControlState × List Stroke
effect s commands.Back = works s (without_run (back s))
effect s commands.Forward = works s (without_run (ahead s 1))
effect s commands.Down = works s (without_run (below s s.working.column))
effect s commands.Up = works s (without_run (above s s.working.column))
effect s commands.Return = works s (without_run (working_at s.working.row 1 s.working, []))
effect s commands.Home = works s (working_afresh 1 1 s.working, [])
effect s commands.Clear = works s (working_afresh 1 1 s.working, strokes.Wipe ∷ [])
effect s (commands.Position r c) = works s (working_afresh (min r s.rows) c s.working, [])
effect s (commands.LockLeft g) = works s (record s.working { sets = record s.working.sets { left = g } }, [])
effect s (commands.LockRight g) = works s (record s.working { sets = record s.working.sets { right = g } }, [])
effect s (commands.Single g) = works s (record s.working { sets = record s.working.sets { single = Some g } }, [])
effect s (commands.Designate g set) = works s (record s.working { sets = sets_with s.working.sets g set }, [])
effect s (commands.Graphic byte) = works s (effect_of_read (control_after_shift s) (graphic_read s byte))
-- the last sign, if there is one, is written n times
effect s (commands.Repeat n) =
    works s (unwrap_or (option_map (λ g. effect_of_copies n s g) s.working.last) (s.working, []))
effect s commands.Cancel = (s, strokes.Erase s.working.row s.working.column ∷ [])
-- the codes of flash end a fast one
effect s (commands.C1 n) =
    works s (effect_of_function s.working.c1 (c1_function s.working.table n) (if n == 8 || n == 9 then 0 else s.working.fast) s)
effect s (commands.FlashMode k) =
    let flash = flash_of k s.working.fast in
    works s (effect_of_function s.working.c1 (Some (attrs.Flash flash, markers.Flash flash)) (fast_after k s.working.fast) s)
effect s commands.StopConceal =
    works s (effect_of_function s.working.c1 (Some (attrs.Conceal false, markers.Conceal false)) s.working.fast s)
effect s (commands.DesignateC1 set) = works s (without_run (record s.working { c1 = set }, []))
effect s (commands.Table k) = works s (record s.working { table = k }, [])
effect s (commands.Protect on) = works s (record s.working { protect = on }, [])
effect s (commands.FullScreen n) =
    (s, map (λ function. strokes.ScreenAttr function.0) (option_to_list (c1_function s.working.table n)))
effect s (commands.FullRow n) =
    (s, map (λ function. strokes.RowAttr s.working.row function.0) (option_to_list (c1_function s.working.table n)))
effect s commands.ColourDefaults = (s, strokes.ColourDefaults ∷ [])
effect s (commands.Entry i colour) = (s, strokes.Colour i (paints.Ink colour) ∷ [])
effect s (commands.Dclut i entry) = (s, strokes.Dclut i entry ∷ [])
effect s (commands.DrcsHeader delete form) = (s, if delete then strokes.DrcsClear ∷ [] else [])
effect s (commands.DrcsPattern code pattern) = (s, strokes.Drcs code pattern ∷ [])
effect s (commands.Implicit on) = (record s { implicit = on }, [])
effect s (commands.Revision revision) = (record s { revision = revision }, [])
effect s (commands.AreaCreate first last) = (record s { area = Some (first, last) }, [])
-- the area is deleted by its own rows alone
effect s (commands.AreaDelete first last) =
    (record s { area = option_and_then (λ (a : ℕ × ℕ). if a.0 == first && a.1 == last then None else Some a) s.area }, [])
effect s commands.ScrollUp = (s, strokes_of_scroll s ways.Up (area_in_force s))
effect s commands.ScrollDown = (s, strokes_of_scroll s ways.Down (area_in_force s))
effect s (commands.Format rows wrap) =
    (record s { working = working_afresh 1 1 s.working; rows = rows; wrap = wrap }, strokes.Format rows ∷ strokes.Wipe ∷ [])
effect s (commands.ControlDefaults set) = works s (working_by_default set s.working, [])
effect s (commands.FullDefaults set) =
    let all = strokes.Format 24 ∷ strokes.Wipe ∷ strokes.ScreenClear ∷ strokes.ColourDefaults ∷ strokes.DrcsClear ∷ [] in
    (record initial_control { working = record initial_working { c1 = set } }, all)
effect s (commands.ServiceBreak row) =
    let w = working_at (min row s.rows) 1 (working_by_default c1sets.Parallel s.working) in
    (record s { working = w; kept = Some (unwrap_or s.kept s.working) }, [])
-- what was kept comes back, its row cut to the format, and nothing is kept
effect s commands.ServiceEnd =
    (unwrap_or (option_map (λ w. record s { working = working_at (min w.row s.rows) w.column w; kept = None }) s.kept) s, [])
-- all others leave control as it is, and make no strokes
effect s _ = (s, [])

-- the state after one more command
abbrev pub control_after : ControlState → Command → ControlState
control_after s command = (effect (state_for_effect s command) command).0

-- the state after the commands, the newest first
abbrev pub control_back : List Command → ControlState
control_back [] = initial_control
control_back (command ∷ earlier) = control_after (control_back earlier) command

-- the state after the commands in their order
abbrev pub control : List Command → ControlState
control history = control_back (reverse history)
