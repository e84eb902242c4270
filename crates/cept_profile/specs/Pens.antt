-- Pens: the attributes that go with each sign under the parallel set (T/CD 6-1, the parallel supplementary control
-- functions), and the markers that the same functions leave under the serial set (ETS 300 072 and T/CD 6-1, the serial
-- supplementary control functions). The table, what each code does and leaves, flash modes, and attributes of rows and of
-- the screen are this profile's own.
use Rattle.std.specs.Prelude.{ℕ, ◌+◌, ◌-◌, ◌*◌, Bool, true, false, Option, Some, None, List, [], nat_lt, nat_le}
use Rattle.std.specs.Prelude.{◌==◌, if◌then◌else◌}
use Rattle.cept_codes.specs.declared.attribute.Attr.{Attr}
use Rattle.cept_codes.specs.declared.attribute.Attr.TheVariants as attrs
use Rattle.cept_codes.specs.declared.attribute.Flash.{Flash}
use Rattle.cept_codes.specs.declared.attribute.Flash.TheVariants as flashes
use Rattle.cept_codes.specs.declared.attribute.Pen.{Pen}
use Rattle.cept_codes.specs.declared.attribute.Size.{Size}
use Rattle.cept_codes.specs.declared.attribute.Size.TheVariants as sizes
use Rattle.cept_codes.specs.declared.cell.Marker.{Marker}
use Rattle.cept_codes.specs.declared.cell.Marker.TheVariants as markers
use Rattle.cept_codes.specs.declared.command.C1Set.{C1Set}
use Rattle.cept_codes.specs.declared.command.C1Set.TheVariants as c1sets
use Rattle.cept_codes.specs.declared.stroke.Stroke.{Stroke}
use Rattle.cept_profile.specs.Markers.{effect_of_marker}
use Rattle.cept_profile.specs.Working.{Working, ControlState}

-- what a C1 code, counted from 8/0, is with a colour table of eight entries: an attribute under the parallel set, and
-- under the serial set a marker
abbrev pub c1_function : ℕ → ℕ → Option (Attr × Marker)
c1_function table n =
    if nat_lt n 8 then Some (attrs.Fore (8 * table + n), markers.Alpha (8 * table + n)) else
    if n == 8 then Some (attrs.Flash flashes.Plain, markers.Flash flashes.Plain) else
    if n == 9 then Some (attrs.Flash flashes.Steady, markers.Flash flashes.Steady) else
    if n == 10 then Some (attrs.Boxed false, markers.Boxed false) else
    if n == 11 then Some (attrs.Boxed true, markers.Boxed true) else
    if n == 12 then Some (attrs.Size sizes.Normal, markers.Size sizes.Normal) else
    if n == 13 then Some (attrs.Size sizes.High, markers.Size sizes.High) else
    if n == 14 then Some (attrs.Size sizes.Wide, markers.Size sizes.Wide) else
    if n == 15 then Some (attrs.Size sizes.Both, markers.Size sizes.Both) else
    if nat_lt n 24 then Some (attrs.Back (8 * table + (n - 16)), markers.Mosaic (8 * table + (n - 16))) else
    if n == 24 then Some (attrs.Conceal true, markers.Conceal true) else
    if n == 25 then Some (attrs.Lined false, markers.Lined false) else
    if n == 26 then Some (attrs.Lined true, markers.Lined true) else
    if n == 28 then Some (attrs.Invert false, markers.BlackBack) else
    if n == 29 then Some (attrs.Invert true, markers.NewBack) else
    if n == 30 then Some (attrs.NoBack, markers.Hold) else
    if n == 31 then Some (attrs.Conceal false, markers.Release) else
    None

-- a pen with one class set by an attribute, or with no background
abbrev pub pen_with : Attr → Pen → Pen
pen_with (attrs.Fore e) p = record p { fore = Some e }
pen_with (attrs.Back e) p = record p { back = Some e }
pen_with attrs.NoBack p = record p { back = None }
pen_with (attrs.Flash f) p = record p { flash = Some f }
pen_with (attrs.Conceal b) p = record p { conceal = Some b }
pen_with (attrs.Lined b) p = record p { lined = Some b }
pen_with (attrs.Boxed b) p = record p { boxed = Some b }
pen_with (attrs.Size s) p = record p { size = Some s }
pen_with (attrs.Invert b) p = record p { invert = Some b }

-- ---- what an attribute says of each class

-- what an attribute says of the foreground: None where it says nothing
abbrev pub fore_in : Attr → Option (Option ℕ)
fore_in (attrs.Fore e) = Some (Some e)
fore_in _ = None

-- of the background, which NoBack says to be unset
abbrev pub back_in : Attr → Option (Option ℕ)
back_in (attrs.Back e) = Some (Some e)
back_in attrs.NoBack = Some None
back_in _ = None

-- of the flash
abbrev pub flash_in : Attr → Option (Option Flash)
flash_in (attrs.Flash f) = Some (Some f)
flash_in _ = None

-- of conceal
abbrev pub conceal_in : Attr → Option (Option Bool)
conceal_in (attrs.Conceal on) = Some (Some on)
conceal_in _ = None

-- of lining
abbrev pub lined_in : Attr → Option (Option Bool)
lined_in (attrs.Lined on) = Some (Some on)
lined_in _ = None

-- of the box
abbrev pub boxed_in : Attr → Option (Option Bool)
boxed_in (attrs.Boxed on) = Some (Some on)
boxed_in _ = None

-- of the size
abbrev pub size_in : Attr → Option (Option Size)
size_in (attrs.Size size) = Some (Some size)
size_in _ = None

-- of the polarity
abbrev pub invert_in : Attr → Option (Option Bool)
invert_in (attrs.Invert on) = Some (Some on)
invert_in _ = None

-- ---- codes

-- the fast flash that a flash mode leaves in force, 0 for none: 2, 3 and 4 name one; 5 takes the next in the circle 1, 2,
-- 3, of none the first, and 6 the one before, of none the last
abbrev pub fast_after : ℕ → ℕ → ℕ
fast_after mode fast =
    if mode == 5 then (if fast == 3 then 1 else fast + 1) else
    if mode == 6 then (if nat_le fast 1 then 3 else fast - 1) else
    if nat_lt mode 5 then mode - 1 else 0

-- the flash of a flash mode
abbrev pub flash_of : ℕ → ℕ → Flash
flash_of mode fast =
    if mode == 0 then flashes.Inverted else
    if mode == 1 then flashes.Reduced else
    if fast_after mode fast == 1 then flashes.Fast1 else
    if fast_after mode fast == 2 then flashes.Fast2 else flashes.Fast3

-- a control function: under the parallel set the pen takes its attribute, under the serial set its marker is left; after
-- it this fast flash is in force
abbrev pub effect_of_function : C1Set → Option (Attr × Marker) → ℕ → ControlState → Working × List Stroke
effect_of_function c1sets.Parallel (Some function) fast s =
    (record s.working { pen = pen_with function.0 s.working.pen; fast = fast }, [])
effect_of_function c1sets.Serial (Some function) fast s =
    let left = effect_of_marker s function.1 in (record left.0 { fast = fast }, left.1)
effect_of_function _ None fast s = (record s.working { fast = fast }, [])
