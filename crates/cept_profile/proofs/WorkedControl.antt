-- Worked tables: what each command changes of control, and which strokes it makes, by computing. A row that says only
-- that a waiting accent is dropped is of a command that changes nothing else of control.
use Rattle.cept_profile.proofs.WhatComputes.{computing}
use Rattle.std.proofs.Common.{◌≡◌, ℕ, List, [], ◌∷◌, ◌++◌, map, Option, Some, None, Bool, true, false, refl}
use Rattle.cept_codes.specs.declared.attribute.Attr.{Attr}
use Rattle.cept_codes.specs.declared.attribute.Attr.TheVariants as attrs
use Rattle.cept_codes.specs.declared.attribute.Flash.TheVariants.{Fast2, Plain, Reduced, Steady}
use Rattle.cept_codes.specs.declared.attribute.Pen.{Pen}
use Rattle.cept_codes.specs.declared.attribute.Size.TheVariants.{High}
use Rattle.cept_codes.specs.declared.cell.What.TheVariants as whats
use Rattle.cept_codes.specs.declared.command.C1Set.{C1Set}
use Rattle.cept_codes.specs.declared.command.C1Set.TheVariants.{Serial, Parallel}
use Rattle.cept_codes.specs.declared.command.Command.{Command}
use Rattle.cept_codes.specs.declared.command.Command.TheVariants as commands
use Rattle.cept_codes.specs.declared.command.Form.{Form}
use Rattle.cept_codes.specs.declared.glyph.Glyph.{Glyph}
use Rattle.cept_codes.specs.declared.glyph.SetId.TheVariants.{P, S, M, N, D}
use Rattle.cept_codes.specs.declared.look.Paint.TheVariants.{Ink}
use Rattle.cept_codes.specs.declared.look.Pattern.{Pattern}
use Rattle.cept_codes.specs.declared.look.Rgb.{Rgb}
use Rattle.cept_codes.specs.declared.stroke.Stroke.{Stroke}
use Rattle.cept_codes.specs.declared.stroke.Stroke.TheVariants.{Put, Erase, Wipe, RowAttr, ScreenAttr, Colour}
use Rattle.cept_codes.specs.declared.stroke.Stroke.TheVariants.{Carry, ColourDefaults, Dclut, Drcs, DrcsClear, Format, ScreenClear, Shift}
use Rattle.cept_codes.specs.declared.command.Up.TheVariants.{Down, Up}
use Rattle.cept_codes.specs.Attribute.{unset_pen}
use Rattle.cept_profile.specs.Control.{Working, ControlState, Sets, control_after, initial_control, initial_working}
use Rattle.cept_profile.specs.State.{core_of, blank_page}
use Rattle.cept_profile.specs.Strokes.{strokes_of}

-- ---- a state with everything in use

abbrev pub sign : ℕ → ℕ → Glyph
sign code accent = record { set = P; code = code; accent = accent }

abbrev pub pen : Pen
pen = record unset_pen { fore = Some 3; flash = Some Fast2 }

abbrev pub sets : Sets
sets = record { g0 = P; g1 = M; g2 = S; g3 = N; left = 0; right = 2; single = None }

-- in row 5, column 7: an accent waits, a sign was written, a pen is set, a fast flash and a mosaic run are on
abbrev pub busy : Working
busy = record {
  row = 5;
  column = 7;
  c1 = Parallel;
  sets = sets;
  accent = Some 0x48;
  last = Some (sign 0x42 0);
  pen = pen;
  fast = 2;
  run = true;
  step = 2;
  table = 1;
  protect = true;
}

-- a state of 20 rows with an area and implicit scrolling, under the second revision
abbrev pub state_with : Bool → Working → ControlState
state_with wrap working = record
    { working = working; rows = 20; wrap = wrap; area = Some (3, 9); implicit = true; revision = 2; kept = None }

-- the working state after a command, with wrap
abbrev pub after : Working → Command → ControlState
after working command = control_after (state_with true working) command

-- ---- what commands do to the working state

-- no accent waits
abbrev pub dropped : Working
dropped = record busy { accent = None }

-- the position, with no run
abbrev pub moved : ℕ → ℕ → Working
moved row column = record dropped { row = row; column = column; run = false; step = 1 }

-- the position, with no run and no pen
abbrev pub fresh : ℕ → ℕ → Working
fresh row column = record (moved row column) { pen = unset_pen; fast = 0 }

-- the same in each row of a table
abbrev pub states : List Working → List ControlState
states all = map (λ (working : Working). state_with true working) all

-- these leave the accent
pub without_effect : map (after busy) (commands.Nul ∷ commands.Skipped ∷ []) ≡ states (busy ∷ busy ∷ [])
without_effect = refl

-- motions end the run, and some unset the pen
pub motions : map (after busy)
    (commands.Back ∷ commands.Forward ∷ commands.Down ∷ commands.Up ∷ commands.Return ∷ commands.Home ∷ commands.Clear
    ∷ commands.Position 9 8 ∷ commands.Position 22 8 ∷ []) ≡
    states (moved 5 6 ∷ moved 5 8 ∷ moved 6 7 ∷ moved 4 7 ∷ moved 5 1 ∷ fresh 1 1 ∷ fresh 1 1
    ∷ fresh 9 8 ∷ fresh 20 8 ∷ [])
motions = refl

-- shifts and designations leave all but the sets
pub shifts : map (after busy) (commands.LockLeft 3 ∷ commands.LockRight 1 ∷ commands.Single 2
    ∷ commands.Designate 1 D ∷ []) ≡
    states (record dropped { sets = record sets { left = 3 } } ∷ record dropped { sets = record sets { right = 1 } }
    ∷ record dropped { sets = record sets { single = Some 2 } } ∷ record dropped { sets = record sets { g1 = D } } ∷ [])
shifts = refl

-- pens: a C1 code takes the colour table, and StopConceal keeps the fast flash
pub pens : map (after busy) (commands.C1 4 ∷ commands.C1 9 ∷ commands.FlashMode 1 ∷ commands.FlashMode 3
    ∷ commands.StopConceal ∷ []) ≡
    states (record dropped { pen = record pen { fore = Some 12 } }
    ∷ record dropped { pen = record pen { flash = Some Steady }; fast = 0 }
    ∷ record dropped { pen = record pen { flash = Some Reduced }; fast = 0 } ∷ dropped
    ∷ record dropped { pen = record pen { conceal = Some false } } ∷ [])
pens = refl

-- ---- signs

-- in no run: a sign of P takes the accent, a supplementary sign doesn't, and an accent waits in place of the one that
-- waited
abbrev pub writing : Working
writing = record busy { run = false; step = 1 }

abbrev pub supplementary : Glyph
supplementary = record { set = S; code = 0x21; accent = 0 }

pub signs : map (after writing) (commands.Graphic 0x61 ∷ commands.Graphic 0xA1 ∷ commands.Graphic 0xC1 ∷ []) ≡
    states (record writing { column = 8; accent = None; last = Some (sign 0x61 0x48) }
    ∷ record writing { column = 8; accent = None; last = Some supplementary }
    ∷ record writing { accent = Some 0x41 } ∷ [])
unfolding computing
signs = refl

-- in a run a left byte is of M, and a sign doesn't end the run
pub sign_in_a_run : after busy (commands.Graphic 0x61)
    ≡ state_with true (record busy
    { column = 8; accent = None; last = Some (record { set = M; code = 0x61; accent = 0 }) })
unfolding computing
sign_in_a_run = refl

-- copies of the last sign leave its accent and the run
pub copied : map (after busy) (commands.Repeat 0 ∷ commands.Repeat 3 ∷ [])
    ≡ states (dropped ∷ record dropped { column = 10 } ∷ [])
unfolding computing
copied = refl

-- ---- the other commands

abbrev pub white : Rgb
white = record { r = 15; g = 15; b = 15 }

abbrev pub form : Form
form = record { w = 12; h = 10; planes = 1 }

-- the colour table
pub tables : map (after busy) (commands.Table 2 ∷ commands.Table 0 ∷ []) ≡
    states (record dropped { table = 2 } ∷ record dropped { table = 0 } ∷ [])
tables = refl

-- what draws and has no effect on control but the accent's
abbrev pub drawing_alone : Pattern → List Command
drawing_alone pattern =
    commands.FullScreen 3 ∷ commands.FullScreen 9 ∷ commands.FullRow 3 ∷ commands.FullRow 9 ∷ commands.ColourDefaults
    ∷ commands.Entry 3 white ∷ commands.Dclut 1 5 ∷ commands.DrcsHeader true form ∷ commands.DrcsPattern 0x21 pattern
    ∷ []

-- what has no effect at all but the accent's
abbrev pub accent_alone : List Command
accent_alone =
    commands.CursorOn ∷ commands.CursorOff ∷ commands.Marked true ∷ commands.ColourHeader true ∷ commands.ColourStart 3
    ∷ commands.DrcsStart 0x21
    ∷ commands.DrcsHeader false form ∷ commands.ServiceEnd ∷ []

-- each command with this state after it
abbrev pub each_to : Working → List Command → List ControlState
each_to working all = map (λ (command : Command). state_with true working) all

pub accent_dropped_alone : (pattern : Pattern) → map (after busy) (drawing_alone pattern ++ accent_alone)
    ≡ each_to dropped (drawing_alone pattern ++ accent_alone)
accent_dropped_alone pattern = refl

-- areas, implicit scrolling and protection; an area is deleted by its own rows alone
abbrev pub with_area : Option (ℕ × ℕ) → Bool → ControlState
with_area area implicit = record (state_with true dropped) { area = area; implicit = implicit }

pub areas : map (after busy) (commands.Implicit false ∷ commands.Implicit true ∷ commands.AreaCreate 2 8
    ∷ commands.AreaDelete 3 9 ∷ commands.AreaDelete 3 8 ∷ commands.ScrollUp ∷ commands.ScrollDown
    ∷ commands.Protect false ∷ []) ≡
    with_area (Some (3, 9)) false ∷ with_area (Some (3, 9)) true ∷ with_area (Some (2, 8)) true
    ∷ with_area None true ∷ with_area (Some (3, 9)) true ∷ with_area (Some (3, 9)) true ∷ with_area (Some (3, 9)) true
    ∷ state_with true (record dropped { protect = false }) ∷ []
areas = refl

-- a revision of the rules is chosen
pub revisions : map (after busy) (commands.Revision 1 ∷ commands.Revision 2 ∷ []) ≡
    record (state_with true dropped) { revision = 1 } ∷ state_with true dropped ∷ []
revisions = refl

-- formats: the first place, and neither run nor pen; rows and wrap are those that they give
pub formats : map (after busy) (commands.Format 24 false ∷ commands.Format 20 true ∷ []) ≡
    record (state_with false (fresh 1 1)) { rows = 24 } ∷ state_with true (fresh 1 1) ∷ []
formats = refl

-- defaults of control leave the position, and full ones nothing
abbrev pub defaults : ℕ → ℕ → C1Set → Working
defaults row column set = record initial_working { row = row; column = column; c1 = set }

pub resets : map (after busy) (commands.ControlDefaults Serial ∷ commands.ControlDefaults Parallel
    ∷ commands.FullDefaults Serial ∷ commands.FullDefaults Parallel ∷ []) ≡
    state_with true (defaults 5 7 Serial) ∷ state_with true (defaults 5 7 Parallel)
    ∷ record initial_control { working = defaults 1 1 Serial } ∷ initial_control ∷ []
resets = refl

-- a break of the service keeps the state with the accent that waits; its row is cut to the format
pub breaks : map (after busy) (commands.ServiceBreak 7 ∷ commands.ServiceBreak 24 ∷ []) ≡
    record (state_with true (defaults 7 1 Parallel)) { kept = Some busy }
    ∷ record (state_with true (defaults 20 1 Parallel)) { kept = Some busy } ∷ []
breaks = refl

-- what is kept comes back, its row cut to the format, and a second break keeps nothing anew
abbrev pub in_service : ControlState
in_service = record (state_with true (defaults 9 3 Serial)) { kept = Some (record busy { row = 23 }) }

pub in_a_service : map (control_after in_service) (commands.ServiceEnd ∷ commands.ServiceBreak 2
    ∷ commands.ControlDefaults Parallel ∷ commands.FullDefaults Parallel ∷ []) ≡
    state_with true (record busy { row = 20 })
    ∷ record (state_with true (defaults 2 1 Parallel)) { kept = Some (record busy { row = 23 }) }
    ∷ record (state_with true (defaults 9 3 Parallel)) { kept = Some (record busy { row = 23 }) } ∷ initial_control ∷ []
in_a_service = refl

-- a C1 set that is designated ends the run, also where it is the one in force; to erase changes nothing of control
pub designated : map (after busy) (commands.DesignateC1 Serial ∷ commands.DesignateC1 Parallel ∷ [])
    ≡ states (record dropped { c1 = Serial; run = false; step = 1 } ∷ record dropped { run = false; step = 1 } ∷ [])
designated = refl

pub cancelled : after busy commands.Cancel ≡ state_with true dropped
cancelled = refl

-- ---- the edges

abbrev pub in_corner : ℕ → ℕ → Working
in_corner row column = record (moved row column) { run = true; step = 2 }

-- back, forward, down and up from the first place and from the last: with wrap, and without
abbrev pub four_motions : List Command
four_motions = commands.Back ∷ commands.Forward ∷ commands.Down ∷ commands.Up ∷ []

pub from_the_first_place : map (after (in_corner 1 1)) four_motions
    ≡ states (moved 20 40 ∷ moved 1 2 ∷ moved 2 1 ∷ moved 20 1 ∷ [])
from_the_first_place = refl

pub from_the_last_place : map (after (in_corner 20 40)) four_motions
    ≡ states (moved 20 39 ∷ moved 1 1 ∷ moved 1 40 ∷ moved 19 40 ∷ [])
from_the_last_place = refl

-- without wrap
abbrev pub after_unwrapped : Working → Command → ControlState
after_unwrapped working command = control_after (state_with false working) command

abbrev pub states_unwrapped : List Working → List ControlState
states_unwrapped all = map (λ (working : Working). state_with false working) all

pub stopped_at_the_first_place : map (after_unwrapped (in_corner 1 1)) four_motions
    ≡ states_unwrapped (moved 1 1 ∷ moved 1 2 ∷ moved 2 1 ∷ moved 1 1 ∷ [])
stopped_at_the_first_place = refl

pub stopped_at_the_last_place : map (after_unwrapped (in_corner 20 40)) four_motions
    ≡ states_unwrapped (moved 20 39 ∷ moved 20 40 ∷ moved 20 40 ∷ moved 19 40 ∷ [])
stopped_at_the_last_place = refl

-- ---- strokes

-- what a command puts and wipes
abbrev pub strokes_after : Working → Command → List Stroke
strokes_after working command = strokes_of (state_with true working) command

-- the sign at this place, with the pen and protected
abbrev pub put : ℕ → ℕ → Glyph → Stroke
put row column g =
    Put (record { row = row; column = column }) (record { what = whats.Parallel g pen; protected = true })

pub strokes_of_signs : map (strokes_after writing)
    (commands.Graphic 0x61 ∷ commands.Graphic 0xA1 ∷ commands.Graphic 0xC1 ∷ commands.Repeat 2 ∷ []) ≡
    (put 5 7 (sign 0x61 0x48) ∷ []) ∷ (put 5 7 supplementary ∷ []) ∷ []
    ∷ (put 5 7 (sign 0x42 0) ∷ put 5 8 (sign 0x42 0) ∷ []) ∷ []
unfolding computing
strokes_of_signs = refl

pub clear_wipes : strokes_after busy commands.Clear ≡ Wipe ∷ []
clear_wipes = refl

-- an end of a row is erased from the position on
pub cancel_erases : strokes_after busy commands.Cancel ≡ Erase 5 7 ∷ []
cancel_erases = refl

-- an attribute of the screen and one of the row of the position, in colour table 1, under either set: no background is
-- one, and code 9/11 is none
abbrev pub of_the_screen : Attr → List Stroke
of_the_screen attr = ScreenAttr attr ∷ []

abbrev pub of_the_row : Attr → List Stroke
of_the_row attr = RowAttr 5 attr ∷ []

abbrev pub attribute_codes : List ℕ
attribute_codes = 3 ∷ 8 ∷ 10 ∷ 20 ∷ 26 ∷ 27 ∷ 29 ∷ 30 ∷ 31 ∷ []

pub screen_takes_attributes : map (λ n. strokes_after busy (commands.FullScreen n)) attribute_codes ≡
    of_the_screen (attrs.Fore 11) ∷ of_the_screen (attrs.Flash Plain) ∷ of_the_screen (attrs.Boxed false)
    ∷ of_the_screen (attrs.Back 12) ∷ of_the_screen (attrs.Lined true) ∷ [] ∷ of_the_screen (attrs.Invert true)
    ∷ of_the_screen attrs.NoBack ∷ of_the_screen (attrs.Conceal false) ∷ []
screen_takes_attributes = refl

pub row_takes_attributes : map (λ n. strokes_after (record busy { c1 = Serial }) (commands.FullRow n))
    (13 ∷ attribute_codes) ≡ of_the_row (attrs.Size High)
    ∷ of_the_row (attrs.Fore 11) ∷ of_the_row (attrs.Flash Plain) ∷ of_the_row (attrs.Boxed false)
    ∷ of_the_row (attrs.Back 12) ∷ of_the_row (attrs.Lined true) ∷ [] ∷ of_the_row (attrs.Invert true)
    ∷ of_the_row attrs.NoBack ∷ of_the_row (attrs.Conceal false) ∷ []
row_takes_attributes = refl

-- colour entries and the DCLUT
pub colours_are_written : map (strokes_after busy)
    (commands.Entry 3 white ∷ commands.Dclut 1 5 ∷ commands.ColourDefaults ∷ []) ≡
    (Colour 3 (Ink white) ∷ []) ∷ (Dclut 1 5 ∷ []) ∷ (ColourDefaults ∷ []) ∷ []
colours_are_written = refl

-- patterns: a header deletes all or none
pub patterns_are_written : (pattern : Pattern) → map (strokes_after busy)
    (commands.DrcsHeader true form ∷ commands.DrcsHeader false form ∷ commands.DrcsPattern 0x33 pattern ∷ []) ≡
    (DrcsClear ∷ []) ∷ [] ∷ (Drcs 0x33 pattern ∷ []) ∷ []
patterns_are_written pattern = refl

-- the area in force goes up or down, whatever the row and implicit scrolling; under the second revision the attributes of
-- its rows go with it
pub area_goes : map (strokes_after busy) (commands.ScrollUp ∷ commands.ScrollDown ∷ []) ≡
    (Carry 3 9 Up ∷ []) ∷ (Carry 3 9 Down ∷ []) ∷ []
area_goes = refl

pub area_goes_without_attributes :
    map (strokes_of (record (state_with true busy) { revision = 1 })) (commands.ScrollUp ∷ commands.ScrollDown ∷ []) ≡
    (Shift 3 9 Up ∷ []) ∷ (Shift 3 9 Down ∷ []) ∷ []
area_goes_without_attributes = refl

-- formats wipe the page, and full defaults bring back all of it
pub all_anew : map (strokes_after busy) (commands.Format 20 false ∷ commands.FullDefaults Serial ∷ []) ≡
    (Format 20 ∷ Wipe ∷ []) ∷ (Format 24 ∷ Wipe ∷ ScreenClear ∷ ColourDefaults ∷ DrcsClear ∷ []) ∷ []
all_anew = refl

-- no other command makes one under the parallel set
abbrev pub without_strokes : List Command
without_strokes =
    commands.Nul ∷ commands.Skipped ∷ commands.Back ∷ commands.Forward ∷ commands.Down ∷ commands.Up ∷ commands.Return
    ∷ commands.Home ∷ commands.Position 9 8
    ∷ commands.LockLeft 3 ∷ commands.LockRight 1 ∷ commands.Single 2 ∷ commands.Designate 1 D ∷ commands.Table 2
    ∷ commands.ServiceBreak 7 ∷ commands.ControlDefaults Serial ∷ commands.Implicit true ∷ commands.Protect true
    ∷ commands.AreaCreate 2 8 ∷ commands.AreaDelete 2 8 ∷ commands.Revision 1 ∷ commands.C1 4 ∷ commands.FlashMode 3 ∷ commands.StopConceal ∷ []

abbrev pub none_of : List Command → List (List Stroke)
none_of all = map (λ (command : Command). []) all

pub no_strokes : map (strokes_after busy) (without_strokes ++ accent_alone) ≡ none_of (without_strokes ++ accent_alone)
no_strokes = refl

-- ---- the core

-- a core has its rows, wrap, area, implicit scrolling and revision from control
pub core_from_control : core_of (record { page = blank_page; control = state_with false busy })
    ≡ record { page = blank_page; rows = 20; wrap = false; area = Some (3, 9); implicit = true; revision = 2 }
core_from_control = refl
