-- Worked cases: of which locations strokes and commands note an old value, and of which they note none, by computing.
use Rattle.cept_profile.proofs.WhatComputes.{computing}
use Rattle.std.proofs.Common.{◌≡◌, ℕ, Bool, true, false, List, [], ◌∷◌, ◌++◌, map, refl}
use Rattle.std.specs.Prelude.{filter, is_some}
use Rattle.std.specs.List.{flat_map, range_with_len}
use Rattle.cept_codes.specs.declared.attribute.Attr.TheVariants.{Back}
use Rattle.cept_codes.specs.declared.command.C1Set.TheVariants.{Serial, Parallel}
use Rattle.cept_codes.specs.declared.command.Command.{Command}
use Rattle.cept_codes.specs.declared.command.Command.TheVariants as commands
use Rattle.cept_codes.specs.declared.command.Up.TheVariants.{Up, Down}
use Rattle.cept_codes.specs.declared.glyph.SetId.TheVariants.{D}
use Rattle.cept_codes.specs.declared.look.Pattern.{Pattern}
use Rattle.cept_codes.specs.declared.stroke.Stroke.{Stroke}
use Rattle.cept_codes.specs.declared.stroke.Stroke.TheVariants as strokes
use Rattle.cept_codes.specs.Cell.{blank_cell}
use Rattle.cept_codes.specs.Look.{black_paint}
use Rattle.cept_profile.specs.Control.{control}
use Rattle.cept_profile.specs.NotedStrokes.{with_command, with_stroke}
use Rattle.cept_profile.specs.OldValues.{OldValues, no_old_values, old_cell, old_dclut, old_paint, old_pattern}
use Rattle.cept_profile.specs.OldValues.{old_row_pen}
use Rattle.cept_profile.specs.State.{State, blank_page}

-- the locations of which an old value is noted: columns of rows, and the numbers of the others
pub record Locations : Type 0 where
  pub cells : List (ℕ × List ℕ)
  pub row_pens : List ℕ
  pub screen_pen : Bool
  pub paints : List ℕ
  pub dclut : List ℕ
  pub patterns : List ℕ
  pub control : Bool

abbrev none : Locations
none = record {
  cells = [];
  row_pens = [];
  screen_pen = false;
  paints = [];
  dclut = [];
  patterns = [];
  control = false;
}

-- a row with its columns, if there are any
abbrev row_with : ℕ → List ℕ → List (ℕ × List ℕ)
row_with r [] = []
row_with r (c ∷ more) = (r, c ∷ more) ∷ []

-- all that are noted, of the 1,116
abbrev noted : OldValues → Locations
noted old = record {
  cells =
      flat_map (λ r. row_with r (filter (λ c. is_some (old_cell old r c)) (range_with_len 1 40))) (range_with_len 1 24);
  row_pens = filter (λ r. is_some (old_row_pen old r)) (range_with_len 1 24);
  screen_pen = is_some old.screen_pen;
  paints = filter (λ i. is_some (old_paint old i)) (range_with_len 0 32);
  dclut = filter (λ i. is_some (old_dclut old i)) (range_with_len 0 4);
  patterns = filter (λ d. is_some (old_pattern old d)) (range_with_len 0x21 94);
  control = is_some old.control;
}

-- all columns of so many rows from this one on
abbrev whole_rows : ℕ → ℕ → List (ℕ × List ℕ)
whole_rows first n = map (λ r. (r, range_with_len 1 40)) (range_with_len first n)

abbrev all_codes : List ℕ
all_codes = range_with_len 0x21 94

-- ---- strokes

abbrev pattern : Pattern
pattern = record { w = 6; h = 5; planes = 1; bits = 1 ∷ [] }

abbrev put : ℕ → ℕ → Stroke
put r c = strokes.Put (record { row = r; column = c }) blank_cell

abbrev of_strokes : List (Stroke × Locations)
of_strokes =
    (put 1 1, record none { cells = (1, 1 ∷ []) ∷ [] })
    ∷ (put 24 40, record none { cells = (24, 40 ∷ []) ∷ [] })
    ∷ (put 3 5, record none { cells = (3, 5 ∷ []) ∷ [] })
    ∷ (strokes.Erase 7 38, record none { cells = (7, 38 ∷ 39 ∷ 40 ∷ []) ∷ [] })
    ∷ (strokes.Erase 24 1, record none { cells = whole_rows 24 1 })
    ∷ (strokes.Wipe, record none { cells = whole_rows 1 24; row_pens = range_with_len 1 24 })
    ∷ (strokes.Shift 2 4 Up, record none { cells = whole_rows 2 3 })
    ∷ (strokes.Shift 2 4 Down, record none { cells = whole_rows 2 3 })
    ∷ (strokes.Shift 24 24 Up, record none { cells = whole_rows 24 1 })
    ∷ (strokes.Carry 2 4 Up, record none { cells = whole_rows 2 3; row_pens = 2 ∷ 3 ∷ 4 ∷ [] })
    ∷ (strokes.Carry 2 4 Down, record none { cells = whole_rows 2 3; row_pens = 2 ∷ 3 ∷ 4 ∷ [] })
    ∷ (strokes.RowAttr 1 (Back 1), record none { row_pens = 1 ∷ [] })
    ∷ (strokes.RowAttr 24 (Back 1), record none { row_pens = 24 ∷ [] })
    ∷ (strokes.ScreenAttr (Back 1), record none { screen_pen = true })
    ∷ (strokes.ScreenClear, record none { screen_pen = true })
    ∷ (strokes.Colour 0 black_paint, record none { paints = 0 ∷ [] })
    ∷ (strokes.Colour 31 black_paint, record none { paints = 31 ∷ [] })
    ∷ (strokes.Dclut 0 5, record none { dclut = 0 ∷ [] })
    ∷ (strokes.Dclut 3 5, record none { dclut = 3 ∷ [] })
    ∷ (strokes.ColourDefaults, record none { paints = range_with_len 0 32; dclut = range_with_len 0 4 })
    ∷ (strokes.DrcsClear, record none { patterns = all_codes })
    ∷ (strokes.Drcs 0x21 pattern, record none { patterns = 0x21 ∷ [] })
    ∷ (strokes.Drcs 0x7E pattern, record none { patterns = 0x7E ∷ [] })
    ∷ (strokes.Format 20, none)
    ∷ []

strokes_note_their_locations : map (λ row. noted (with_stroke blank_page row.0 no_old_values)) of_strokes
    ≡ map (λ row. row.1) of_strokes
unfolding computing
strokes_note_their_locations = refl

-- ---- commands: control, and the locations of their strokes

-- a blank page after these commands
abbrev after : List Command → State
after history = record { page = blank_page; control = control history }

abbrev noted_by : List Command → Command → Locations
noted_by history command = noted (with_command (after history) command no_old_values)

abbrev control_and : Locations → Locations
control_and locations = record locations { control = true }

-- commands of which nothing but control is noted at the start: those without strokes; the C1 codes, which are of the
-- parallel set; a repetition of no sign; an accent; scrolling of no area
abbrev quiet : List Command
quiet =
    commands.Nul ∷ commands.Skipped ∷ commands.Back ∷ commands.Forward ∷ commands.Down ∷ commands.Up ∷ commands.Return
    ∷ commands.Home ∷ commands.CursorOn ∷ commands.CursorOff ∷ commands.LockLeft 3 ∷ commands.LockRight 3
    ∷ commands.Single 2 ∷ commands.Repeat 63 ∷ commands.Position 24 40 ∷ commands.Graphic 0xC8
    ∷ commands.DesignateC1 Serial ∷ commands.Designate 3 D ∷ commands.Table 3 ∷ commands.FlashMode 6
    ∷ commands.StopConceal ∷ commands.ScrollUp ∷ commands.ScrollDown ∷ commands.Implicit true ∷ commands.Protect true
    ∷ commands.Marked true ∷ commands.AreaCreate 1 24 ∷ commands.AreaDelete 1 24 ∷ commands.ColourHeader true
    ∷ commands.ColourStart 31 ∷ commands.DrcsHeader false (record { w = 6; h = 5; planes = 1 })
    ∷ commands.DrcsStart 0x21 ∷ commands.ServiceBreak 24 ∷ commands.ServiceEnd ∷ commands.ControlDefaults Serial
    ∷ commands.Revision 2 ∷ map (λ n. commands.C1 n) (range_with_len 0 27 ++ range_with_len 28 4)

quiet_commands : map (noted_by []) quiet ≡ map (λ command. control_and none) quiet
unfolding computing
quiet_commands = refl

-- under the serial set C1 codes, flash modes and StopConceal leave a marker in their cell
abbrev markers : List Command
markers =
    commands.FlashMode 6 ∷ commands.StopConceal
    ∷ map (λ n. commands.C1 n) (range_with_len 0 27 ++ range_with_len 28 4)

markers_note_their_cells : map (noted_by (commands.DesignateC1 Serial ∷ commands.Position 24 40 ∷ [])) markers
    ≡ map (λ command. control_and (record none { cells = (24, 40 ∷ []) ∷ [] })) markers
unfolding computing
markers_note_their_cells = refl

-- an area of rows 2 to 4, and the position at its end
abbrev at_its_end : List Command
at_its_end = commands.AreaCreate 2 4 ∷ commands.Position 4 40 ∷ []

-- what is noted after commands
abbrev of_commands : List (List Command × Command × Locations)
of_commands =
    ([], commands.Graphic 0x41, record none { cells = (1, 1 ∷ []) ∷ [] })
    ∷ (commands.Position 24 40 ∷ [], commands.Graphic 0x41, record none { cells = (24, 40 ∷ []) ∷ [] })
    ∷ (commands.C1 15 ∷ [], commands.Graphic 0x41, record none { cells = (1, 1 ∷ []) ∷ [] })
    ∷ (commands.Graphic 0x41 ∷ [], commands.Repeat 3, record none { cells = (1, 2 ∷ 3 ∷ 4 ∷ []) ∷ [] })
    ∷ (commands.Graphic 0x41 ∷ [], commands.Repeat 0, none)
    ∷ (
      commands.Position 24 40 ∷ commands.Graphic 0x41 ∷ commands.Position 24 39 ∷ [],
      commands.Repeat 3,
      record none { cells = (1, 1 ∷ []) ∷ (24, 39 ∷ 40 ∷ []) ∷ [] },
    )
    ∷ (commands.Position 5 39 ∷ [], commands.Cancel, record none { cells = (5, 39 ∷ 40 ∷ []) ∷ [] })
    ∷ ([], commands.Clear, record none { cells = whole_rows 1 24; row_pens = range_with_len 1 24 })
    ∷ (commands.Position 24 1 ∷ [], commands.FullRow 3, record none { row_pens = 24 ∷ [] })
    ∷ ([], commands.FullScreen 3, record none { screen_pen = true })
    ∷ ([], commands.ColourDefaults, record none { paints = range_with_len 0 32; dclut = range_with_len 0 4 })
    ∷ ([], commands.Entry 31 (record { r = 1; g = 2; b = 3 }), record none { paints = 31 ∷ [] })
    ∷ ([], commands.Dclut 3 31, record none { dclut = 3 ∷ [] })
    ∷ ([], commands.DrcsHeader true (record { w = 6; h = 5; planes = 1 }), record none { patterns = all_codes })
    ∷ ([], commands.DrcsPattern 0x7E pattern, record none { patterns = 0x7E ∷ [] })
    ∷ (at_its_end, commands.ScrollUp, record none { cells = whole_rows 2 3 })
    ∷ (at_its_end, commands.ScrollDown, record none { cells = whole_rows 2 3 })
    ∷ (
      commands.Revision 2 ∷ at_its_end,
      commands.ScrollUp,
      record none { cells = whole_rows 2 3; row_pens = 2 ∷ 3 ∷ 4 ∷ [] },
    )
    ∷ (commands.Format 20 true ∷ commands.AreaCreate 2 24 ∷ [], commands.ScrollUp, none)
    ∷ (at_its_end, commands.Down, none)
    ∷ (commands.Implicit true ∷ at_its_end, commands.Down, record none { cells = whole_rows 2 3 })
    ∷ (commands.Implicit true ∷ at_its_end, commands.Forward, record none { cells = whole_rows 2 3 })
    ∷ (commands.Implicit true ∷ at_its_end, commands.Up, none)
    ∷ (commands.Implicit true ∷ at_its_end, commands.Graphic 0x41, record none { cells = whole_rows 2 3 })
    ∷ (at_its_end, commands.Graphic 0x41, record none { cells = (4, 40 ∷ []) ∷ [] })
    ∷ ([], commands.Format 24 true, record none { cells = whole_rows 1 24; row_pens = range_with_len 1 24 })
    ∷ (
      [],
      commands.FullDefaults Parallel,
      record none {
        cells = whole_rows 1 24;
        row_pens = range_with_len 1 24;
        screen_pen = true;
        paints = range_with_len 0 32;
        dclut = range_with_len 0 4;
        patterns = all_codes;
      },
    )
    ∷ []

commands_note_their_locations : map (λ row. noted_by row.0 row.1) of_commands
    ≡ map (λ row. control_and row.2) of_commands
unfolding computing
commands_note_their_locations = refl
