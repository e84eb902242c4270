-- Worked pages: what cells, entries and patterns are written with, by computing.
use Rattle.std.proofs.Common.{◌≡◌, Some, None, true, false, [], ◌∷◌, refl}
use Rattle.cept_codes.specs.declared.attribute.Size.TheVariants as sizes
use Rattle.cept_codes.specs.declared.attribute.Flash.TheVariants as flashes
use Rattle.cept_codes.specs.declared.cell.Marker.TheVariants as markers
use Rattle.cept_codes.specs.declared.cell.What.TheVariants as whats
use Rattle.cept_codes.specs.declared.command.C1Set.TheVariants as c1sets
use Rattle.cept_codes.specs.declared.command.Command.TheVariants as commands
use Rattle.cept_codes.specs.declared.glyph.SetId.TheVariants as sets
use Rattle.cept_codes.specs.declared.look.Paint.TheVariants as paints
use Rattle.cept_codes.specs.declared.look.Pattern.{Pattern}
use Rattle.cept_codes.specs.Attribute.{unset_pen}
use Rattle.cept_codes.specs.Place.{Place}
use Rattle.cept_codes.specs.Table.{table, row_of, list_by_index}
use Rattle.cept_profile.specs.Colours.{default_paints}
use Rattle.cept_profile.specs.Sets.{read_as, set_of}
use Rattle.cept_profile.specs.State.{blank_page, core}
use Rattle.cept_writer.specs.AttributeCommands.{attributes_of}
use Rattle.cept_writer.specs.CellCommands.{cell_commands}
use Rattle.cept_writer.specs.PageCommands.{cells_below, dclut_commands, entries_below, entry_commands, plain_commands}
use Rattle.cept_writer.specs.PageCommands.{pattern_commands, patterns_below, row_commands, rows_below}

abbrev at_third : Place
at_third = record { row = 1; column = 3 }

-- a blank cell isn't written
pub blank_is_left : cell_commands at_third false whats.Blank ≡ []
blank_is_left = refl

-- a protected sign under the parallel set, with an accent, entry 19 and a size
pub protected_sign : cell_commands at_third true
    (whats.Parallel (record { set = sets.P; code = 0x65; accent = 0x42 })
    (record unset_pen { fore = Some 19; size = Some sizes.High }))
    ≡ commands.Position 1 3 ∷ commands.Protect true ∷ commands.DesignateC1 c1sets.Parallel ∷ commands.Table 2
    ∷ commands.C1 3 ∷ commands.C1 13 ∷ commands.Single 2 ∷ commands.Graphic 0x42 ∷ commands.Graphic 0x65
    ∷ commands.Protect false ∷ []
unfolding attributes_of
protected_sign = refl

-- signs of the sets S, M and D under the serial set
pub serial_signs : cell_commands at_third false (whats.Serial (record { set = sets.S; code = 0x51; accent = 0 }))
    ≡ commands.Position 1 3 ∷ commands.DesignateC1 c1sets.Serial ∷ commands.Single 2 ∷ commands.Graphic 0x51 ∷ []
serial_signs = refl

pub mosaic : cell_commands at_third false (whats.Serial (record { set = sets.M; code = 0x35; accent = 0 }))
    ≡ commands.Position 1 3 ∷ commands.DesignateC1 c1sets.Serial ∷ commands.LockLeft 1 ∷ commands.Graphic 0x35
    ∷ commands.LockLeft 0 ∷ []
mosaic = refl

pub downloaded : cell_commands at_third false (whats.Serial (record { set = sets.D; code = 0x21; accent = 0 }))
    ≡ commands.Position 1 3 ∷ commands.DesignateC1 c1sets.Serial ∷ commands.Designate 0 sets.D
    ∷ commands.Graphic 0x21 ∷ commands.Designate 0 sets.P ∷ []
downloaded = refl

-- a mosaic marker of entry 26
pub mosaic_marker : cell_commands at_third false (whats.Marker (markers.Mosaic 26))
    ≡ commands.Position 1 3 ∷ commands.DesignateC1 c1sets.Serial ∷ commands.Table 3 ∷ commands.C1 18 ∷ []
mosaic_marker = refl

-- attributes of a row, and none
pub steady_row : row_commands 7 (record unset_pen { back = Some 9; flash = Some flashes.Steady })
    ≡ commands.Position 7 1 ∷ commands.Table 1 ∷ commands.FullRow 17 ∷ commands.FullRow 9 ∷ []
unfolding attributes_of
steady_row = refl

pub unset_row : row_commands 7 unset_pen ≡ []
unfolding attributes_of
unset_row = refl

-- an entry that differs from its default, and those that don't
pub green_for_red : entry_commands 1 (paints.Ink (record { r = 0; g = 15; b = 0 }))
    ≡ commands.ColourStart 1 ∷ commands.Entry 1 (record { r = 0; g = 15; b = 0 }) ∷ []
unfolding default_paints
green_for_red = refl

pub red_is_left : entry_commands 1 (paints.Ink (record { r = 15; g = 0; b = 0 })) ≡ []
unfolding default_paints
red_is_left = refl

pub exchanged_names : dclut_commands (0 ∷ 1 ∷ 3 ∷ 2 ∷ [])
    ≡ commands.ColourHeader true ∷ commands.ColourStart 0 ∷ commands.Dclut 0 0 ∷ commands.Dclut 1 1
    ∷ commands.Dclut 2 3 ∷ commands.Dclut 3 2 ∷ []
exchanged_names = refl

-- the page of the start is a reset and its format, and with an area and implicit scrolling these come last
pub page_of_the_start : plain_commands (core []) ≡ commands.FullDefaults c1sets.Parallel ∷ commands.Format 24 true ∷ []
unfolding plain_commands entries_below patterns_below rows_below cells_below attributes_of default_paints table row_of list_by_index
page_of_the_start = refl

-- a pattern of one plane
abbrev dots : Pattern
dots = record { w = 6; h = 5; planes = 1; bits = 21 ∷ 0 ∷ 0 ∷ 0 ∷ 0 ∷ 0 ∷ 0 ∷ 0 ∷ 0 ∷ [] }

pub defined_pattern : pattern_commands 0x41 (Some dots)
    ≡ commands.DrcsHeader false (record { w = 6; h = 5; planes = 1 }) ∷ commands.DrcsStart 0x41
    ∷ commands.DrcsPattern 0x41 dots ∷ []
defined_pattern = refl

pub undefined_pattern : pattern_commands 0x41 None ≡ []
undefined_pattern = refl

-- a page of twenty rows without wrap under the second revision, with a screen attribute, an area and implicit scrolling
pub settings_of_a_page : plain_commands (record {
  page = record blank_page { screen_pen = record unset_pen { back = Some 4 } };
  rows = 20;
  wrap = false;
  area = Some (2, 5);
  implicit = true;
  revision = 2;
})
    ≡ commands.FullDefaults c1sets.Parallel ∷ commands.Revision 2 ∷ commands.Format 20 false ∷ commands.Table 0
    ∷ commands.FullScreen 20 ∷ commands.AreaCreate 2 5 ∷ commands.Implicit true ∷ []
unfolding plain_commands entries_below patterns_below rows_below cells_below attributes_of default_paints table row_of list_by_index
settings_of_a_page = refl

-- the space under a flash that only signs have, and a marker of it
pub fast_sign : cell_commands at_third false
    (whats.Parallel (record { set = sets.P; code = 0x20; accent = 0 }) (record unset_pen { flash = Some flashes.Fast2 }))
    ≡ commands.Position 1 3 ∷ commands.DesignateC1 c1sets.Parallel ∷ commands.FlashMode 3 ∷ commands.Graphic 0x20 ∷ []
unfolding attributes_of
fast_sign = refl

pub fast_marker : cell_commands at_third true (whats.Marker (markers.Flash flashes.Fast2))
    ≡ commands.Position 1 3 ∷ commands.Protect true ∷ commands.DesignateC1 c1sets.Serial ∷ commands.FlashMode 3
    ∷ commands.Protect false ∷ []
fast_marker = refl

-- a sign of set N
pub sign_of_n : cell_commands at_third false (whats.Serial (record { set = sets.N; code = 0x35; accent = 0 }))
    ≡ commands.Position 1 3 ∷ commands.DesignateC1 c1sets.Serial ∷ commands.Single 3 ∷ commands.Graphic 0x35 ∷ []
sign_of_n = refl

-- a red sign in the second row, a protected marker over a row with a background, a pattern, and another red
pub page_of_some_parts : plain_commands (core (commands.Position 2 3 ∷ commands.C1 1 ∷ commands.Graphic 0x41
    ∷ commands.FullRow 20 ∷ commands.Protect true ∷ commands.DesignateC1 c1sets.Serial ∷ commands.C1 30
    ∷ commands.DrcsPattern 0x22 dots ∷ commands.Entry 1 (record { r = 9; g = 0; b = 0 }) ∷ commands.Dclut 2 9 ∷ []))
    ≡ commands.FullDefaults c1sets.Parallel ∷ commands.Format 24 true
    ∷ commands.ColourHeader false ∷ commands.ColourStart 1 ∷ commands.Entry 1 (record { r = 9; g = 0; b = 0 })
    ∷ commands.ColourHeader true ∷ commands.ColourStart 0 ∷ commands.Dclut 0 0 ∷ commands.Dclut 1 1 ∷ commands.Dclut 2 9
    ∷ commands.Dclut 3 3
    ∷ commands.DrcsHeader false (record { w = 6; h = 5; planes = 1 }) ∷ commands.DrcsStart 0x22
    ∷ commands.DrcsPattern 0x22 dots
    ∷ commands.Position 2 1 ∷ commands.Table 0 ∷ commands.FullRow 20
    ∷ commands.Position 2 3 ∷ commands.DesignateC1 c1sets.Parallel ∷ commands.Table 0 ∷ commands.C1 1
    ∷ commands.Graphic 0x41
    ∷ commands.Position 2 4 ∷ commands.Protect true ∷ commands.DesignateC1 c1sets.Serial ∷ commands.C1 30
    ∷ commands.Protect false ∷ []
unfolding plain_commands entries_below patterns_below rows_below cells_below attributes_of default_paints table row_of list_by_index set_of read_as
page_of_some_parts = refl
