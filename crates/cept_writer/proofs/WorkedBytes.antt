-- Worked bytes of written pages, by the tables of the units and by computing.
use Rattle.std.proofs.Common.{◌≡◌, Some, true, false, [], ◌∷◌, refl}
use Rattle.cept_codes.specs.declared.attribute.Flash.TheVariants as flashes
use Rattle.cept_codes.specs.declared.attribute.Size.TheVariants as sizes
use Rattle.cept_codes.specs.declared.cell.Marker.TheVariants as markers
use Rattle.cept_codes.specs.declared.cell.What.TheVariants as whats
use Rattle.cept_codes.specs.declared.glyph.SetId.TheVariants as sets
use Rattle.cept_codes.specs.declared.look.Paint.TheVariants as paints
use Rattle.cept_codes.specs.declared.look.Pattern.{Pattern}
use Rattle.cept_codes.specs.Attribute.{unset_pen}
use Rattle.cept_codes.specs.Place.{Place}
use Rattle.cept_codes.specs.Table.{table, row_of, list_by_index}
use Rattle.cept_parser.specs.Spelling.{spelling, spellings, pattern_bytes, plane_bytes, line_bytes, half_line_byte}
use Rattle.cept_profile.specs.Colours.{default_paints}
use Rattle.cept_profile.specs.State.{Core, blank_page}
use Rattle.cept_writer.specs.AttributeCommands.{attributes_of}
use Rattle.cept_writer.specs.CellCommands.{cell_commands}
use Rattle.cept_writer.specs.PageCommands.{cells_below, dclut_commands, entries_below, entry_commands, plain_commands}
use Rattle.cept_writer.specs.PageCommands.{pattern_commands, patterns_below, row_commands, rows_below, screen_commands}
use Rattle.cept_writer.specs.PageCommands.{with_colour_header}

abbrev at_third : Place
at_third = record { row = 1; column = 3 }

-- protected: the position, the parallel set, entry 19 of table 2, double height, an acute accent and its e
pub protected_sign : spellings (cell_commands at_third true
    (whats.Parallel (record { set = sets.P; code = 0x65; accent = 0x42 })
    (record unset_pen { fore = Some 19; size = Some sizes.High })))
    ≡ 0x1F ∷ 0x41 ∷ 0x43 ∷ 0x9B ∷ 0x31 ∷ 0x50 ∷ 0x1B ∷ 0x22 ∷ 0x41 ∷ 0x9B ∷ 0x32 ∷ 0x40 ∷ 0x83 ∷ 0x8D ∷ 0x19 ∷ 0x42
    ∷ 0x65 ∷ 0x9B ∷ 0x31 ∷ 0x51 ∷ []
unfolding spelling attributes_of
protected_sign = refl

-- a mosaic between its locking shifts
pub mosaic : spellings (cell_commands at_third false (whats.Serial (record { set = sets.M; code = 0x35; accent = 0 })))
    ≡ 0x1F ∷ 0x41 ∷ 0x43 ∷ 0x1B ∷ 0x22 ∷ 0x40 ∷ 0x0E ∷ 0x35 ∷ 0x0F ∷ []
unfolding spelling
mosaic = refl

-- a downloaded sign while its set is G0
pub downloaded : spellings (cell_commands at_third false (whats.Serial (record {
  set = sets.D;
  code = 0x21;
  accent = 0;
})))
    ≡ 0x1F ∷ 0x41 ∷ 0x43 ∷ 0x1B ∷ 0x22 ∷ 0x40 ∷ 0x1B ∷ 0x28 ∷ 0x20 ∷ 0x40 ∷ 0x21 ∷ 0x1B ∷ 0x28 ∷ 0x40 ∷ []
unfolding spelling
downloaded = refl

-- a mosaic marker of entry 26, of table 3
pub mosaic_marker : spellings (cell_commands at_third false (whats.Marker (markers.Mosaic 26)))
    ≡ 0x1F ∷ 0x41 ∷ 0x43 ∷ 0x1B ∷ 0x22 ∷ 0x40 ∷ 0x9B ∷ 0x33 ∷ 0x40 ∷ 0x92 ∷ []
unfolding spelling
mosaic_marker = refl

-- the marker that ends concealing
pub stop_concealing : spellings (cell_commands at_third false (whats.Marker (markers.Conceal false)))
    ≡ 0x1F ∷ 0x41 ∷ 0x43 ∷ 0x1B ∷ 0x22 ∷ 0x40 ∷ 0x9B ∷ 0x42 ∷ []
unfolding spelling
stop_concealing = refl

-- entry 17 green, after its header
pub green_entry : spellings (with_colour_header (entry_commands 17 (paints.Ink (record { r = 0; g = 15; b = 0 }))))
    ≡ 0x1F ∷ 0x26 ∷ 0x20 ∷ 0x20 ∷ 0x1F ∷ 0x26 ∷ 0x31 ∷ 0x37 ∷ 0x52 ∷ 0x52 ∷ []
unfolding spelling default_paints
green_entry = refl

-- a DCLUT of 0, 9, 18 and 31
pub dclut : spellings (dclut_commands (0 ∷ 9 ∷ 18 ∷ 31 ∷ []))
    ≡ 0x1F ∷ 0x26 ∷ 0x20 ∷ 0x22 ∷ 0x1F ∷ 0x26 ∷ 0x30 ∷ 0x30 ∷ 0x40 ∷ 0x49 ∷ 0x52 ∷ 0x5F ∷ []
unfolding spelling
dclut = refl

-- the pattern of code 2/1 of 6x5 pixels, with pixel y of line y
abbrev falling : Pattern
falling = record { w = 6; h = 5; planes = 1; bits = 0x10204081 ∷ 0 ∷ 0 ∷ 0 ∷ 0 ∷ 0 ∷ 0 ∷ 0 ∷ 0 ∷ [] }

pub pattern : spellings (pattern_commands 0x21 (Some falling))
    ≡ 0x1F ∷ 0x23 ∷ 0x20 ∷ 0x20 ∷ 0x40 ∷ 0x3C ∷ 0x41 ∷ 0x1F ∷ 0x23 ∷ 0x21 ∷ 0x30 ∷ 0x60 ∷ 0x50 ∷ 0x48 ∷ 0x44 ∷ 0x42
    ∷ []
unfolding spelling pattern_bytes plane_bytes line_bytes half_line_byte
pattern = refl

-- the screen: a background of entry 4, boxed off
pub screen : spellings (screen_commands (record unset_pen { back = Some 4; boxed = Some false }))
    ≡ 0x9B ∷ 0x30 ∷ 0x40 ∷ 0x1B ∷ 0x23 ∷ 0x20 ∷ 0x54 ∷ 0x1B ∷ 0x23 ∷ 0x20 ∷ 0x4A ∷ []
unfolding spelling attributes_of
screen = refl

-- row 20: steady, double size and inverted
pub row : spellings (row_commands 20 (record unset_pen {
  flash = Some flashes.Steady;
  size = Some sizes.Both;
  invert = Some true;
}))
    ≡ 0x1F ∷ 0x54 ∷ 0x41 ∷ 0x1B ∷ 0x23 ∷ 0x21 ∷ 0x49 ∷ 0x1B ∷ 0x23 ∷ 0x21 ∷ 0x4F ∷ 0x1B ∷ 0x23 ∷ 0x21 ∷ 0x5D ∷ []
unfolding spelling attributes_of
row = refl

-- a blank page of 20 rows under the second revision, with an area and implicit scrolling
abbrev scrolled : Core
scrolled = record {
  page = blank_page;
  rows = 20;
  wrap = false;
  area = Some (3, 18);
  implicit = true;
  revision = 2;
}

pub scrolled_page : spellings (plain_commands scrolled)
    ≡ 0x1F ∷ 0x2F ∷ 0x42 ∷ 0x1F ∷ 0x2F ∷ 0x45 ∷ 0x1F ∷ 0x2D ∷ 0x42 ∷ 0x71 ∷ 0x9B ∷ 0x30 ∷ 0x33 ∷ 0x3B ∷ 0x31 ∷ 0x38
    ∷ 0x55 ∷ 0x9B ∷ 0x32 ∷ 0x60 ∷ []
unfolding spelling plain_commands entries_below patterns_below rows_below cells_below attributes_of table row_of list_by_index default_paints
scrolled_page = refl
