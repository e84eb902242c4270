-- Worked pages of the compact text, by computing.
use Rattle.std.proofs.Common.{◌≡◌, [], ◌∷◌, refl}
use Rattle.cept_codes.specs.declared.command.Command.TheVariants as commands
use Rattle.cept_codes.specs.declared.glyph.SetId.TheVariants as sets
use Rattle.cept_codes.specs.declared.look.Pattern.{Pattern}
use Rattle.cept_codes.specs.Table.{table, row_of, list_by_index}
use Rattle.cept_parser.specs.Spelling.{spelling, pattern_bytes, plane_bytes, line_bytes, half_line_byte}
use Rattle.cept_profile.specs.Colours.{default_paints}
use Rattle.cept_profile.specs.Sets.{read_as, set_of}
use Rattle.cept_profile.specs.State.{core}
use Rattle.cept_profile.specs.Writing.{effect_of_copies}
use Rattle.cept_writer.specs.AttributeCommands.{attributes_of}
use Rattle.cept_writer.specs.Chains.{chains}
use Rattle.cept_writer.specs.CompactCommands.{changed_below, changed_commands, compact_commands, compact_text}
use Rattle.cept_writer.specs.CompactCommands.{defined_below, defined_commands}
use Rattle.cept_writer.specs.PageCommands.{rows_below}
use Rattle.cept_writer.specs.SegmentCommands.{segments_commands, written_below}

-- a row of mosaics, one of them repeated
pub row_of_mosaics : compact_text (core (commands.LockLeft 1 ∷ commands.Graphic 0x7F ∷ commands.Repeat 39 ∷ []))
    ≡ 0x1F ∷ 0x2F ∷ 0x42 ∷ 0x1F ∷ 0x2D ∷ 0x41 ∷ 0x70 ∷ 0x1F ∷ 0x41 ∷ 0x41 ∷ 0x1B ∷ 0x22 ∷ 0x41 ∷ 0x0E ∷ 0x7F ∷ 0x12
    ∷ 0x67 ∷ 0x0F ∷ []
unfolding compact_commands changed_commands changed_below defined_commands defined_below rows_below segments_commands written_below chains spelling attributes_of default_paints table row_of list_by_index set_of read_as effect_of_copies pattern_bytes plane_bytes line_bytes half_line_byte
row_of_mosaics = refl

-- two signs with an accent, the second of them repeated
pub two_accents : compact_text (core (commands.Single 2 ∷ commands.Graphic 0x48 ∷ commands.Graphic 0x61
    ∷ commands.Single 2 ∷ commands.Graphic 0x48 ∷ commands.Graphic 0x61 ∷ []))
    ≡ 0x1F ∷ 0x2F ∷ 0x42 ∷ 0x1F ∷ 0x2D ∷ 0x41 ∷ 0x70 ∷ 0x1F ∷ 0x41 ∷ 0x41 ∷ 0x1B ∷ 0x22 ∷ 0x41 ∷ 0x19 ∷ 0x48 ∷ 0x61
    ∷ 0x12 ∷ 0x41 ∷ []
unfolding compact_commands changed_commands changed_below defined_commands defined_below rows_below segments_commands written_below chains spelling attributes_of default_paints table row_of list_by_index set_of read_as effect_of_copies pattern_bytes plane_bytes line_bytes half_line_byte
two_accents = refl

-- 12x10 pixels in one plane, all of them set
abbrev filled : Pattern
filled = record {
  w = 12;
  h = 10;
  planes = 1;
  bits = 0xFFFFFFFFFFFFFFFF ∷ 0xFFFFFFFFFFFFFF ∷ 0 ∷ 0 ∷ 0 ∷ 0 ∷ 0 ∷ 0 ∷ 0 ∷ [];
}

-- an entry, a pattern, attributes of the screen and of a row, and three segments
pub page_of_many_parts : compact_text (core (commands.Entry 16 (record { r = 15; g = 0; b = 0 })
    ∷ commands.DrcsPattern 0x21 filled ∷ commands.FullScreen 20 ∷ commands.Position 3 1 ∷ commands.FullRow 17
    ∷ commands.Position 1 1 ∷ commands.C1 7 ∷ commands.C1 13 ∷ commands.Graphic 0x42 ∷ commands.Graphic 0x54
    ∷ commands.Graphic 0x58 ∷ commands.Position 3 1 ∷ commands.Designate 0 sets.D ∷ commands.Graphic 0x21
    ∷ commands.Designate 0 sets.P ∷ commands.Graphic 0x41 ∷ commands.Position 24 1 ∷ commands.Graphic 0x53
    ∷ commands.Graphic 0x59 ∷ commands.Graphic 0x53 ∷ []))
    ≡ 0x1F ∷ 0x2F ∷ 0x42 ∷ 0x1F ∷ 0x2D ∷ 0x41 ∷ 0x70 ∷ 0x1F ∷ 0x26 ∷ 0x20 ∷ 0x20 ∷ 0x1F ∷ 0x26 ∷ 0x31 ∷ 0x36 ∷ 0x64
    ∷ 0x64 ∷ 0x1F ∷ 0x23 ∷ 0x20 ∷ 0x20 ∷ 0x40 ∷ 0x37 ∷ 0x41 ∷ 0x1F ∷ 0x23 ∷ 0x21 ∷ 0x30 ∷ 0x7F ∷ 0x7F ∷ 0x7F ∷ 0x7F
    ∷ 0x7F ∷ 0x7F ∷ 0x7F ∷ 0x7F ∷ 0x7F ∷ 0x7F ∷ 0x7F ∷ 0x7F ∷ 0x7F ∷ 0x7F ∷ 0x7F ∷ 0x7F ∷ 0x7F ∷ 0x7F ∷ 0x7F ∷ 0x7F
    ∷ 0x9B ∷ 0x30 ∷ 0x40 ∷ 0x1B ∷ 0x23 ∷ 0x20 ∷ 0x54 ∷ 0x1F ∷ 0x43 ∷ 0x41 ∷ 0x9B ∷ 0x30 ∷ 0x40 ∷ 0x1B ∷ 0x23 ∷ 0x21
    ∷ 0x51 ∷ 0x1F ∷ 0x41 ∷ 0x41 ∷ 0x1B ∷ 0x22 ∷ 0x41 ∷ 0x9B ∷ 0x30 ∷ 0x40 ∷ 0x87 ∷ 0x8D ∷ 0x42 ∷ 0x54 ∷ 0x58 ∷ 0x1F
    ∷ 0x43 ∷ 0x41 ∷ 0x1B ∷ 0x22 ∷ 0x41 ∷ 0x1B ∷ 0x28 ∷ 0x20 ∷ 0x40 ∷ 0x21 ∷ 0x1B ∷ 0x28 ∷ 0x40 ∷ 0x41 ∷ 0x1F ∷ 0x58
    ∷ 0x41 ∷ 0x1B ∷ 0x22 ∷ 0x41 ∷ 0x53 ∷ 0x59 ∷ 0x53 ∷ []
unfolding compact_commands changed_commands changed_below defined_commands defined_below rows_below segments_commands written_below chains spelling attributes_of default_paints table row_of list_by_index set_of read_as effect_of_copies pattern_bytes plane_bytes line_bytes half_line_byte
page_of_many_parts = refl
