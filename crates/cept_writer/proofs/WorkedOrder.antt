-- Worked pages: the order of the parts of the compact text, by computing.
use Rattle.std.proofs.Common.{◌≡◌, ℕ, List, [], ◌∷◌, map, Some, None, Bool, true, false, refl}
use Rattle.cept_codes.specs.declared.command.Command.{Command}
use Rattle.cept_codes.specs.declared.command.Command.TheVariants as commands
use Rattle.cept_codes.specs.declared.look.Pattern.{Pattern}
use Rattle.cept_codes.specs.Table.{list_by_index, row_of, table}
use Rattle.cept_parser.specs.Spelling.{half_line_byte, line_bytes, pattern_bytes, plane_bytes, spelling, spellings}
use Rattle.cept_profile.specs.Colours.{default_paints}
use Rattle.cept_profile.specs.Sets.{read_as, set_of}
use Rattle.cept_profile.specs.State.{Core, blank_page, core}
use Rattle.cept_profile.specs.Writing.{effect_of_copies}
use Rattle.cept_writer.specs.AttributeCommands.{attributes_of}
use Rattle.cept_writer.specs.Chains.{chains}
use Rattle.cept_writer.specs.CompactCommands.{changed_below, changed_commands, compact_commands, compact_text}
use Rattle.cept_writer.specs.CompactCommands.{defined_below, defined_commands}
use Rattle.cept_writer.specs.PageCommands.{area_commands, first_commands, implicit_commands, rows_below}
use Rattle.cept_writer.specs.SegmentCommands.{segments_commands, written_below}

-- a blank page with this format and revision
abbrev blank : ℕ → Bool → ℕ → Core
blank rows wrap revision =
    record { page = blank_page; rows = rows; wrap = wrap; area = None; implicit = false; revision = revision }

-- a page begins with the reset, the second revision where it is in force, and the format
first_bytes : map (λ k. spellings (first_commands k))
    (blank 24 true 1 ∷ blank 24 false 1 ∷ blank 20 true 1 ∷ blank 20 false 1 ∷ blank 24 true 2 ∷ []) ≡
    (0x1F ∷ 0x2F ∷ 0x42 ∷ 0x1F ∷ 0x2D ∷ 0x41 ∷ 0x70 ∷ [])
    ∷ (0x1F ∷ 0x2F ∷ 0x42 ∷ 0x1F ∷ 0x2D ∷ 0x41 ∷ 0x71 ∷ [])
    ∷ (0x1F ∷ 0x2F ∷ 0x42 ∷ 0x1F ∷ 0x2D ∷ 0x42 ∷ 0x70 ∷ [])
    ∷ (0x1F ∷ 0x2F ∷ 0x42 ∷ 0x1F ∷ 0x2D ∷ 0x42 ∷ 0x71 ∷ [])
    ∷ (0x1F ∷ 0x2F ∷ 0x42 ∷ 0x1F ∷ 0x2F ∷ 0x45 ∷ 0x1F ∷ 0x2D ∷ 0x41 ∷ 0x70 ∷ []) ∷ []
unfolding spelling
first_bytes = refl

-- an area in two digits each, and implicit scrolling where it is on
areas : map (λ area. spellings (area_commands area)) (Some (1, 24) ∷ Some (9, 10) ∷ None ∷ []) ≡
    (0x9B ∷ 0x30 ∷ 0x31 ∷ 0x3B ∷ 0x32 ∷ 0x34 ∷ 0x55 ∷ []) ∷ (0x9B ∷ 0x30 ∷ 0x39 ∷ 0x3B ∷ 0x31 ∷ 0x30 ∷ 0x55 ∷ [])
    ∷ [] ∷ []
unfolding spelling
areas = refl

implicit_scrolling : map (λ on. spellings (implicit_commands on)) (true ∷ false ∷ [])
    ≡ (0x9B ∷ 0x32 ∷ 0x60 ∷ []) ∷ [] ∷ []
unfolding spelling
implicit_scrolling = refl

-- 6x5 pixels in one plane, pixel y of line y
abbrev falling : Pattern
falling = record { w = 6; h = 5; planes = 1; bits = 0x10204081 ∷ 0 ∷ 0 ∷ 0 ∷ 0 ∷ 0 ∷ 0 ∷ 0 ∷ 0 ∷ [] }

-- each part once: revision, format, entry, DCLUT, pattern, screen, row, cell, area and implicit scrolling
abbrev all_parts : List Command
all_parts = commands.Revision 2 ∷ commands.Format 20 false ∷ commands.Implicit true ∷ commands.AreaCreate 2 5
    ∷ commands.Graphic 0x41 ∷ commands.Position 20 1 ∷ commands.FullRow 17 ∷ commands.FullScreen 20
    ∷ commands.DrcsPattern 0x7E falling ∷ commands.Dclut 1 9 ∷ commands.Entry 31 (record { r = 15; g = 0; b = 0 }) ∷ []

page_of_all_parts : compact_text (core all_parts)
    ≡ 0x1F ∷ 0x2F ∷ 0x42 ∷ 0x1F ∷ 0x2F ∷ 0x45 ∷ 0x1F ∷ 0x2D ∷ 0x42 ∷ 0x71
    ∷ 0x1F ∷ 0x26 ∷ 0x20 ∷ 0x20 ∷ 0x1F ∷ 0x26 ∷ 0x33 ∷ 0x31 ∷ 0x64 ∷ 0x64
    ∷ 0x1F ∷ 0x26 ∷ 0x20 ∷ 0x22 ∷ 0x1F ∷ 0x26 ∷ 0x30 ∷ 0x30 ∷ 0x40 ∷ 0x49 ∷ 0x42 ∷ 0x43
    ∷ 0x1F ∷ 0x23 ∷ 0x20 ∷ 0x20 ∷ 0x40 ∷ 0x3C ∷ 0x41 ∷ 0x1F ∷ 0x23 ∷ 0x7E ∷ 0x30 ∷ 0x60 ∷ 0x50 ∷ 0x48 ∷ 0x44 ∷ 0x42
    ∷ 0x9B ∷ 0x30 ∷ 0x40 ∷ 0x1B ∷ 0x23 ∷ 0x20 ∷ 0x54
    ∷ 0x1F ∷ 0x54 ∷ 0x41 ∷ 0x9B ∷ 0x30 ∷ 0x40 ∷ 0x1B ∷ 0x23 ∷ 0x21 ∷ 0x51
    ∷ 0x1F ∷ 0x41 ∷ 0x41 ∷ 0x1B ∷ 0x22 ∷ 0x41 ∷ 0x41
    ∷ 0x9B ∷ 0x30 ∷ 0x32 ∷ 0x3B ∷ 0x30 ∷ 0x35 ∷ 0x55 ∷ 0x9B ∷ 0x32 ∷ 0x60 ∷ []
unfolding compact_commands changed_commands changed_below defined_commands defined_below rows_below segments_commands written_below chains spelling attributes_of default_paints table row_of list_by_index set_of read_as effect_of_copies pattern_bytes plane_bytes line_bytes half_line_byte
page_of_all_parts = refl
