-- Worked tables: the bytes of each attribute of signs, of a row and of the screen, and of each marker, by computing.
use Rattle.std.proofs.Common.{◌≡◌, ℕ, List, [], ◌∷◌, map, Some, true, false, refl}
use Rattle.cept_codes.specs.declared.attribute.Attr.{Attr}
use Rattle.cept_codes.specs.declared.attribute.Attr.TheVariants as attrs
use Rattle.cept_codes.specs.declared.attribute.Flash.TheVariants.{Fast1, Fast2, Fast3, Inverted, Plain, Reduced, Steady}
use Rattle.cept_codes.specs.declared.attribute.Pen.{Pen}
use Rattle.cept_codes.specs.declared.attribute.Size.TheVariants.{Both, High, Normal, Wide}
use Rattle.cept_codes.specs.declared.cell.Marker.{Marker}
use Rattle.cept_codes.specs.declared.cell.Marker.TheVariants as markers
use Rattle.cept_codes.specs.declared.command.Command.{Command}
use Rattle.cept_codes.specs.declared.command.Command.TheVariants as commands
use Rattle.cept_parser.specs.Spelling.{spelling, spellings}
use Rattle.cept_writer.specs.AttributeCommands.{attribute_commands, attributes_of, pen_commands}
use Rattle.cept_writer.specs.CellCommands.{marker_commands}

-- attributes, each with its bytes, where codes stand for signs, for a row or for the screen
abbrev are_written : (ℕ → Command) → List (Attr × List ℕ) → Type 0
are_written code rows =
    map (λ (row : Attr × List ℕ). spellings (attribute_commands code row.0)) rows
    ≡ map (λ (row : Attr × List ℕ). row.1) rows

-- ---- signs

-- the table, and the code within it: the first and the last entry of each table
colours_of_signs : are_written (λ n. commands.C1 n) (
    (attrs.Fore 0, 0x9B ∷ 0x30 ∷ 0x40 ∷ 0x80 ∷ []) ∷ (attrs.Fore 7, 0x9B ∷ 0x30 ∷ 0x40 ∷ 0x87 ∷ [])
    ∷ (attrs.Fore 8, 0x9B ∷ 0x31 ∷ 0x40 ∷ 0x80 ∷ []) ∷ (attrs.Fore 15, 0x9B ∷ 0x31 ∷ 0x40 ∷ 0x87 ∷ [])
    ∷ (attrs.Fore 16, 0x9B ∷ 0x32 ∷ 0x40 ∷ 0x80 ∷ []) ∷ (attrs.Fore 23, 0x9B ∷ 0x32 ∷ 0x40 ∷ 0x87 ∷ [])
    ∷ (attrs.Fore 24, 0x9B ∷ 0x33 ∷ 0x40 ∷ 0x80 ∷ []) ∷ (attrs.Fore 31, 0x9B ∷ 0x33 ∷ 0x40 ∷ 0x87 ∷ [])
    ∷ (attrs.Back 0, 0x9B ∷ 0x30 ∷ 0x40 ∷ 0x90 ∷ []) ∷ (attrs.Back 7, 0x9B ∷ 0x30 ∷ 0x40 ∷ 0x97 ∷ [])
    ∷ (attrs.Back 8, 0x9B ∷ 0x31 ∷ 0x40 ∷ 0x90 ∷ []) ∷ (attrs.Back 15, 0x9B ∷ 0x31 ∷ 0x40 ∷ 0x97 ∷ [])
    ∷ (attrs.Back 16, 0x9B ∷ 0x32 ∷ 0x40 ∷ 0x90 ∷ []) ∷ (attrs.Back 23, 0x9B ∷ 0x32 ∷ 0x40 ∷ 0x97 ∷ [])
    ∷ (attrs.Back 24, 0x9B ∷ 0x33 ∷ 0x40 ∷ 0x90 ∷ []) ∷ (attrs.Back 31, 0x9B ∷ 0x33 ∷ 0x40 ∷ 0x97 ∷ []) ∷ [])
unfolding spelling
colours_of_signs = refl

attributes_of_signs : are_written (λ n. commands.C1 n) (
    (attrs.Flash Plain, 0x88 ∷ []) ∷ (attrs.Flash Steady, 0x89 ∷ [])
    ∷ (attrs.Flash Inverted, 0x9B ∷ 0x30 ∷ 0x41 ∷ []) ∷ (attrs.Flash Reduced, 0x9B ∷ 0x31 ∷ 0x41 ∷ [])
    ∷ (attrs.Flash Fast1, 0x9B ∷ 0x32 ∷ 0x41 ∷ []) ∷ (attrs.Flash Fast2, 0x9B ∷ 0x33 ∷ 0x41 ∷ [])
    ∷ (attrs.Flash Fast3, 0x9B ∷ 0x34 ∷ 0x41 ∷ [])
    ∷ (attrs.Conceal true, 0x98 ∷ []) ∷ (attrs.Conceal false, 0x9F ∷ [])
    ∷ (attrs.Lined true, 0x9A ∷ []) ∷ (attrs.Lined false, 0x99 ∷ [])
    ∷ (attrs.Boxed true, 0x8B ∷ []) ∷ (attrs.Boxed false, 0x8A ∷ [])
    ∷ (attrs.Size Normal, 0x8C ∷ []) ∷ (attrs.Size High, 0x8D ∷ [])
    ∷ (attrs.Size Wide, 0x8E ∷ []) ∷ (attrs.Size Both, 0x8F ∷ [])
    ∷ (attrs.Invert true, 0x9D ∷ []) ∷ (attrs.Invert false, 0x9C ∷ []) ∷ [])
unfolding spelling
attributes_of_signs = refl

-- ---- rows and the screen: 2/1 and 2/0 before the code less 4/0

attributes_of_rows : are_written (λ n. commands.FullRow n) (
    (attrs.Fore 26, 0x9B ∷ 0x33 ∷ 0x40 ∷ 0x1B ∷ 0x23 ∷ 0x21 ∷ 0x42 ∷ [])
    ∷ (attrs.Back 13, 0x9B ∷ 0x31 ∷ 0x40 ∷ 0x1B ∷ 0x23 ∷ 0x21 ∷ 0x55 ∷ [])
    ∷ (attrs.Flash Plain, 0x1B ∷ 0x23 ∷ 0x21 ∷ 0x48 ∷ []) ∷ (attrs.Flash Steady, 0x1B ∷ 0x23 ∷ 0x21 ∷ 0x49 ∷ [])
    ∷ (attrs.Conceal true, 0x1B ∷ 0x23 ∷ 0x21 ∷ 0x58 ∷ []) ∷ (attrs.Conceal false, 0x1B ∷ 0x23 ∷ 0x21 ∷ 0x5F ∷ [])
    ∷ (attrs.Lined true, 0x1B ∷ 0x23 ∷ 0x21 ∷ 0x5A ∷ []) ∷ (attrs.Lined false, 0x1B ∷ 0x23 ∷ 0x21 ∷ 0x59 ∷ [])
    ∷ (attrs.Boxed true, 0x1B ∷ 0x23 ∷ 0x21 ∷ 0x4B ∷ []) ∷ (attrs.Boxed false, 0x1B ∷ 0x23 ∷ 0x21 ∷ 0x4A ∷ [])
    ∷ (attrs.Size Normal, 0x1B ∷ 0x23 ∷ 0x21 ∷ 0x4C ∷ []) ∷ (attrs.Size High, 0x1B ∷ 0x23 ∷ 0x21 ∷ 0x4D ∷ [])
    ∷ (attrs.Size Wide, 0x1B ∷ 0x23 ∷ 0x21 ∷ 0x4E ∷ []) ∷ (attrs.Size Both, 0x1B ∷ 0x23 ∷ 0x21 ∷ 0x4F ∷ [])
    ∷ (attrs.Invert true, 0x1B ∷ 0x23 ∷ 0x21 ∷ 0x5D ∷ []) ∷ (attrs.Invert false, 0x1B ∷ 0x23 ∷ 0x21 ∷ 0x5C ∷ [])
    ∷ [])
unfolding spelling
attributes_of_rows = refl

attributes_of_the_screen : are_written (λ n. commands.FullScreen n) (
    (attrs.Fore 26, 0x9B ∷ 0x33 ∷ 0x40 ∷ 0x1B ∷ 0x23 ∷ 0x20 ∷ 0x42 ∷ [])
    ∷ (attrs.Back 13, 0x9B ∷ 0x31 ∷ 0x40 ∷ 0x1B ∷ 0x23 ∷ 0x20 ∷ 0x55 ∷ [])
    ∷ (attrs.Flash Plain, 0x1B ∷ 0x23 ∷ 0x20 ∷ 0x48 ∷ []) ∷ (attrs.Flash Steady, 0x1B ∷ 0x23 ∷ 0x20 ∷ 0x49 ∷ [])
    ∷ (attrs.Conceal true, 0x1B ∷ 0x23 ∷ 0x20 ∷ 0x58 ∷ []) ∷ (attrs.Conceal false, 0x1B ∷ 0x23 ∷ 0x20 ∷ 0x5F ∷ [])
    ∷ (attrs.Lined true, 0x1B ∷ 0x23 ∷ 0x20 ∷ 0x5A ∷ []) ∷ (attrs.Lined false, 0x1B ∷ 0x23 ∷ 0x20 ∷ 0x59 ∷ [])
    ∷ (attrs.Boxed true, 0x1B ∷ 0x23 ∷ 0x20 ∷ 0x4B ∷ []) ∷ (attrs.Boxed false, 0x1B ∷ 0x23 ∷ 0x20 ∷ 0x4A ∷ [])
    ∷ (attrs.Invert true, 0x1B ∷ 0x23 ∷ 0x20 ∷ 0x5D ∷ []) ∷ (attrs.Invert false, 0x1B ∷ 0x23 ∷ 0x20 ∷ 0x5C ∷ [])
    ∷ [])
unfolding spelling
attributes_of_the_screen = refl

-- ---- all classes of a pen, in their order

abbrev full : Pen
full = record {
  fore = Some 12;
  back = Some 27;
  flash = Some Plain;
  conceal = Some true;
  lined = Some false;
  boxed = Some true;
  size = Some High;
  invert = Some true;
}

pen_of_signs : spellings (pen_commands (λ n. commands.C1 n) full)
    ≡ 0x9B ∷ 0x31 ∷ 0x40 ∷ 0x84 ∷ 0x9B ∷ 0x33 ∷ 0x40 ∷ 0x93 ∷ 0x88 ∷ 0x98 ∷ 0x99 ∷ 0x8B ∷ 0x8D ∷ 0x9D ∷ []
unfolding spelling attributes_of
pen_of_signs = refl

pen_of_a_row : spellings (pen_commands (λ n. commands.FullRow n) full)
    ≡ 0x9B ∷ 0x31 ∷ 0x40 ∷ 0x1B ∷ 0x23 ∷ 0x21 ∷ 0x44 ∷ 0x9B ∷ 0x33 ∷ 0x40 ∷ 0x1B ∷ 0x23 ∷ 0x21 ∷ 0x53
    ∷ 0x1B ∷ 0x23 ∷ 0x21 ∷ 0x48 ∷ 0x1B ∷ 0x23 ∷ 0x21 ∷ 0x58 ∷ 0x1B ∷ 0x23 ∷ 0x21 ∷ 0x59 ∷ 0x1B ∷ 0x23 ∷ 0x21 ∷ 0x4B
    ∷ 0x1B ∷ 0x23 ∷ 0x21 ∷ 0x4D ∷ 0x1B ∷ 0x23 ∷ 0x21 ∷ 0x5D ∷ []
unfolding spelling attributes_of
pen_of_a_row = refl

-- ---- markers

-- markers, each with its bytes
abbrev mark : List (Marker × List ℕ) → Type 0
mark rows =
    map (λ (row : Marker × List ℕ). spellings (marker_commands row.0)) rows
    ≡ map (λ (row : Marker × List ℕ). row.1) rows

each_marker : mark (
    (markers.Alpha 0, 0x9B ∷ 0x30 ∷ 0x40 ∷ 0x80 ∷ []) ∷ (markers.Alpha 31, 0x9B ∷ 0x33 ∷ 0x40 ∷ 0x87 ∷ [])
    ∷ (markers.Mosaic 8, 0x9B ∷ 0x31 ∷ 0x40 ∷ 0x90 ∷ []) ∷ (markers.Mosaic 23, 0x9B ∷ 0x32 ∷ 0x40 ∷ 0x97 ∷ [])
    ∷ (markers.BlackBack, 0x9C ∷ []) ∷ (markers.NewBack, 0x9D ∷ [])
    ∷ (markers.Hold, 0x9E ∷ []) ∷ (markers.Release, 0x9F ∷ [])
    ∷ (markers.Flash Plain, 0x88 ∷ []) ∷ (markers.Flash Steady, 0x89 ∷ [])
    ∷ (markers.Flash Inverted, 0x9B ∷ 0x30 ∷ 0x41 ∷ []) ∷ (markers.Flash Reduced, 0x9B ∷ 0x31 ∷ 0x41 ∷ [])
    ∷ (markers.Flash Fast1, 0x9B ∷ 0x32 ∷ 0x41 ∷ []) ∷ (markers.Flash Fast2, 0x9B ∷ 0x33 ∷ 0x41 ∷ [])
    ∷ (markers.Flash Fast3, 0x9B ∷ 0x34 ∷ 0x41 ∷ [])
    ∷ (markers.Conceal true, 0x98 ∷ []) ∷ (markers.Conceal false, 0x9B ∷ 0x42 ∷ [])
    ∷ (markers.Lined true, 0x9A ∷ []) ∷ (markers.Lined false, 0x99 ∷ [])
    ∷ (markers.Boxed true, 0x8B ∷ []) ∷ (markers.Boxed false, 0x8A ∷ [])
    ∷ (markers.Size Normal, 0x8C ∷ []) ∷ (markers.Size High, 0x8D ∷ [])
    ∷ (markers.Size Wide, 0x8E ∷ []) ∷ (markers.Size Both, 0x8F ∷ []) ∷ [])
unfolding spelling
each_marker = refl
