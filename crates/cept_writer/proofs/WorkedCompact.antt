-- Worked cells, entries and patterns of the compact text, by computing.
use Rattle.std.proofs.Common.{◌≡◌, ℕ, ◌+◌, Bool, Some, true, false, List, [], ◌∷◌, ◌++◌, refl}
use Rattle.cept_codes.specs.declared.attribute.Pen.{Pen}
use Rattle.cept_codes.specs.declared.attribute.Size.{Size}
use Rattle.cept_codes.specs.declared.attribute.Size.TheVariants as sizes
use Rattle.cept_codes.specs.declared.attribute.Flash.TheVariants as flashes
use Rattle.cept_codes.specs.declared.cell.Marker.TheVariants as markers
use Rattle.cept_codes.specs.declared.cell.What.{What}
use Rattle.cept_codes.specs.declared.cell.What.TheVariants as whats
use Rattle.cept_codes.specs.declared.command.Command.{Command}
use Rattle.cept_codes.specs.declared.command.Command.TheVariants as commands
use Rattle.cept_codes.specs.declared.glyph.Glyph.{Glyph}
use Rattle.cept_codes.specs.declared.glyph.SetId.{SetId}
use Rattle.cept_codes.specs.declared.glyph.SetId.TheVariants as sets
use Rattle.cept_codes.specs.declared.look.Pattern.{Pattern}
use Rattle.cept_codes.specs.Attribute.{unset_pen}
use Rattle.cept_parser.specs.Spelling.{spelling, spellings}
use Rattle.cept_writer.specs.AttributeCommands.{attributes_of}
use Rattle.cept_writer.specs.Chains.{chains}
use Rattle.cept_writer.specs.CompactCommands.{CodedPattern, NumberedColour, colours_commands, form_commands}
use Rattle.cept_writer.specs.CompactCommands.{is_next_entry, is_of_same_form}
use Rattle.cept_writer.specs.SegmentCommands.{PlacedCell, continues, segment_commands}
use Rattle.std.specs.List.{flat_map}

-- cells one after the other from a column of the first row on
abbrev row_from : ℕ → Bool → List What → List PlacedCell
row_from c protected [] = []
row_from c protected (what ∷ more) =
    record { place = record { row = 1; column = c }; cell = record { what = what; protected = protected } }
    ∷ row_from (c + 1) protected more

-- the bytes of cells in segments
abbrev bytes_of : List PlacedCell → List ℕ
bytes_of cells = spellings (flat_map segment_commands (chains continues cells))

abbrev glyph : SetId → ℕ → ℕ → Glyph
glyph set code accent = record { set = set; code = code; accent = accent }

-- signs under the parallel set without a pen: of set P, of another set, with an accent, and with a pen
abbrev sign : ℕ → What
sign code = whats.Parallel (glyph sets.P code 0) unset_pen

abbrev sign_of : SetId → ℕ → What
sign_of set code = whats.Parallel (glyph set code 0) unset_pen

abbrev accented : ℕ → ℕ → What
accented accent code = whats.Parallel (glyph sets.P code accent) unset_pen

abbrev with_pen : Pen → ℕ → What
with_pen pen code = whats.Parallel (glyph sets.P code 0) pen

-- a sign under the serial set
abbrev serial : ℕ → What
serial code = whats.Serial (glyph sets.P code 0)

abbrev sized : Size → Pen
sized size = record unset_pen { size = Some size }

-- four equal signs are repeated, three are not
pub four_are_repeated : bytes_of (row_from 1 false (sign 0x41 ∷ sign 0x41 ∷ sign 0x41 ∷ sign 0x41 ∷ sign 0x42
    ∷ sign 0x42 ∷ sign 0x42 ∷ []))
    ≡ 0x1F ∷ 0x41 ∷ 0x41 ∷ 0x1B ∷ 0x22 ∷ 0x41 ∷ 0x41 ∷ 0x12 ∷ 0x43 ∷ 0x42 ∷ 0x42 ∷ 0x42 ∷ []
unfolding chains spelling attributes_of
four_are_repeated = refl

-- of signs of two bytes two are not
pub two_of_two_bytes : bytes_of (row_from 1 false (sign_of sets.S 0x61 ∷ sign_of sets.S 0x61 ∷ []))
    ≡ 0x1F ∷ 0x41 ∷ 0x41 ∷ 0x1B ∷ 0x22 ∷ 0x41 ∷ 0x19 ∷ 0x61 ∷ 0x19 ∷ 0x61 ∷ []
unfolding chains spelling attributes_of
two_of_two_bytes = refl

-- three are
pub three_of_two_bytes : bytes_of (row_from 1 false (sign_of sets.S 0x61 ∷ sign_of sets.S 0x61 ∷ sign_of sets.S 0x61
    ∷ []))
    ≡ 0x1F ∷ 0x41 ∷ 0x41 ∷ 0x1B ∷ 0x22 ∷ 0x41 ∷ 0x19 ∷ 0x61 ∷ 0x12 ∷ 0x42 ∷ []
unfolding chains spelling attributes_of
three_of_two_bytes = refl

-- of signs with an accent two are, and the accent is repeated with them
pub two_of_three_bytes : bytes_of (row_from 1 false (accented 0x48 0x61 ∷ accented 0x48 0x61 ∷ []))
    ≡ 0x1F ∷ 0x41 ∷ 0x41 ∷ 0x1B ∷ 0x22 ∷ 0x41 ∷ 0x19 ∷ 0x48 ∷ 0x61 ∷ 0x12 ∷ 0x41 ∷ []
unfolding chains spelling attributes_of
two_of_three_bytes = refl

-- the same code without the accent is another sign
pub another_accent : bytes_of (row_from 1 false (accented 0x40 0x61 ∷ sign 0x61 ∷ accented 0x40 0x61 ∷ []))
    ≡ 0x1F ∷ 0x41 ∷ 0x41 ∷ 0x1B ∷ 0x22 ∷ 0x41 ∷ 0x19 ∷ 0x40 ∷ 0x61 ∷ 0x61 ∷ 0x19 ∷ 0x40 ∷ 0x61 ∷ []
unfolding chains spelling attributes_of
another_accent = refl

-- the space is a sign of set P, so it parts mosaics
pub space_ends_the_mosaics : bytes_of (row_from 1 false (sign_of sets.M 0x21 ∷ sign_of sets.M 0x21
    ∷ sign_of sets.M 0x21 ∷ sign_of sets.M 0x21 ∷ sign 0x20 ∷ sign_of sets.M 0x21 ∷ sign_of sets.M 0x21
    ∷ sign_of sets.M 0x21 ∷ []))
    ≡ 0x1F ∷ 0x41 ∷ 0x41 ∷ 0x1B ∷ 0x22 ∷ 0x41 ∷ 0x0E ∷ 0x21 ∷ 0x12 ∷ 0x43 ∷ 0x0F ∷ 0x20 ∷ 0x0E ∷ 0x21 ∷ 0x21 ∷ 0x21
    ∷ 0x0F ∷ []
unfolding chains spelling attributes_of
space_ends_the_mosaics = refl

-- what stands round signs of one set does not count where they are repeated
pub downloaded_signs : bytes_of (row_from 1 false (sign_of sets.D 0x21 ∷ sign_of sets.D 0x21 ∷ sign_of sets.D 0x21
    ∷ sign_of sets.D 0x21 ∷ sign_of sets.D 0x22 ∷ sign 0x41 ∷ []))
    ≡ 0x1F ∷ 0x41 ∷ 0x41 ∷ 0x1B ∷ 0x22 ∷ 0x41 ∷ 0x1B ∷ 0x28 ∷ 0x20 ∷ 0x40 ∷ 0x21 ∷ 0x12 ∷ 0x43 ∷ 0x22 ∷ 0x1B ∷ 0x28
    ∷ 0x40 ∷ 0x41 ∷ []
unfolding chains spelling attributes_of
downloaded_signs = refl

-- the same code in four sets
pub four_sets : bytes_of (row_from 1 false (sign 0x61 ∷ sign_of sets.S 0x61 ∷ sign_of sets.M 0x61
    ∷ sign_of sets.N 0x61 ∷ []))
    ≡ 0x1F ∷ 0x41 ∷ 0x41 ∷ 0x1B ∷ 0x22 ∷ 0x41 ∷ 0x61 ∷ 0x19 ∷ 0x61 ∷ 0x0E ∷ 0x61 ∷ 0x0F ∷ 0x1D ∷ 0x61 ∷ []
unfolding chains spelling attributes_of
four_sets = refl

-- double height goes on, another pen does not
pub high_goes_on : bytes_of (row_from 1 false (with_pen (sized sizes.High) 0x41 ∷ with_pen (sized sizes.High) 0x41
    ∷ with_pen (sized sizes.High) 0x41 ∷ with_pen (sized sizes.High) 0x41 ∷ with_pen (sized sizes.Normal) 0x41
    ∷ []))
    ≡ 0x1F ∷ 0x41 ∷ 0x41 ∷ 0x1B ∷ 0x22 ∷ 0x41 ∷ 0x8D ∷ 0x41 ∷ 0x12 ∷ 0x43 ∷ 0x1F ∷ 0x41 ∷ 0x45 ∷ 0x1B ∷ 0x22 ∷ 0x41
    ∷ 0x8C ∷ 0x41 ∷ []
unfolding chains spelling attributes_of
high_goes_on = refl

-- equal pens of double width, and of double size, do not
pub wide_ends : bytes_of (row_from 1 false (with_pen (sized sizes.Wide) 0x41 ∷ with_pen (sized sizes.Wide) 0x42
    ∷ with_pen (sized sizes.Both) 0x41 ∷ with_pen (sized sizes.Both) 0x41 ∷ []))
    ≡ 0x1F ∷ 0x41 ∷ 0x41 ∷ 0x1B ∷ 0x22 ∷ 0x41 ∷ 0x8E ∷ 0x41 ∷ 0x1F ∷ 0x41 ∷ 0x42 ∷ 0x1B ∷ 0x22 ∷ 0x41 ∷ 0x8E ∷ 0x42
    ∷ 0x1F ∷ 0x41 ∷ 0x43 ∷ 0x1B ∷ 0x22 ∷ 0x41 ∷ 0x8F ∷ 0x41 ∷ 0x1F ∷ 0x41 ∷ 0x44 ∷ 0x1B ∷ 0x22 ∷ 0x41 ∷ 0x8F ∷ 0x41
    ∷ []
unfolding chains spelling attributes_of
wide_ends = refl

-- a class that is unset is another than one at its default
pub unset_is_not_steady : bytes_of (row_from 1 false (sign 0x41
    ∷ with_pen (record unset_pen { flash = Some flashes.Steady }) 0x42
    ∷ with_pen (record unset_pen { fore = Some 7 }) 0x43 ∷ []))
    ≡ 0x1F ∷ 0x41 ∷ 0x41 ∷ 0x1B ∷ 0x22 ∷ 0x41 ∷ 0x41 ∷ 0x1F ∷ 0x41 ∷ 0x42 ∷ 0x1B ∷ 0x22 ∷ 0x41 ∷ 0x89 ∷ 0x42 ∷ 0x1F
    ∷ 0x41 ∷ 0x43 ∷ 0x1B ∷ 0x22 ∷ 0x41 ∷ 0x9B ∷ 0x30 ∷ 0x40 ∷ 0x87 ∷ 0x43 ∷ []
unfolding chains spelling attributes_of
unset_is_not_steady = refl

-- signs of the two C1 sets stand apart, signs and markers of the serial set together
pub serial_after_parallel : bytes_of (row_from 1 false (sign 0x41 ∷ serial 0x42 ∷ whats.Marker (markers.Alpha 1)
    ∷ serial 0x43 ∷ sign 0x44 ∷ []))
    ≡ 0x1F ∷ 0x41 ∷ 0x41 ∷ 0x1B ∷ 0x22 ∷ 0x41 ∷ 0x41 ∷ 0x1F ∷ 0x41 ∷ 0x42 ∷ 0x1B ∷ 0x22 ∷ 0x40 ∷ 0x42 ∷ 0x9B ∷ 0x30
    ∷ 0x40 ∷ 0x81 ∷ 0x43 ∷ 0x1F ∷ 0x41 ∷ 0x45 ∷ 0x1B ∷ 0x22 ∷ 0x41 ∷ 0x44 ∷ []
unfolding chains spelling attributes_of
serial_after_parallel = refl

-- a Mosaic marker ends its segment, an Alpha marker does not
pub mosaic_marker_ends : bytes_of (row_from 1 false (whats.Marker (markers.Mosaic 1)
    ∷ whats.Serial (glyph sets.M 0x73 0) ∷ whats.Marker (markers.Alpha 1) ∷ serial 0x41 ∷ []))
    ≡ 0x1F ∷ 0x41 ∷ 0x41 ∷ 0x1B ∷ 0x22 ∷ 0x40 ∷ 0x9B ∷ 0x30 ∷ 0x40 ∷ 0x91 ∷ 0x1F ∷ 0x41 ∷ 0x42 ∷ 0x1B ∷ 0x22 ∷ 0x40
    ∷ 0x0E ∷ 0x73 ∷ 0x0F ∷ 0x9B ∷ 0x30 ∷ 0x40 ∷ 0x81 ∷ 0x41 ∷ []
unfolding chains spelling attributes_of
mosaic_marker_ends = refl

-- it may be the last of its segment
pub mosaic_marker_may_be_last : bytes_of (row_from 1 false (serial 0x41 ∷ whats.Marker (markers.Mosaic 1)
    ∷ whats.Marker (markers.Mosaic 2) ∷ []))
    ≡ 0x1F ∷ 0x41 ∷ 0x41 ∷ 0x1B ∷ 0x22 ∷ 0x40 ∷ 0x41 ∷ 0x9B ∷ 0x30 ∷ 0x40 ∷ 0x91 ∷ 0x1F ∷ 0x41 ∷ 0x43 ∷ 0x1B ∷ 0x22
    ∷ 0x40 ∷ 0x9B ∷ 0x30 ∷ 0x40 ∷ 0x92 ∷ []
unfolding chains spelling attributes_of
mosaic_marker_may_be_last = refl

-- a marker of a size ends it too, that of normal size as well
pub size_marker_ends : bytes_of (row_from 1 false (whats.Marker (markers.Size sizes.Normal) ∷ serial 0x41
    ∷ whats.Marker (markers.Size sizes.High) ∷ serial 0x42 ∷ []))
    ≡ 0x1F ∷ 0x41 ∷ 0x41 ∷ 0x1B ∷ 0x22 ∷ 0x40 ∷ 0x8C ∷ 0x1F ∷ 0x41 ∷ 0x42 ∷ 0x1B ∷ 0x22 ∷ 0x40 ∷ 0x41 ∷ 0x8D ∷ 0x1F
    ∷ 0x41 ∷ 0x44 ∷ 0x1B ∷ 0x22 ∷ 0x40 ∷ 0x42 ∷ []
unfolding chains spelling attributes_of
size_marker_ends = refl

-- equal markers are not repeated
pub markers_are_not_repeated : bytes_of (row_from 1 false (whats.Marker markers.Hold
    ∷ whats.Marker (markers.Flash flashes.Steady) ∷ whats.Marker (markers.Flash flashes.Steady)
    ∷ whats.Marker (markers.Flash flashes.Steady) ∷ whats.Marker (markers.Flash flashes.Steady)
    ∷ whats.Marker (markers.Conceal true) ∷ whats.Marker (markers.Conceal false) ∷ []))
    ≡ 0x1F ∷ 0x41 ∷ 0x41 ∷ 0x1B ∷ 0x22 ∷ 0x40 ∷ 0x9E ∷ 0x89 ∷ 0x89 ∷ 0x89 ∷ 0x89 ∷ 0x98 ∷ 0x9B ∷ 0x42 ∷ []
unfolding chains spelling attributes_of
markers_are_not_repeated = refl

-- a marker parts equal signs
pub marker_parts_signs : bytes_of (row_from 1 false (serial 0x41 ∷ serial 0x41
    ∷ whats.Marker (markers.Flash flashes.Steady) ∷ serial 0x41 ∷ serial 0x41 ∷ []))
    ≡ 0x1F ∷ 0x41 ∷ 0x41 ∷ 0x1B ∷ 0x22 ∷ 0x40 ∷ 0x41 ∷ 0x41 ∷ 0x89 ∷ 0x41 ∷ 0x41 ∷ []
unfolding chains spelling attributes_of
marker_parts_signs = refl

-- protection stands round a whole segment and parts it
pub protection_parts : bytes_of (row_from 1 true (sign 0x41 ∷ sign 0x41 ∷ []) ++ row_from 3 false (sign 0x41 ∷ []))
    ≡ 0x1F ∷ 0x41 ∷ 0x41 ∷ 0x9B ∷ 0x31 ∷ 0x50 ∷ 0x1B ∷ 0x22 ∷ 0x41 ∷ 0x41 ∷ 0x41 ∷ 0x9B ∷ 0x31 ∷ 0x51 ∷ 0x1F ∷ 0x41
    ∷ 0x43 ∷ 0x1B ∷ 0x22 ∷ 0x41 ∷ 0x41 ∷ []
unfolding chains spelling attributes_of
protection_parts = refl

-- a place without a cell parts segments, a space does not
pub gap_parts : bytes_of (row_from 1 false (sign 0x41 ∷ []) ++ row_from 3 false (sign 0x42 ∷ sign 0x20 ∷ sign 0x43
    ∷ []))
    ≡ 0x1F ∷ 0x41 ∷ 0x41 ∷ 0x1B ∷ 0x22 ∷ 0x41 ∷ 0x41 ∷ 0x1F ∷ 0x41 ∷ 0x43 ∷ 0x1B ∷ 0x22 ∷ 0x41 ∷ 0x42 ∷ 0x20 ∷ 0x43
    ∷ []
unfolding chains spelling attributes_of
gap_parts = refl

-- no segment goes on in the row below
pub row_ends : bytes_of (row_from 40 false (sign 0x41
    ∷ []) ++ (record { place = record { row = 2; column = 1 }; cell = record { what = sign 0x42; protected = false } })
    ∷ [])
    ≡ 0x1F ∷ 0x41 ∷ 0x68 ∷ 0x1B ∷ 0x22 ∷ 0x41 ∷ 0x41 ∷ 0x1F ∷ 0x42 ∷ 0x41 ∷ 0x1B ∷ 0x22 ∷ 0x41 ∷ 0x42 ∷ []
unfolding chains spelling attributes_of
row_ends = refl

-- ---- colour entries

abbrev colour : ℕ → ℕ → NumberedColour
colour n shade = record { number = n; colour = record { r = 0; g = shade; b = 0 } }

-- neighbours stand after the number of the first, over the end of a table too
pub entries_in_runs : spellings (flat_map colours_commands (chains is_next_entry (colour 1 0 ∷ colour 2 15 ∷ colour 4 15
    ∷ colour 7 0 ∷ colour 8 0 ∷ [])))
    ≡ 0x1F ∷ 0x26 ∷ 0x30 ∷ 0x31 ∷ 0x40 ∷ 0x40 ∷ 0x52 ∷ 0x52 ∷ 0x1F ∷ 0x26 ∷ 0x30 ∷ 0x34 ∷ 0x52 ∷ 0x52 ∷ 0x1F ∷ 0x26
    ∷ 0x30 ∷ 0x37 ∷ 0x40 ∷ 0x40 ∷ 0x40 ∷ 0x40 ∷ []
unfolding chains spelling
entries_in_runs = refl

-- ---- patterns

abbrev full : ℕ → Pattern
full h = record { w = 6; h = h; planes = 1; bits = 0x3FFFFFFF ∷ 0 ∷ 0 ∷ 0 ∷ 0 ∷ 0 ∷ 0 ∷ 0 ∷ 0 ∷ [] }

abbrev coded : ℕ → ℕ → CodedPattern
coded code h = record { code = code; pattern = full h }

abbrev form : ℕ → Command
form h = commands.DrcsHeader false (record { w = 6; h = h; planes = 1 })

-- the next code of the same form has neither header nor start
pub next_code : flat_map form_commands (chains is_of_same_form (coded 0x21 5 ∷ coded 0x22 5 ∷ []))
    ≡ form 5 ∷ commands.DrcsStart 0x21 ∷ commands.DrcsPattern 0x21 (full 5) ∷ commands.DrcsPattern 0x22 (full 5) ∷ []
unfolding chains
next_code = refl

-- another code of the same form has a start alone
pub another_code : flat_map form_commands (chains is_of_same_form (coded 0x21 5 ∷ coded 0x23 5 ∷ []))
    ≡ form 5 ∷ commands.DrcsStart 0x21 ∷ commands.DrcsPattern 0x21 (full 5) ∷ commands.DrcsStart 0x23
    ∷ commands.DrcsPattern 0x23 (full 5) ∷ []
unfolding chains
another_code = refl

-- after another form the header comes again, and with it the start
pub form_there_and_back : flat_map form_commands
    (chains is_of_same_form (coded 0x21 5 ∷ coded 0x22 6 ∷ coded 0x23 5 ∷ []))
    ≡ form 5 ∷ commands.DrcsStart 0x21 ∷ commands.DrcsPattern 0x21 (full 5) ∷ form 6 ∷ commands.DrcsStart 0x22
    ∷ commands.DrcsPattern 0x22 (full 6) ∷ form 5 ∷ commands.DrcsStart 0x23 ∷ commands.DrcsPattern 0x23 (full 5) ∷ []
unfolding chains
form_there_and_back = refl
