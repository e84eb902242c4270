-- The commands that write cells in segments (own): neighbours of a row that can be written on one after the other stand
-- after one position, with their protection, their C1 set and their pen said once. Within a segment signs of one set
-- stand together, and equal signs are repeated where that is shorter.
use Rattle.std.specs.Prelude.{ℕ, ◌+◌, ◌*◌, Bool, true, false, not, ◌&&◌, List, [], ◌∷◌, ◌++◌, ◌==◌, nat_le, length, flat_map}
use Rattle.std.specs.Prelude.{map, if◌then◌else◌, unwrap_or}
use Rattle.std.specs.List.{range_with_len}
use Rattle.cept_codes.specs.declared.attribute.Size.TheVariants as sizes
use Rattle.cept_codes.specs.declared.cell.Cell.{Cell}
use Rattle.cept_codes.specs.declared.cell.Marker.{Marker}
use Rattle.cept_codes.specs.declared.cell.Marker.TheVariants as markers
use Rattle.cept_codes.specs.declared.cell.What.{What}
use Rattle.cept_codes.specs.declared.cell.What.TheVariants as whats
use Rattle.cept_codes.specs.declared.command.C1Set.TheVariants as c1sets
use Rattle.cept_codes.specs.declared.command.Command.{Command}
use Rattle.cept_codes.specs.declared.command.Command.TheVariants as commands
use Rattle.cept_codes.specs.declared.glyph.Glyph.{Glyph}
use Rattle.cept_codes.specs.declared.glyph.SetId.{SetId}
use Rattle.cept_codes.specs.declared.glyph.SetId.TheVariants as sets
use Rattle.cept_codes.specs.Place.{Place, place_of}
use Rattle.cept_codes.specs.Same.{same_glyph, same_pen, same_set}
use Rattle.cept_parser.specs.Spelling.{spellings}
use Rattle.cept_profile.specs.Tiling.{columns_of_size}
use Rattle.cept_writer.specs.AttributeCommands.{pen_commands}
use Rattle.cept_writer.specs.CellCommands.{accent_commands, marker_commands, protected_commands}
use Rattle.cept_writer.specs.Chains.{Chain, chains, members}
use Rattle.cept_writer.specs.PageCommands.{cell_numbered}

-- ---- cells that are written

-- a cell at its place
pub record PlacedCell : Type 0 where
  pub place : Place
  pub cell : Cell

-- a cell that is written; none where it is blank
abbrev pub written_cell : Place → Bool → What → List PlacedCell
written_cell p protected whats.Blank = []
written_cell p protected what = record { place = p; cell = record { what = what; protected = protected } } ∷ []

-- those among the first n cells in reading order
unfoldable pub written_below : List (List Cell) → ℕ → List PlacedCell
written_below cells n =
    flat_map (λ m. written_cell (place_of m) (cell_numbered cells m).protected (cell_numbered cells m).what)
    (range_with_len 0 n)

-- ---- segments

-- the second place is directly right of the first
abbrev pub is_next_place : Place → Place → Bool
is_next_place p q = p.row == q.row && p.column + 1 == q.column

-- both are protected, or none is
abbrev pub is_same_protection : Bool → Bool → Bool
is_same_protection true protected = protected
is_same_protection false protected = not protected

-- a marker that ends its segment: after it left bytes are mosaics, or signs may move on by two columns
abbrev pub ends_segment : Marker → Bool
ends_segment (markers.Mosaic e) = true
ends_segment (markers.Size size) = true
ends_segment _ = false

-- what may be written on after what stands left of it: under the parallel set with an equal pen whose signs take one
-- column, under the serial set but after a marker that ends its segment
abbrev pub is_written_on : What → What → Bool
is_written_on (whats.Parallel g pen) (whats.Parallel h next) =
    same_pen pen next && columns_of_size (unwrap_or pen.size sizes.Normal) == 1
is_written_on (whats.Serial g) (whats.Serial h) = true
is_written_on (whats.Serial g) (whats.Marker m) = true
is_written_on (whats.Marker m) (whats.Serial h) = not (ends_segment m)
is_written_on (whats.Marker m) (whats.Marker n) = not (ends_segment m)
is_written_on _ _ = false

-- a cell continues the one directly left of it
abbrev pub continues : PlacedCell → PlacedCell → Bool
continues a b =
    is_next_place a.place b.place
    && (is_same_protection a.cell.protected b.cell.protected && is_written_on a.cell.what b.cell.what)

-- ---- within a segment

-- the sign of a cell, none of a marker
abbrev pub sign_in : What → List Glyph
sign_in (whats.Serial g) = g ∷ []
sign_in (whats.Parallel g pen) = g ∷ []
sign_in _ = []

-- both are signs, of one set
abbrev pub are_of_one_set : List Glyph → List Glyph → Bool
are_of_one_set (g ∷ []) (h ∷ []) = same_set g.set h.set
are_of_one_set _ _ = false

-- the second is a sign of the same set as the first
abbrev pub is_of_same_set : What → What → Bool
is_of_same_set a b = are_of_one_set (sign_in a) (sign_in b)

-- what comes before signs of a set that stand together
abbrev pub opening_commands : SetId → List Command
opening_commands sets.M = commands.LockLeft 1 ∷ []
opening_commands sets.D = commands.Designate 0 sets.D ∷ []
opening_commands _ = []

-- what comes after them, so that all sets are as at the start
abbrev pub closing_commands : SetId → List Command
closing_commands sets.M = commands.LockLeft 0 ∷ []
closing_commands sets.D = commands.Designate 0 sets.P ∷ []
closing_commands _ = []

-- a sign among those of its set, by its code and its accent
abbrev pub unit_of_set : SetId → ℕ → ℕ → List Command
unit_of_set sets.P code accent = accent_commands accent ++ commands.Graphic code ∷ []
unit_of_set sets.S code accent = commands.Single 2 ∷ commands.Graphic code ∷ []
unit_of_set sets.M code accent = commands.Graphic code ∷ []
unit_of_set sets.N code accent = commands.Single 3 ∷ commands.Graphic code ∷ []
unit_of_set sets.D code accent = commands.Graphic code ∷ []

-- the same of a glyph
abbrev pub unit_commands : Glyph → List Command
unit_commands g = unit_of_set g.set g.code g.accent

-- a repetition of n signs more takes two bytes, and saves the bytes of n units
abbrev pub is_shorter_repeated : ℕ → Glyph → Bool
is_shorter_repeated n g = nat_le 3 (n * length (spellings (unit_commands g)))

-- equal signs: the first, and how often it is repeated where that is shorter; else each of them
abbrev pub run_commands : Chain Glyph → List Command
run_commands run =
    if is_shorter_repeated (length run.more) run.first
    then unit_commands run.first ++ commands.Repeat (length run.more) ∷ []
    else flat_map unit_commands (members run)

-- signs of one set
abbrev pub signs_commands : SetId → List Glyph → List Command
signs_commands set signs =
    opening_commands set ++ (flat_map run_commands (chains same_glyph signs) ++ closing_commands set)

-- a marker, or what begins with this sign
abbrev pub stretch_from : What → List Glyph → List Command
stretch_from whats.Blank signs = []
stretch_from (whats.Serial g) signs = signs_commands g.set signs
stretch_from (whats.Parallel g pen) signs = signs_commands g.set signs
stretch_from (whats.Marker m) signs = marker_commands m

-- a marker, or signs of one set that stand together
abbrev pub stretch_commands : Chain What → List Command
stretch_commands stretch = stretch_from stretch.first (flat_map sign_in (members stretch))

-- the C1 set of what stands in a cell, with the pen of signs under the parallel set
abbrev pub manner_commands : What → List Command
manner_commands whats.Blank = []
manner_commands (whats.Serial g) = commands.DesignateC1 c1sets.Serial ∷ []
manner_commands (whats.Parallel g pen) =
    commands.DesignateC1 c1sets.Parallel ∷ pen_commands (λ n. commands.C1 n) pen
manner_commands (whats.Marker m) = commands.DesignateC1 c1sets.Serial ∷ []

-- what stands in the cells of a segment
abbrev pub contents_commands : List What → List Command
contents_commands whats = flat_map stretch_commands (chains is_of_same_set whats)

-- a segment at the place of its first cell
abbrev pub segment_commands : Chain PlacedCell → List Command
segment_commands segment =
    commands.Position segment.first.place.row segment.first.place.column
    ∷ protected_commands segment.first.cell.protected
    (manner_commands segment.first.cell.what ++ contents_commands (map (λ a. a.cell.what) (members segment)))

-- the segments of all cells in reading order
unfoldable pub segments_commands : List (List Cell) → List Command
segments_commands cells = flat_map segment_commands (chains continues (written_below cells 960))
