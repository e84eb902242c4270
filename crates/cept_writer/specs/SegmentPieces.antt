-- The order in which a page is put (own): its segments, a piece for each cell, by what stands left and right of it.
-- `SegmentCommands` defines the page. Private clauses alone cite this file, but for `pieces_below`, which a law cites.
use Rattle.std.specs.Prelude.{ℕ, zero, suc, ◌+◌, Bool, true, false, List, [], ◌∷◌, ◌++◌, flat_map, if◌then◌else◌}
use Rattle.std.specs.List.{range_with_len}
use Rattle.cept_codes.specs.declared.cell.Cell.{Cell}
use Rattle.cept_codes.specs.declared.cell.What.{What}
use Rattle.cept_codes.specs.declared.cell.What.TheVariants as whats
use Rattle.cept_codes.specs.declared.command.Command.{Command}
use Rattle.cept_codes.specs.declared.command.Command.TheVariants as commands
use Rattle.cept_codes.specs.declared.glyph.Glyph.{Glyph}
use Rattle.cept_codes.specs.Place.{place_of}
use Rattle.cept_codes.specs.Same.{same_glyph}
use Rattle.cept_writer.specs.declared.link.Link.{Link}
use Rattle.cept_writer.specs.declared.link.Link.TheVariants as links
use Rattle.cept_writer.specs.CellCommands.{marker_commands}
use Rattle.cept_writer.specs.PageCommands.{cell_numbered}
use Rattle.cept_writer.specs.SegmentCommands.{PlacedCell, closing_commands, continues, is_of_same_set, is_shorter_repeated}
use Rattle.cept_writer.specs.SegmentCommands.{manner_commands, opening_commands, sign_in, unit_commands}

-- ---- how cells go on

-- both are signs, and equal
abbrev pub are_equal_signs : List Glyph → List Glyph → Bool
are_equal_signs (g ∷ []) (h ∷ []) = same_glyph g h
are_equal_signs _ _ = false

-- how the second goes on from the first, where it continues it
abbrev pub link_within : What → What → Link
link_within a b =
    if is_of_same_set a b then (if are_equal_signs (sign_in a) (sign_in b) then links.Equal else links.Set)
    else links.Segment

-- how the second cell goes on from the first
abbrev pub link_of : PlacedCell → PlacedCell → Link
link_of a b = if continues a b then link_within a.cell.what b.cell.what else links.Apart

-- how many equal signs come before the next cell, by how many came before this one
abbrev pub copies_after : ℕ → Link → ℕ
copies_after copies links.Equal = copies + 1
copies_after copies _ = 0

-- ---- the pieces of a cell

-- protection before a segment, and its end after it
abbrev pub protection_on : Bool → List Command
protection_on true = commands.Protect true ∷ []
protection_on false = []

abbrev pub protection_off : Bool → List Command
protection_off true = commands.Protect false ∷ []
protection_off false = []

-- what begins a segment, where the cell continues none
abbrev pub beginning_of : Link → PlacedCell → List Command
beginning_of links.Apart a =
    commands.Position a.place.row a.place.column
    ∷ (protection_on a.cell.protected ++ manner_commands a.cell.what)
beginning_of _ a = []

-- what ends it, where no cell continues this one
abbrev pub ending_of : PlacedCell → Link → List Command
ending_of a links.Apart = protection_off a.cell.protected
ending_of a _ = []

-- what comes before the signs of a set
abbrev pub opening_in : What → List Command
opening_in (whats.Serial g) = opening_commands g.set
opening_in (whats.Parallel g pen) = opening_commands g.set
opening_in _ = []

-- and after them
abbrev pub closing_in : What → List Command
closing_in (whats.Serial g) = closing_commands g.set
closing_in (whats.Parallel g pen) = closing_commands g.set
closing_in _ = []

-- what comes before the signs of a set, where the cell doesn't go on with signs of the same set
abbrev pub opening_after : Link → What → List Command
opening_after links.Apart what = opening_in what
opening_after links.Segment what = opening_in what
opening_after _ what = []

-- what comes after them, where the next cell doesn't go on with a sign of this set
abbrev pub closing_before : What → Link → List Command
closing_before what links.Apart = closing_in what
closing_before what links.Segment = closing_in what
closing_before what _ = []

-- a sign and so many copies of it
abbrev pub units_of : ℕ → Glyph → List Command
units_of zero g = unit_commands g
units_of (suc n) g = unit_commands g ++ units_of n g

-- the same, repeated where that is shorter
abbrev pub run_of : ℕ → Glyph → List Command
run_of n g = if is_shorter_repeated n g then unit_commands g ++ commands.Repeat n ∷ [] else units_of n g

-- a sign after so many equal ones, or a marker
abbrev pub run_in : ℕ → What → List Command
run_in copies whats.Blank = []
run_in copies (whats.Serial g) = run_of copies g
run_in copies (whats.Parallel g pen) = run_of copies g
run_in copies (whats.Marker m) = marker_commands m

-- equal signs are written at their last
abbrev pub run_before : ℕ → What → Link → List Command
run_before copies what links.Equal = []
run_before copies what _ = run_in copies what

-- the piece of a cell, by how it goes on from the one before it, how many equal signs came before it, and how the next
-- one goes on
abbrev pub piece_of : Link → ℕ → PlacedCell → Link → List Command
piece_of before copies a after =
    beginning_of before a ++ (opening_after before a.cell.what ++ (run_before copies a.cell.what after
    ++ (closing_before a.cell.what after ++ ending_of a after)))

-- the piece of a place, none where nothing stands in it
abbrev pub piece_with : Link → ℕ → PlacedCell → Link → What → List Command
piece_with before copies a after whats.Blank = []
piece_with before copies a after _ = piece_of before copies a after

-- ---- by numbers

-- the cell with this number at its place
abbrev pub placed : List (List Cell) → ℕ → PlacedCell
placed cells n = record { place = place_of n; cell = cell_numbered cells n }

-- how the cell with this number goes on from the one before it
abbrev pub link_to : List (List Cell) → ℕ → Link
link_to cells zero = links.Apart
link_to cells (suc n) = link_of (placed cells n) (placed cells (suc n))

-- how many equal signs come before it
unfoldable pub copies_before : List (List Cell) → ℕ → ℕ
copies_before cells zero = 0
copies_before cells (suc n) = copies_after (copies_before cells n) (link_to cells (suc n))

-- the piece of the cell with this number
abbrev pub piece_numbered : List (List Cell) → ℕ → List Command
piece_numbered cells n =
    piece_with (link_to cells n) (copies_before cells n) (placed cells n) (link_to cells (suc n))
    (cell_numbered cells n).what

-- those of the first n cells
unfoldable pub pieces_below : List (List Cell) → ℕ → List Command
pieces_below cells n = flat_map (piece_numbered cells) (range_with_len 0 n)
