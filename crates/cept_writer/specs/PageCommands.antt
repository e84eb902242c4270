-- The commands of a written page (own): after a reset, the revision of the rules and the format what differs from the page
-- of the start, part by part. They depend on the core alone.
use Rattle.std.specs.Prelude.{ℕ, Bool, true, false, ◌&&◌, Option, Some, None, List, [], ◌∷◌, ◌++◌, flat_map, ◌==◌}
use Rattle.std.specs.Prelude.{if◌then◌else◌}
use Rattle.std.specs.List.{range_with_len}
use Rattle.cept_codes.specs.declared.attribute.Pen.{Pen}
use Rattle.cept_codes.specs.declared.cell.Cell.{Cell}
use Rattle.cept_codes.specs.declared.command.C1Set.TheVariants as c1sets
use Rattle.cept_codes.specs.declared.command.Command.{Command}
use Rattle.cept_codes.specs.declared.command.Command.TheVariants as commands
use Rattle.cept_codes.specs.declared.look.Paint.{Paint}
use Rattle.cept_codes.specs.declared.look.Paint.TheVariants as paints
use Rattle.cept_codes.specs.declared.look.Pattern.{Pattern}
use Rattle.cept_codes.specs.Cell.{blank_cell}
use Rattle.cept_codes.specs.Place.{place_of}
use Rattle.cept_codes.specs.Same.{same_paint}
use Rattle.cept_codes.specs.Table.{value_at}
use Rattle.cept_parser.specs.Spelling.{form_of, spellings}
use Rattle.cept_profile.specs.Colours.{default_paint}
use Rattle.cept_profile.specs.PageParts.{dclut_in, paint_in, pattern_in, row_pen_in}
use Rattle.cept_profile.specs.State.{Core}
use Rattle.cept_writer.specs.AttributeCommands.{pen_commands}
use Rattle.cept_writer.specs.CellCommands.{cell_commands}

-- ---- the reset, the revision and the format

-- the second revision of the rules; the first is that of the reset
abbrev pub revision_commands : ℕ → List Command
revision_commands revision = if revision == 2 then commands.Revision 2 ∷ [] else []

-- the commands with which a page begins
abbrev pub first_commands : Core → List Command
first_commands k =
    commands.FullDefaults c1sets.Parallel ∷ (revision_commands k.revision ++ commands.Format k.rows k.wrap ∷ [])

-- ---- colour entries and the DCLUT

-- a colour entry; none where it is its default, as each that shows the picture behind is
abbrev pub entry_commands : ℕ → Paint → List Command
entry_commands i paints.Video = []
entry_commands i (paints.Ink colour) =
    if same_paint (paints.Ink colour) (default_paint i) then []
    else commands.ColourStart i ∷ commands.Entry i colour ∷ []

-- the first n colour entries
unfoldable pub entries_below : List Paint → ℕ → List Command
entries_below defined n = flat_map (λ i. entry_commands i (paint_in defined i)) (range_with_len 0 n)

-- entries after their header; none where none is written
abbrev pub with_colour_header : List Command → List Command
with_colour_header [] = []
with_colour_header (first ∷ more) = commands.ColourHeader false ∷ (first ∷ more)

-- each entry of the DCLUT names the colour entry of its own number
abbrev pub is_default_dclut : List ℕ → Bool
is_default_dclut dclut = dclut_in dclut 0 == 0 && dclut_in dclut 1 == 1 && dclut_in dclut 2 == 2 && dclut_in dclut 3 == 3

-- the four entries of the DCLUT; none where all are their defaults
abbrev pub dclut_commands : List ℕ → List Command
dclut_commands dclut =
    if is_default_dclut dclut then []
    else commands.ColourHeader true ∷ commands.ColourStart 0
    ∷ commands.Dclut 0 (dclut_in dclut 0) ∷ commands.Dclut 1 (dclut_in dclut 1)
    ∷ commands.Dclut 2 (dclut_in dclut 2) ∷ commands.Dclut 3 (dclut_in dclut 3) ∷ []

-- ---- patterns

-- the pattern of a code, where it is defined, whether or not a cell shows it
abbrev pub pattern_commands : ℕ → Option Pattern → List Command
pattern_commands code None = []
pattern_commands code (Some pattern) =
    commands.DrcsHeader false (form_of pattern) ∷ commands.DrcsStart code ∷ commands.DrcsPattern code pattern ∷ []

-- the patterns of the first n codes from 2/1 on
unfoldable pub patterns_below : List (Option Pattern) → ℕ → List Command
patterns_below patterns n =
    flat_map (λ code. pattern_commands code (pattern_in patterns code)) (range_with_len 0x21 n)

-- ---- attributes of the screen and of rows

-- the attributes of the screen
abbrev pub screen_commands : Pen → List Command
screen_commands pen = pen_commands (λ n. commands.FullScreen n) pen

-- commands at the first place of a row; none where none is written
abbrev pub at_row : ℕ → List Command → List Command
at_row r [] = []
at_row r (first ∷ more) = commands.Position r 1 ∷ (first ∷ more)

-- the attributes of row r
abbrev pub row_commands : ℕ → Pen → List Command
row_commands r pen = at_row r (pen_commands (λ n. commands.FullRow n) pen)

-- the attributes of the first n rows
unfoldable pub rows_below : List Pen → ℕ → List Command
rows_below pens n = flat_map (λ r. row_commands r (row_pen_in pens r)) (range_with_len 1 n)

-- ---- cells

-- the cell with this number
abbrev pub cell_numbered : List (List Cell) → ℕ → Cell
cell_numbered cells n = value_at blank_cell cells (place_of n).row (place_of n).column

-- the first n cells in reading order
unfoldable pub cells_below : List (List Cell) → ℕ → List Command
cells_below cells n =
    flat_map (λ m. cell_commands (place_of m) (cell_numbered cells m).protected (cell_numbered cells m).what)
    (range_with_len 0 n)

-- ---- the area and implicit scrolling

-- the area, where there is one
abbrev pub area_commands : Option (ℕ × ℕ) → List Command
area_commands None = []
area_commands (Some area) = commands.AreaCreate area.0 area.1 ∷ []

-- implicit scrolling, where it is on
abbrev pub implicit_commands : Bool → List Command
implicit_commands true = commands.Implicit true ∷ []
implicit_commands false = []

-- ---- the page

-- the area and implicit scrolling come last, so that no cell that is written moves a row
unfoldable pub plain_commands : Core → List Command
plain_commands k =
    first_commands k
    ++ (with_colour_header (entries_below k.page.paints 32) ++ (dclut_commands k.page.dclut
    ++ (patterns_below k.page.patterns 94 ++ (screen_commands k.page.screen_pen ++ (rows_below k.page.row_pens 24
    ++ (cells_below k.page.cells 960 ++ (area_commands k.area ++ implicit_commands k.implicit)))))))

-- the bytes of the plain text of a page
abbrev pub plain_text : Core → List ℕ
plain_text k = spellings (plain_commands k)
