-- The commands of the compact text of a page (own): those of the plain text but for the colour entries, which come in
-- runs of neighbours, the patterns, whose header and place are said only where they change, and the cells, which come
-- in segments.
use Rattle.std.specs.Prelude.{ℕ, ◌+◌, Bool, false, ◌==◌, Option, Some, None, List, [], ◌∷◌, ◌++◌, flat_map, map}
use Rattle.std.specs.Prelude.{if◌then◌else◌}
use Rattle.std.specs.List.{range_with_len}
use Rattle.cept_codes.specs.declared.command.Command.{Command}
use Rattle.cept_codes.specs.declared.command.Command.TheVariants as commands
use Rattle.cept_codes.specs.declared.look.Paint.{Paint}
use Rattle.cept_codes.specs.declared.look.Paint.TheVariants as paints
use Rattle.cept_codes.specs.declared.look.Pattern.{Pattern}
use Rattle.cept_codes.specs.declared.look.Rgb.{Rgb}
use Rattle.cept_codes.specs.Same.{same_form, same_paint}
use Rattle.cept_parser.specs.Spelling.{form_of, spellings}
use Rattle.cept_profile.specs.Colours.{default_paint}
use Rattle.cept_profile.specs.PageParts.{paint_in, pattern_in}
use Rattle.cept_profile.specs.State.{Core}
use Rattle.cept_writer.specs.Chains.{Chain, chains, members}
use Rattle.cept_writer.specs.PageCommands.{area_commands, dclut_commands, first_commands, implicit_commands, rows_below}
use Rattle.cept_writer.specs.PageCommands.{screen_commands, with_colour_header}
use Rattle.cept_writer.specs.SegmentCommands.{segments_commands}

-- ---- colour entries

-- a colour entry by its number
pub record NumberedColour : Type 0 where
  pub number : ℕ
  pub colour : Rgb

-- an entry that differs from its default; each that shows the picture behind is its default
abbrev pub changed_entry : ℕ → Paint → List NumberedColour
changed_entry i paints.Video = []
changed_entry i (paints.Ink colour) =
    if same_paint (paints.Ink colour) (default_paint i) then [] else record { number = i; colour = colour } ∷ []

-- those among the first n entries
unfoldable pub changed_below : List Paint → ℕ → List NumberedColour
changed_below defined n = flat_map (λ i. changed_entry i (paint_in defined i)) (range_with_len 0 n)

-- the second entry is the next one
abbrev pub is_next_entry : NumberedColour → NumberedColour → Bool
is_next_entry a b = a.number + 1 == b.number

-- neighbouring entries, after the number of the first
abbrev pub colours_commands : Chain NumberedColour → List Command
colours_commands run =
    commands.ColourStart run.first.number ∷ map (λ e. commands.Entry e.number e.colour) (members run)

-- all entries that differ
unfoldable pub changed_commands : List Paint → List Command
changed_commands defined = flat_map colours_commands (chains is_next_entry (changed_below defined 32))

-- ---- patterns

-- a pattern by its code
pub record CodedPattern : Type 0 where
  pub code : ℕ
  pub pattern : Pattern

-- the pattern of a code, where it is defined
abbrev pub coded_pattern : ℕ → Option Pattern → List CodedPattern
coded_pattern code None = []
coded_pattern code (Some pattern) = record { code = code; pattern = pattern } ∷ []

-- those of the first n codes from 2/1 on
unfoldable pub defined_below : List (Option Pattern) → ℕ → List CodedPattern
defined_below patterns n = flat_map (λ code. coded_pattern code (pattern_in patterns code)) (range_with_len 0x21 n)

-- both are of one form
abbrev pub is_of_same_form : CodedPattern → CodedPattern → Bool
is_of_same_form a b = same_form (form_of a.pattern) (form_of b.pattern)

-- the second is that of the next code
abbrev pub is_next_code : CodedPattern → CodedPattern → Bool
is_next_code a b = a.code + 1 == b.code

-- patterns of neighbouring codes, after the first code
abbrev pub codes_commands : Chain CodedPattern → List Command
codes_commands run =
    commands.DrcsStart run.first.code ∷ map (λ d. commands.DrcsPattern d.code d.pattern) (members run)

-- patterns of one form, after its header
abbrev pub form_commands : Chain CodedPattern → List Command
form_commands group =
    commands.DrcsHeader false (form_of group.first.pattern)
    ∷ flat_map codes_commands (chains is_next_code (members group))

-- all patterns that are defined
unfoldable pub defined_commands : List (Option Pattern) → List Command
defined_commands patterns = flat_map form_commands (chains is_of_same_form (defined_below patterns 94))

-- ---- the page

-- its parts in the order of the plain text
unfoldable pub compact_commands : Core → List Command
compact_commands k =
    first_commands k
    ++ (with_colour_header (changed_commands k.page.paints) ++ (dclut_commands k.page.dclut
    ++ (defined_commands k.page.patterns ++ (screen_commands k.page.screen_pen ++ (rows_below k.page.row_pens 24
    ++ (segments_commands k.page.cells ++ (area_commands k.area ++ implicit_commands k.implicit)))))))

-- the bytes of the compact text
abbrev pub compact_text : Core → List ℕ
compact_text k = spellings (compact_commands k)

-- the bytes of a written page
abbrev pub page_text : Core → List ℕ
page_text k = compact_text k
