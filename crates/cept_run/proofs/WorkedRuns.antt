-- Worked runs: the whole report of small pages, by computing.
use Rattle.std.proofs.Common.{◌≡◌, ℕ, List, [], ◌∷◌, ◌++◌, codes, map, Some, refl}
use Rattle.std.specs.Fmt.{digits}
use Rattle.std.specs.Option.{option_map}
use Rattle.cept_parser.specs.Controls.{one_byte}
use Rattle.cept_parser.specs.Csi.{area, csi}
use Rattle.cept_parser.specs.Escape.{escape}
use Rattle.cept_parser.specs.Grammar.{csi_unit, fits, grows, repetition, unit}
use Rattle.cept_parser.specs.Items.{closing_items, front, longest_beginning_within}
use Rattle.cept_parser.specs.Items.{reading_by, reading_within}
use Rattle.cept_parser.specs.Runs.{colour, table_entry}
use Rattle.cept_parser.specs.Units.{colour_header, colour_start, colour_unit, drcs_form, drcs_header, drcs_unit}
use Rattle.cept_parser.specs.Units.{format, service_break, service_unit, us_position, us_unit}
use Rattle.cept_editor.specs.Events.{report}
use Rattle.cept_editor.specs.Meaning.{hex_bytes, line_meaning}
use Rattle.cept_editor.specs.Table.{row_of}
use Rattle.cept_plot.specs.Drawings.{figure_of, line_meaning as figure_meaning}
use Rattle.cept_report.specs.Text.{named_line_reason, named_reason, script_fault_line}
use Rattle.cept_listing.specs.Listing.{command_text, said_text}
use Rattle.cept_words.specs.Faults.{fault_from}
use Rattle.cept_seven.specs.Eight.{accepted_after, eight_after, is_shifted}
use Rattle.cept_seven.specs.Seven.{texts}
use Rattle.cept_run.specs.declared.words.BytesAction.TheVariants.{Eight, Seven}
use Rattle.cept_run.specs.declared.words.PageAction.TheVariants.{Check, List as ListItems}
use Rattle.cept_profile.specs.Look.{grid}
use Rattle.cept_words.specs.Faults.{Fault}
use Rattle.cept_run.specs.Course.{Course, Grammar, Scripts, Drawings, first_fault_in, course_of}
use Rattle.cept_run.specs.Events.{item_events}
use Rattle.cept_run.specs.Words.{Bytes, Page, Request}

-- what pages and scripts compute with: where this name stands on a line `unfolding`, each definition of its own line unfolds
unfoldable reading_computes : Unit {0}
unfolding one_byte area csi escape csi_unit fits grows repetition unit closing_items front longest_beginning_within
    reading_by reading_within colour table_entry colour_header colour_start colour_unit drcs_form drcs_header drcs_unit
    format service_break service_unit us_position us_unit
reading_computes = tt

abbrev page : List ℕ
page = codes "page"

-- the report of a page, on a glass that was blank
abbrev report_of : Course → List ℕ → List ℕ
report_of course bytes = report (course.events bytes [] (grid (course.remaining bytes [])))

-- pages, each with the report of a request, which reads no script
abbrev are_told : Request → List (List ℕ × List ℕ) → Type 0
are_told request rows =
    map (λ (row : List ℕ × List ℕ). report_of (course_of request) row.0) rows
    ≡ map (λ (row : List ℕ × List ℕ). row.1) rows

-- ---- `check`: a line for each refused item, and then the counts

without_refusals : are_told (Page Check page) (
    ([], codes "items 0 refused 0\n")
    ∷ (0x1F ∷ 0x2D ∷ 0x42 ∷ 0x0D ∷ [], codes "items 2 refused 0\n")
    ∷ (0x1F ∷ 0x2D ∷ 0x0D ∷ [], codes "items 2 refused 0\n")
    ∷ (0x41 ∷ 0x1F ∷ 0x41 ∷ 0x41 ∷ 0x41 ∷ [], codes "items 3 refused 0\n") ∷ [])
unfolding reading_computes report item_events digits
without_refusals = refl

-- each of the seven reasons, by its number and its name
with_refusals : are_told (Page Check page) (
    (0x1C ∷ [], codes "! 0 1 1 UnassignedControl\nitems 1 refused 1\n")
    ∷ (0x1B ∷ 0x22 ∷ 0x55 ∷ [], codes "! 0 3 2 UnknownEscape\nitems 1 refused 1\n")
    ∷ (0x9B ∷ 0x39 ∷ 0x40 ∷ [], codes "! 0 3 3 UnknownCsi\nitems 1 refused 1\n")
    ∷ (0x1F ∷ 0x31 ∷ 0x41 ∷ 0x0D ∷ [], codes "! 0 2 4 UnknownUnit\nitems 3 refused 1\n")
    ∷ (0x1F ∷ 0x40 ∷ 0x41 ∷ 0x1F ∷ 0x58 ∷ 0x68 ∷ 0x41 ∷ [], codes "! 0 3 5 BadParameter\nitems 3 refused 1\n")
    ∷ (0x9B ∷ 0x31 ∷ 0x0D ∷ 0x42 ∷ [], codes "! 0 2 6 Interrupted\nitems 3 refused 1\n")
    ∷ (0x1B ∷ [], codes "! 0 1 7 Truncated\nitems 1 refused 1\n")
    ∷ (0x41 ∷ 0x1C ∷ [], codes "! 1 1 1 UnassignedControl\nitems 2 refused 1\n") ∷ [])
unfolding reading_computes report item_events digits named_reason
with_refusals = refl

-- ---- `list`: a line for each item, also of bytes that are passed over and of refused ones

-- nothing; a format and a sign; default colours, after which a byte is passed over; a unit that is broken off and one
-- that is cut off
items_listed : are_told (Page ListItems page) (
    ([], [])
    ∷ (0x1F ∷ 0x2D ∷ 0x42 ∷ 0x61 ∷ [], codes "0 3 FORMAT 20 wrap\n3 1 GRAPHIC 6/1\n")
    ∷ (0x1F ∷ 0x26 ∷ 0x21 ∷ 0x41 ∷ 0x0D ∷ [], codes "0 3 COLOUR-DEFAULTS\n3 1 SKIPPED\n4 1 APR\n")
    ∷ (
      0x91 ∷ 0x9B ∷ 0x31 ∷ 0x0D ∷ 0x1F ∷ 0x45 ∷ 0x47 ∷ 0x1B ∷ [],
      codes "0 1 C1 9/1 MSR RDB\n1 2 REFUSED Interrupted\n3 1 APR\n4 3 APA 5 7\n7 1 REFUSED Truncated\n",
    ) ∷ [])
unfolding reading_computes report item_events digits said_text command_text named_reason
items_listed = refl

-- ---- `seven` and `eight`: a right byte between SO and SI, a C1 code as two bytes, and a quoted SO; and back

in_seven : are_told (Bytes Seven page) (
    ([], [])
    ∷ (
      0x1B ∷ 0x22 ∷ 0x40 ∷ 0xCC ∷ 0xCC ∷ 0xD0 ∷ 0x31 ∷ [],
      0x1B ∷ 0x22 ∷ 0x40 ∷ 0x0E ∷ 0x4C ∷ 0x4C ∷ 0x50 ∷ 0x0F ∷ 0x31 ∷ [],
    )
    ∷ (0xC8 ∷ [], 0x0E ∷ 0x48 ∷ 0x0F ∷ [])
    ∷ (0x94 ∷ 0x0E ∷ [], 0x1B ∷ 0x54 ∷ 0x10 ∷ 0x4E ∷ []) ∷ [])
unfolding report texts
in_seven = refl

in_eight : are_told (Bytes Eight page) (
    ([], [])
    ∷ (
      0x1B ∷ 0x22 ∷ 0x40 ∷ 0x0E ∷ 0x4C ∷ 0x4C ∷ 0x50 ∷ 0x0F ∷ 0x31 ∷ [],
      0x1B ∷ 0x22 ∷ 0x40 ∷ 0xCC ∷ 0xCC ∷ 0xD0 ∷ 0x31 ∷ [],
    )
    ∷ (0x0E ∷ 0x48 ∷ 0x0F ∷ [], 0xC8 ∷ [])
    ∷ (0x1B ∷ 0x54 ∷ 0x10 ∷ 0x4E ∷ [], 0x1B ∷ 0x54 ∷ 0x0E ∷ []) ∷ [])
unfolding report eight_after accepted_after is_shifted
in_eight = refl

-- ---- the line of a script's first fault

-- scripts, each with the line that is put of it in place of a report
abbrev are_faulty : Grammar → List (List ℕ × List ℕ) → Type 0
are_faulty grammar rows =
    map (λ (row : List ℕ × List ℕ). option_map (λ (fault : Fault). script_fault_line fault.line fault.reason)
    (first_fault_in grammar row.0)) rows
    ≡ map (λ (row : List ℕ × List ℕ). Some row.1) rows

-- of a script of edits
faults_of_scripts : are_faulty Scripts (
    (codes "at 1 1\nat 25 1", codes "script line 2: 3 BadNumber\n")
    ∷ (codes "# a\n\nfrob", codes "script line 3: 1 UnknownWord\n")
    ∷ (codes "undo 1\nfrob", codes "script line 1: 2 WrongCount\n")
    ∷ (codes "text A" ++ 0x09 ∷ [], codes "script line 1: 4 BadText\n")
    ∷ (codes "raw 4", codes "script line 1: 5 BadHex\n") ∷ [])
unfolding fault_from line_meaning row_of hex_bytes digits named_line_reason
faults_of_scripts = refl

-- of a drawing
faults_of_drawings : are_faulty Drawings (
    (codes "plot 0 0\nplot 80 0", codes "script line 2: 3 BadNumber\n")
    ∷ (codes "plot 0 72", codes "script line 1: 3 BadNumber\n")
    ∷ (codes "plot 80", codes "script line 1: 2 WrongCount\n")
    ∷ (codes "draw 0 0", codes "script line 1: 1 UnknownWord\n") ∷ [])
unfolding fault_from figure_meaning figure_of digits named_line_reason
faults_of_drawings = refl
