-- The events of a run: one for each item of the page, one for each command of each edit and for each undo and redo or for
-- each command of a drawing, and one at the end. This project's own.
use Rattle.std.specs.Prelude.{ℕ, Bool, false, List, [], ◌∷◌, ◌++◌, length, map, take, count_by}
use Rattle.std.specs.Prelude.{if◌then◌else◌}
use Rattle.std.specs.List.{enumerate_from, flat_map}
use Rattle.cept_codes.specs.declared.command.Command.{Command}
use Rattle.cept_codes.specs.declared.item.Item.{Item}
use Rattle.cept_codes.specs.declared.item.Reason.{Reason}
use Rattle.cept_codes.specs.declared.item.Said.{Said}
use Rattle.cept_codes.specs.declared.item.Said.TheVariants as said
use Rattle.cept_codes.specs.declared.look.Look.{Look}
use Rattle.cept_codes.specs.Place.{Place}
use Rattle.cept_listing.specs.Listing.{item_line}
use Rattle.cept_parser.specs.Items.{closed_items, commands_of, is_refusal}
use Rattle.cept_plot.specs.declared.figure.Figure.{Figure}
use Rattle.cept_plot.specs.Commands.{drawn}
use Rattle.cept_plot.specs.Drawings.{points_after_all}
use Rattle.cept_plot.specs.Points.{is_in_field}
use Rattle.cept_profile.specs.Changes.{changes_between}
use Rattle.cept_profile.specs.Control.{control}
use Rattle.cept_profile.specs.Look.{grid}
use Rattle.cept_report.specs.Phases.{phase_lines}
use Rattle.cept_report.specs.Screen.{screen_text, cells_text}
use Rattle.cept_report.specs.Text.{change_lines, refusal_line, check_line, load_line}
use Rattle.cept_profile.specs.State.{core}
use Rattle.cept_writer.specs.CompactCommands.{page_text}
use Rattle.cept_editor.specs.Events.{Event, still_event, paints}
use Rattle.cept_editor.specs.Kept.{KeptEdits, none_kept, kept_after_all, remaining}
use Rattle.cept_editor.specs.Script.{EditLine}
use Rattle.cept_editor.specs.Stepping.{edit_events, line_events}
use Rattle.cept_run.specs.declared.words.ReportOptions.{ReportOptions}
use Rattle.cept_run.specs.declared.words.End.{End}
use Rattle.cept_run.specs.declared.words.End.TheVariants as ends
use Rattle.cept_run.specs.declared.words.Way.{Way}
use Rattle.cept_run.specs.declared.words.Way.TheVariants as ways
use Rattle.cept_run.specs.Words.{is_painted}

-- ---- items

-- the commands that are applied of items
abbrev pub history : ReportOptions → List Item → List Command
history options items = if is_painted options.way then commands_of items else []

-- what is put of an item whose command changes these places: where items are listed its own line, where changes are a line
-- for each place
abbrev pub listed_text : Way → Item → List (Place × Look) → List ℕ
listed_text ways.List item changes = item_line item
listed_text ways.PaintAndList item changes = change_lines item.at changes
listed_text _ item changes = []

-- how a refused item is named: where items are listed by its own line, else by a line for a refusal
abbrev pub named_text : Way → Item → Reason → List ℕ
named_text ways.List item reason = item_line item
named_text _ item reason = refusal_line item.at item.len reason

-- what is put of a refused item: its name, where that is asked for
abbrev pub refusal_text : ReportOptions → Item → Reason → List ℕ
refusal_text options item reason = if options.refusals then named_text options.way item reason else []

-- what is put of an item that changes these places
abbrev pub item_text : ReportOptions → Item → Said → List (Place × Look) → List ℕ
item_text options item (said.Command command) changes = listed_text options.way item changes
item_text options item (said.Refused reason) changes = refusal_text options item reason

-- an item that comes after these
abbrev pub item_event : ReportOptions → List Item → Item → Event
item_event options earlier item =
    let before = history options earlier in
    let after = history options (earlier ++ item ∷ []) in
    let changes = changes_between (grid before) (grid after) in
    record { before = before; after = after; text = item_text options item item.what changes }

-- each of these items, after those before it
unfoldable pub item_events : ReportOptions → List Item → List Event
item_events options items =
    map (λ numbered. item_event options (take numbered.0 items) numbered.1) (enumerate_from 0 items)

-- ---- refusals, and the end

-- how many items are refused
abbrev pub refused_count : List Item → ℕ
refused_count items = count_by (λ i. is_refusal i.what) items

-- how many places are painted at these items
abbrev pub painted_count : ReportOptions → List Item → ℕ
painted_count options items = length (paints (item_events options items))

-- what is put at the end of a page that is painted, where these commands remain and the glass shows this grid
abbrev pub painted_end : End → ReportOptions → List (List Look) → List ℕ → List Command → List ℕ
painted_end ends.Nothing options shown page commands = []
painted_end ends.Screen options shown page commands = screen_text shown (control commands).rows
painted_end ends.Cells options shown page commands = cells_text shown (control commands).rows
painted_end ends.Page options shown page commands = page_text (core commands)
painted_end ends.Counts options shown page commands =
    load_line (length page) (length (closed_items page)) (painted_count options (closed_items page))
painted_end (ends.Phases turns) options shown page commands = phase_lines (grid commands) turns

-- and of one that isn't, with so many items, and so many of them refused: their numbers, where these are counted
abbrev pub counts_text : Way → ℕ → ℕ → List ℕ
counts_text ways.Count items refused = check_line items refused
counts_text _ items refused = []

-- what is put at the end of a page
abbrev pub end_text : ReportOptions → List (List Look) → List ℕ → List Command → List ℕ
end_text options shown page commands =
    if is_painted options.way then painted_end options.end options shown page commands
    else counts_text options.way (length (closed_items page)) (refused_count (closed_items page))

-- ---- edit lines

-- the edits that are kept after these edit lines
abbrev pub kept_of : List EditLine → KeptEdits
kept_of lines = kept_after_all none_kept (map (λ line. line.step) lines)

-- the events of each of these edit lines, after a page's commands and those before it; their changes are listed or not
unfoldable pub script_events : Bool → List Command → List EditLine → List Event
script_events listed page lines =
    flat_map (λ numbered. line_events listed numbered.1.line page (kept_of (take numbered.0 lines)) numbered.1.step)
    (enumerate_from 0 lines)

-- ---- what is done after a page

-- nothing; or the edits of a script are made, or the figures of a drawing drawn
pub data Sequel : Type 0 where
  NoSequel : Sequel
  Edits : List EditLine → Sequel
  Figures : List Figure → Sequel

-- the commands that draw figures on a page of these commands: they leave the points of its field, changed by the figures
abbrev pub drawing_commands : List Command → List Figure → List Command
drawing_commands page figures = drawn (core page) (points_after_all (is_in_field (core page)) figures)

-- its events after a page's commands: edits are listed or not; a drawing has an event of no text for each command
abbrev pub sequel_events : Bool → List Command → Sequel → List Event
sequel_events listed page NoSequel = []
sequel_events listed page (Edits lines) = script_events listed page lines
sequel_events listed page (Figures figures) = edit_events false 0 page (drawing_commands page figures)

-- the commands that remain after it: those of the page, and those of the edits that are kept or of the drawing
abbrev pub remaining_after : List Command → Sequel → List Command
remaining_after page NoSequel = page
remaining_after page (Edits lines) = remaining page (kept_of lines)
remaining_after page (Figures figures) = page ++ drawing_commands page figures

-- ---- a whole run

-- the commands that remain after a page and what is done after it
abbrev pub remaining_of : ReportOptions → List ℕ → Sequel → List Command
remaining_of options page sequel = remaining_after (history options (closed_items page)) sequel

-- all events of a run over a page read to its end and what is done after it, where the glass shows this grid at the end; the
-- last changes nothing
abbrev pub run_events : ReportOptions → List ℕ → Sequel → List (List Look) → List Event
run_events options page sequel shown =
    let all = closed_items page in
    let left = remaining_of options page sequel in
    (item_events options all ++ sequel_events options.edits_listed (history options all) sequel)
    ++ still_event left (end_text options shown page left) ∷ []
