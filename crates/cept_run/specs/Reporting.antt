-- What stands while a page is reported, and from which items to which it goes on. This project's own. Private clauses
-- alone cite this file.
use Rattle.std.specs.Prelude.{◌≡◌, ℕ, ◌+◌, ◌≤◌, Bool, false, List, [], ◌∷◌, ◌++◌, length, Option, Some, None}
use Rattle.std.specs.Prelude.{if◌then◌else◌, Result, OnOk, OnErr, IsSome}
use Rattle.cept_codes.specs.declared.command.Command.{Command}
use Rattle.cept_codes.specs.declared.item.Item.{Item}
use Rattle.cept_flash.specs.Flashing.{FlashingGrid}
use Rattle.cept_parser.specs.Items.{items, closed_items}
use Rattle.cept_parser.specs.State.{ParserState, Leads}
use Rattle.cept_profile.specs.Changes.{changes, differences, grid_with_paints}
use Rattle.cept_profile.specs.Look.{grid}
use Rattle.cept_profile.specs.State.{State, state}
use Rattle.cept_profile.specs.Valid.{AllValid}
use Rattle.cept_repaint.specs.GlassState.{GlassState, Lists}
use Rattle.cept_editor.specs.Events.{Event}
use Rattle.cept_editor.specs.Kept.{none_kept, EditorState, StandsAfter}
use Rattle.cept_editor.specs.Made.{Output, ArePainted, AreMade, AreCutOff}
use Rattle.cept_editor.specs.Script.{EditLine}
use Rattle.cept_plot.specs.declared.figure.Figure.{Figure}
use Rattle.cept_run.specs.declared.target.Target.{Target}
use Rattle.cept_run.specs.declared.target.Target.TheVariants as targets
use Rattle.cept_run.specs.declared.words.ReportOptions.{ReportOptions}
use Rattle.cept_run.specs.declared.words.End.{End}
use Rattle.cept_run.specs.declared.words.End.TheVariants as ends
use Rattle.cept_run.specs.Words.{is_counted, is_painted}
use Rattle.cept_run.specs.Events.{history, item_events, painted_count, refused_count, kept_of, script_events}
use Rattle.cept_run.specs.Events.{Sequel, NoSequel, Edits, Figures, drawing_commands, sequel_events}
use Rattle.cept_run.specs.Events.{remaining_after}

-- ---- the reporter of items

-- where phases are put at the end, there is what goes through them
abbrev pub HasBlink : End → Option FlashingGrid → Type 0
HasBlink (ends.Phases turns) blink = IsSome blink
HasBlink _ blink = Unit {0}

-- how a page is reported, and what is done after it
pub record Plan : Type 0 where
  pub options : ReportOptions
  pub sequel : Sequel

-- what is done after it: where nothing is painted, nothing
abbrev pub sequel_of : Plan → Sequel
sequel_of plan = if is_painted plan.options.way then plan.sequel else NoSequel

-- the options, what commands are applied to, how many items there were and were refused, and how many places were
-- painted, where these are counted
pub record ReporterState : Type 0 where
  pub options : ReportOptions
  pub target : Target
  pub items : ℕ
  pub refused : ℕ
  pub painted : ℕ

-- what the commands of a page are applied to, after these: where there is a script, a screen whose edits can be undone;
-- where there is a drawing, a screen and the drawing
abbrev pub painted_target : Sequel → List Command → Target
painted_target NoSequel commands = targets.Screen (state commands)
painted_target (Edits lines) commands =
    targets.Editor (record { screen = state commands; past = []; future = [] }) lines
painted_target (Figures figures) commands = targets.Drawing (state commands) figures

-- what commands are applied to, after these
abbrev pub target_at : Plan → List Command → Target
target_at plan commands = if is_painted plan.options.way then painted_target plan.sequel commands else targets.Nothing

-- the screen, where there is one
abbrev pub screen_of : Target → Option State
screen_of targets.Nothing = None
screen_of (targets.Screen screen) = Some screen
screen_of (targets.Editor editor lines) = Some editor.screen
screen_of (targets.Drawing screen figures) = Some screen

-- what is done after a page
abbrev pub sequel_at : Target → Sequel
sequel_at (targets.Editor editor lines) = Edits lines
sequel_at (targets.Drawing screen figures) = Figures figures
sequel_at _ = NoSequel

-- the plan by which it reports
abbrev pub plan_in : ReporterState → Plan
plan_in reporter = record { options = reporter.options; sequel = sequel_at reporter.target }

-- what is counted of so many painted places
abbrev pub counted_places : ReportOptions → ℕ → ℕ
counted_places options places = if is_counted options.end then places else 0

-- it stands after these items
pub record Stands (plan : Plan) (reporter : ReporterState) (reported : List Item) : Type 0 where
  pub options_are : reporter.options ≡ plan.options
  pub valid : AllValid (history plan.options reported)
  pub target : reporter.target ≡ target_at plan (history plan.options reported)
  pub items : reporter.items ≡ length reported
  pub refused : reporter.refused ≡ refused_count reported
  pub painted : reporter.painted ≡ counted_places plan.options (painted_count plan.options reported)

-- from a start to now it has reported these items, and no fault was counted
pub record HasReported (plan : Plan) (reporter : ReporterState) (reported : List Item) (start now : Output) : Type
    0 where
  pub stands : Stands plan reporter reported
  pub made : AreMade (item_events plan.options reported) start now
  pub stays : now.sink.faults ≡ start.sink.faults

-- a command was applied after these, where they are painted
pub record IsAppliedAfter (sequel : Sequel) (earlier : List Command) (command : Command) (before : GlassState)
    (target : Target) (marks : List Bool) (after : GlassState) : Type 0 where
  pub target_is : target ≡ painted_target sequel (earlier ++ command ∷ [])
  pub marked : marks ≡ differences (grid earlier) (grid (earlier ++ command ∷ []))
  pub told : Lists before.paints (changes earlier command) after.paints
  pub shown : after.grid ≡ grid_with_paints before.grid (changes earlier command)

-- a command is applied, where there is a screen
pub record AppliesOn (old : Target) (command : Command) (before : GlassState) (new : Target) (marks : List Bool)
    (after : GlassState) : Type 0 where
  pub painted : (sequel : Sequel) (earlier : List Command) → AllValid earlier
      → old ≡ painted_target sequel earlier → IsAppliedAfter sequel earlier command before new marks after
  pub idle : old ≡ targets.Nothing → (new ≡ targets.Nothing) × (after ≡ before)

-- it goes on by these items: all are reported, or the sink failed at one
pub record ReportsOn {X E : Type 0} (old : ReporterState) (more : List Item) (before : Output) (result : Result X E)
    (new : ReporterState) (after : Output) : Type 0 where
  pub options : new.options ≡ old.options
  pub counted : new.items ≤ old.items + length more
  pub reported : OnOk result ((plan : Plan) (earlier : List Item) (start : Output)
      → HasReported plan old earlier start before → HasReported plan new (earlier ++ more) start after)
  pub cut : OnErr result ((plan : Plan) (earlier : List Item) (start : Output)
      → HasReported plan old earlier start before → AreCutOff (item_events plan.options (earlier ++ more)) start after)

-- ---- edits

-- after a page these edit lines were made
pub record HasMadeLines (listed : Bool) (page : List Command) (lines : List EditLine) (editor : EditorState)
    (start now : Output) : Type 0 where
  pub stands : StandsAfter editor page (kept_of lines)
  pub made : AreMade (script_events listed page lines) start now
  pub stays : now.sink.faults ≡ start.sink.faults

-- these edit lines are made after whatever page an editor stands, or the sink failed at one
pub record MakesLines {X E : Type 0} (listed : Bool) (lines : List EditLine) (old : EditorState) (before : Output)
    (result : Result X E) (new : EditorState) (after : Output) : Type 0 where
  pub made : OnOk result ((page : List Command) → StandsAfter old page none_kept
      → HasMadeLines listed page lines new before after)
  pub cut : OnErr result ((page : List Command) → StandsAfter old page none_kept
      → AreCutOff (script_events listed page lines) before after)

-- ---- drawings

-- figures were drawn on a page: exactly the events of their commands were made, which put nothing
pub record HasDrawn (page : List Command) (figures : List Figure) (before : GlassState) (screen : State)
    (after : GlassState) : Type 0 where
  pub valid : AllValid (page ++ drawing_commands page figures)
  pub is : screen ≡ state (page ++ drawing_commands page figures)
  pub painted : ArePainted (sequel_events false page (Figures figures)) before after

-- figures are drawn after whatever page a screen stands
abbrev pub Draws : List Figure → State → GlassState → State → GlassState → Type 0
Draws figures old before new after =
    (page : List Command) → AllValid page → old ≡ state page → HasDrawn page figures before new after

-- ---- the end

-- the events of a page that is read to its end, and of what is done after it
abbrev pub edited_events : ReportOptions → List Item → Sequel → List Event
edited_events options items sequel =
    item_events options items ++ sequel_events options.edits_listed (history options items) sequel

-- the commands that remain at the end, after these items
abbrev pub remaining_at_end : Plan → List Item → List Command
remaining_at_end plan reported = remaining_after (history plan.options reported) (sequel_of plan)

-- at the end these commands remain after these items
pub record StandsAtEnd (plan : Plan) (reporter : ReporterState) (reported : List Item) : Type 0 where
  pub options_are : reporter.options ≡ plan.options
  pub screen : screen_of reporter.target
      ≡ (if is_painted plan.options.way then Some (state (remaining_at_end plan reported)) else None)
  pub items : reporter.items ≡ length reported
  pub refused : reporter.refused ≡ refused_count reported
  pub painted : reporter.painted ≡ counted_places plan.options (painted_count plan.options reported)

-- from a start to now it has reported these items and done all that comes after them, and no fault was counted
pub record HasEdited (plan : Plan) (reporter : ReporterState) (reported : List Item) (start now : Output) : Type
    0 where
  pub stands : StandsAtEnd plan reporter reported
  pub valid : AllValid (remaining_at_end plan reported)
  pub made : AreMade (edited_events plan.options reported (sequel_of plan)) start now
  pub stays : now.sink.faults ≡ start.sink.faults

-- it makes the edits, if there are some, or draws the drawing: all are made, or the sink failed at one
pub record EditsOn {X E : Type 0} (old : ReporterState) (before : Output) (result : Result X E) (new : ReporterState)
    (after : Output) : Type 0 where
  pub counted : new.items ≡ old.items
  pub edited : OnOk result ((plan : Plan) (reported : List Item) (start : Output)
      → HasReported plan old reported start before → HasEdited plan new reported start after)
  pub cut : OnErr result ((plan : Plan) (reported : List Item) (start : Output)
      → HasReported plan old reported start before
      → AreCutOff (edited_events plan.options reported (sequel_of plan)) start after)

-- ---- the decoder of bytes

-- the parser, and the reporter of its items
pub record DecoderState : Type 0 where
  pub parser : ParserState
  pub reporter : ReporterState

-- from a start to now it has read these bytes, and their items are reported
pub record HasRead (plan : Plan) (decoder : DecoderState) (bytes : List ℕ) (start now : Output) : Type 0 where
  pub parser : Leads bytes decoder.parser
  pub reported : HasReported plan decoder.reporter (items bytes) start now

-- it goes on by these bytes: all are read, or the sink failed at an item
pub record ReadsOn {X E : Type 0} (old : DecoderState) (more : List ℕ) (before : Output) (result : Result X E)
    (new : DecoderState) (after : Output) : Type 0 where
  pub place : OnOk result (new.parser.place ≡ old.parser.place + length more)
  pub running : OnOk result (new.parser.finished ≡ false)
  pub read : OnOk result ((plan : Plan) (bytes : List ℕ) (start : Output)
      → HasRead plan old bytes start before → HasRead plan new (bytes ++ more) start after)
  pub cut : OnErr result ((plan : Plan) (bytes : List ℕ) (start : Output)
      → HasRead plan old bytes start before → AreCutOff (item_events plan.options (items (bytes ++ more))) start after)

-- it ends: the item that is left is reported too, or the sink failed at it
pub record ReadsToEnd {X E : Type 0} (old : DecoderState) (before : Output) (result : Result X E) (new : DecoderState)
    (after : Output) : Type 0 where
  pub reported : OnOk result ((plan : Plan) (bytes : List ℕ) (start : Output)
      → HasRead plan old bytes start before → HasReported plan new.reporter (closed_items bytes) start after)
  pub cut : OnErr result ((plan : Plan) (bytes : List ℕ) (start : Output)
      → HasRead plan old bytes start before → AreCutOff (item_events plan.options (closed_items bytes)) start after)
