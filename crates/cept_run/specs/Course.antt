-- The course of a run: what it reads, the events of what it read, and what decides how it ends. Each request is one, and what
-- a run does is said of its course alone. This project's own.
use Rattle.std.specs.Prelude.{◌≡◌, ◌⊎◌, ℕ, Bool, true, false, not, ◌&&◌, List, [], ◌∷◌, Option, Some, None, is_some}
use Rattle.std.specs.Prelude.{◌^◌, ◌≤◌, length}
use Rattle.cept_codes.specs.declared.command.Command.{Command}
use Rattle.cept_codes.specs.declared.look.Look.{Look}
use Rattle.cept_editor.specs.Events.{Event, still_event}
use Rattle.cept_editor.specs.Script.{edits, first_fault}
use Rattle.cept_words.specs.Faults.{Fault}
use Rattle.cept_generator.specs.Generated.{generated}
use Rattle.cept_outside.specs.ShelfState.{ShelfState, Holds, Lacks}
use Rattle.cept_parser.specs.Items.{items}
use Rattle.cept_plot.specs.Drawings.{figures_of, first_fault as first_fault_of_drawing}
use Rattle.cept_run.specs.declared.words.ReportOptions.{ReportOptions}
use Rattle.cept_run.specs.declared.words.End.{End}
use Rattle.cept_run.specs.declared.words.End.TheVariants as ends
use Rattle.cept_run.specs.declared.words.NumberAction.TheVariants as numbers
use Rattle.cept_run.specs.declared.words.Way.{Way}
use Rattle.cept_run.specs.declared.words.Way.TheVariants as ways
use Rattle.cept_run.specs.Events.{history, item_events, run_events, remaining_of, Sequel, NoSequel, Edits, Figures}
use Rattle.cept_run.specs.Converted.{converted, converted_front, readable_front, can_end_there}
use Rattle.cept_run.specs.Words.{Request, Page, Bytes, Script, Number, Flash, Drawing, options_of_page, options_of_script}
use Rattle.cept_run.specs.Words.{painting_options, is_painted}

-- ---- what is read

-- bytes that the file of this name gives, or that the words alone give
pub data Source : Type 0 where
  File : List ℕ → Source
  Given : List ℕ → Source

-- the shelf tells its selection and these bytes under the name, or that it has nothing under it; then these are none
abbrev pub Gives : ShelfState → List ℕ → List ℕ → Type 0
Gives shelf name bytes = Holds shelf name bytes ⊎ (Lacks shelf name × (is_some shelf.left ≡ true) × (bytes ≡ []))

-- a source has these bytes: a file has those that the shelf gives, where it tells them
abbrev pub HasBytes : ShelfState → Source → List ℕ → Type 0
HasBytes shelf (File name) bytes = (told : List ℕ) → Gives shelf name told → bytes ≡ told
HasBytes shelf (Given own) bytes = bytes ≡ own

-- no other name than this is selected, where that is told
abbrev pub SelectsNoOther : List ℕ → ShelfState → Type 0
SelectsNoOther name shelf =
    (chosen : Option (List ℕ)) → shelf.selected ≡ Some chosen → (chosen ≡ None) ⊎ (chosen ≡ Some name)

-- ---- scripts and drawings

-- the grammar of a script: that of edits, or that of drawings, of which all holds that is said of scripts
pub data Grammar : Type 0 where
  Scripts : Grammar
  Drawings : Grammar

-- the first line outside the grammar
abbrev pub first_fault_in : Grammar → List ℕ → Option Fault
first_fault_in Scripts bytes = first_fault bytes
first_fault_in Drawings bytes = first_fault_of_drawing bytes

-- what is read before a page: nothing, or a script of this grammar in the file of this name
pub data ScriptSource : Type 0 where
  NoScript : ScriptSource
  ScriptFile : Grammar → List ℕ → ScriptSource

-- what its bytes say is done after a page, where they are within the grammar
abbrev pub sequel_in : ScriptSource → List ℕ → Sequel
sequel_in NoScript bytes = NoSequel
sequel_in (ScriptFile Scripts name) bytes = Edits (edits bytes)
sequel_in (ScriptFile Drawings name) bytes = Figures (figures_of bytes)

-- these bytes are read before a page: none; or those of the file, at most 2^20, of which no line is outside the grammar
abbrev pub IsReadFirst : ShelfState → ScriptSource → List ℕ → Type 0
IsReadFirst shelf NoScript bytes = bytes ≡ []
IsReadFirst shelf (ScriptFile grammar name) bytes =
    HasBytes shelf (File name) bytes × (first_fault_in grammar bytes ≡ None) × (length bytes ≤ 2 ^ 20)

-- ---- courses

pub record Course : Type 0 where
  -- the page that is read, and what is read before it
  pub page : Source
  pub script : ScriptSource
  -- the events of these bytes, the front of a page, and the commands that remain after them
  pub front_events : List ℕ → List Event
  pub front_remaining : List ℕ → List Command
  -- all events of page and script read to their ends, where the glass shows this grid at the end, and what then remains
  pub events : List ℕ → List ℕ → List (List Look) → List Event
  pub remaining : List ℕ → List ℕ → List Command
  -- the longest front of a page that can be read, and whether a page can end there
  pub readable_front : List ℕ → List ℕ
  pub can_end : List ℕ → Bool
  -- the page's items decide the status: one that is refused makes it 1
  pub judged : Bool
  -- the glass is painted, which takes memory
  pub painting : Bool
  -- nothing is put but the page, as bytes that bring it back
  pub written : Bool

-- no change is listed, and the page is put at the end
abbrev pub puts_page : Way → End → Bool
puts_page ways.Paint ends.Page = true
puts_page _ _ = false

-- items are reported, and then what a script or a drawing says is done
abbrev pub report_course : ReportOptions → Source → ScriptSource → Course
report_course options page script = record {
  page = page;
  script = script;
  front_events = λ bytes. item_events options (items bytes);
  front_remaining = λ bytes. history options (items bytes);
  events = λ bytes lines shown. run_events options bytes (sequel_in script lines) shown;
  remaining = λ bytes lines. remaining_of options bytes (sequel_in script lines);
  readable_front = λ bytes. bytes;
  can_end = λ bytes. true;
  judged = true;
  painting = is_painted options.way;
  written = puts_page options.way options.end && not options.refusals && not options.edits_listed;
}

-- the bytes of a page are put as they are, whatever they say
abbrev pub plain_course : Source → Course
plain_course page = record {
  page = page;
  script = NoScript;
  front_events = λ bytes. still_event [] bytes ∷ [];
  front_remaining = λ bytes. [];
  events = λ bytes lines shown. still_event [] bytes ∷ [];
  remaining = λ bytes lines. [];
  readable_front = λ bytes. bytes;
  can_end = λ bytes. true;
  judged = false;
  painting = false;
  written = false;
}

-- the course of each request: the items of a page are reported, or its bytes put in seven bits or in eight again, a
-- generated page is put, or reported
abbrev pub course_of : Request → Course
course_of (Page action page) = report_course (options_of_page action) (File page) NoScript
course_of (Bytes action page) = record (plain_course (File page)) {
  front_events = λ bytes. still_event [] (converted_front action bytes) ∷ [];
  events = λ bytes lines shown. still_event [] (converted action bytes) ∷ [];
  readable_front = readable_front action;
  can_end = can_end_there action;
}
course_of (Script action page script) = report_course (options_of_script action) (File page) (ScriptFile Scripts script)
course_of (Number numbers.Generate number) = plain_course (Given (generated number))
course_of (Number numbers.Load number) =
    report_course (record painting_options { end = ends.Counts }) (Given (generated number)) NoScript
course_of (Flash page turns) = report_course (record painting_options { end = ends.Phases turns }) (File page) NoScript
course_of (Drawing page drawing) =
    report_course (record painting_options { end = ends.Page }) (File page) (ScriptFile Drawings drawing)
