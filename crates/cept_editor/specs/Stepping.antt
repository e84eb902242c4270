-- What an edit line does to an editor, and the events of the line (this project's own).
use Rattle.std.specs.Prelude.{◌≡◌, ◌↔◌, ℕ, ◌+◌, Bool, List, [], ◌∷◌, ◌++◌, length, map, take, Result, Ok, OnOk, OnErr}
use Rattle.std.specs.Prelude.{if◌then◌else◌}
use Rattle.std.specs.List.{enumerate_from}
use Rattle.cept_codes.specs.declared.command.Command.{Command}
use Rattle.cept_profile.specs.Changes.{changes_between}
use Rattle.cept_profile.specs.Look.{grid}
use Rattle.cept_profile.specs.State.{State}
use Rattle.cept_report.specs.Text.{change_lines, nothing_line}
use Rattle.cept_editor.specs.declared.editor.Done.{Done}
use Rattle.cept_editor.specs.declared.editor.Done.TheVariants as answers
use Rattle.cept_editor.specs.Events.{Event, still_event}
use Rattle.cept_editor.specs.Kept.{KeptEdits, finds_nothing, kept_after, remaining, EditorState, StandsAfter}
use Rattle.cept_editor.specs.Made.{Output, AreMade, AreCutOff}
use Rattle.cept_editor.specs.Meaning.{Step, UndoRedoKind, UndoRedo, Undo, Redo, Edit}

-- from these commands to those; its change lines have this number, where they are listed
abbrev pub event_from : Bool → ℕ → List Command → List Command → Event
event_from listed line before after = record {
  before = before;
  after = after;
  text = if listed then change_lines line (changes_between (grid before) (grid after)) else [];
}

-- one event for each command of an edit, after these commands
unfoldable pub edit_events : Bool → ℕ → List Command → List Command → List Event
edit_events listed line earlier commands =
    map (λ numbered. event_from listed line (earlier ++ take numbered.0 commands)
    (earlier ++ take (numbered.0 + 1) commands)) (enumerate_from 0 commands)

-- the events of an edit line, after a page and these kept edits: one for each command, or one for an undo or a redo, which
-- changes nothing where it finds nothing
abbrev pub line_events : Bool → ℕ → List Command → KeptEdits → Step → List Event
line_events listed line page k (Edit commands) = edit_events listed line (remaining page k) commands
line_events listed line page k (UndoRedo which) =
    (if finds_nothing which k then still_event (remaining page k) (if listed then nothing_line line else [])
    else event_from listed line (remaining page k) (remaining page (kept_after k (UndoRedo which)))) ∷ []

-- the states to which undo or redo leads, one after the other
abbrev pub states_ahead : EditorState → UndoRedoKind → List State
states_ahead e Undo = e.past
states_ahead e Redo = e.future

-- the first commands of an edit; an undo or a redo is one step
abbrev pub first_of : ℕ → Step → Step
first_of n (Edit commands) = Edit (take n commands)
first_of n (UndoRedo which) = UndoRedo which

-- the sink failed at one of its events. The commands up to that one are applied, and they are kept as an edit; an undo or a
-- redo has been made
pub record IsCutOff (listed : Bool) (line : ℕ) (step : Step) (page : List Command) (k : KeptEdits)
    (new : EditorState) (before after : Output) : Type 0 where
  pub cut : AreCutOff (line_events listed line page k step) before after
  pub stands : StandsAfter new page (kept_after k (first_of (length cut.done + 1) step))

-- an edit line is made after whatever page and kept edits the editor stands
pub record GoesOn {E : Type 0} (listed : Bool) (line : ℕ) (step : Step) (old : EditorState) (before : Output)
    (result : Result Done E) (new : EditorState) (after : Output) : Type 0 where
  -- then it stands after those that this line leaves
  pub stands : OnOk result ((page : List Command) (k : KeptEdits) → StandsAfter old page k
      → StandsAfter new page (kept_after k step))
  -- and exactly the line's events were made
  pub made : result ≡ Ok answers.Done → (page : List Command) (k : KeptEdits) → StandsAfter old page k
      → AreMade (line_events listed line page k step) before after
  -- Nothing is answered exactly at an undo before which no edit can be undone, and at a redo before which none is undone;
  -- then nothing was touched
  pub nothing : (result ≡ Ok answers.Nothing) ↔ ((which : UndoRedoKind) × (step ≡ UndoRedo which) × (states_ahead old which ≡ []))
  pub idle : result ≡ Ok answers.Nothing → (new ≡ old) × (after ≡ before)
  -- or the sink failed on the way
  pub cut : OnErr result ((page : List Command) (k : KeptEdits) → StandsAfter old page k
      → IsCutOff listed line step page k new before after)
