-- A line of a script that is made on a decoder whose page has ended (this project's own).
use Rattle.std.specs.Prelude.{◌≡◌, ◌≢◌, ℕ, ◌^◌, ◌≤◌, ◌<◌, ◌⊎◌, Bool, false, true, List, [], ◌∷◌, length, Option, Some, None, Result}
use Rattle.std.specs.Prelude.{Ok, Err}
use Rattle.cept_codes.specs.declared.command.Command.{Command}
use Rattle.cept_codes.specs.declared.line_reason.LineReason.{LineReason}
use Rattle.cept_codes.specs.declared.look.Look.{Look}
use Rattle.cept_codes.specs.Place.{Place}
use Rattle.cept_editor.specs.Applying.{editor_after_step}
use Rattle.cept_editor.specs.Events.{paints}
use Rattle.cept_editor.specs.Kept.{EditorState, KeptEdits, StandsAfter, kept_after}
use Rattle.cept_editor.specs.declared.undo_redo.UndoRedo.{UndoRedo as UndoRedoKind}
use Rattle.cept_editor.specs.Meaning.{Edit, IsValidStep, Step, UndoRedo, line_meaning}
use Rattle.cept_editor.specs.Stepping.{line_events, states_ahead}
use Rattle.cept_profile.specs.Changes.{marked_looks}
use Rattle.cept_profile.specs.Look.{looks_of}
use Rattle.cept_profile.specs.State.{State, core_of}
use Rattle.cept_redraw.specs.Marks.{no_marks}
use Rattle.cept_live.specs.declared.lines.Lined.{Lined}
use Rattle.cept_live.specs.declared.lines.Lined.TheVariants as answers
use Rattle.cept_live.specs.declared.notice.Notice.{Notice}
use Rattle.cept_live.specs.Live.{LiveState, Stays, Tells}
use Rattle.cept_live.specs.Notices.{Saying, change_sayings}
use Rattle.cept_live.specs.Renewed.{marked_with}

-- so many states lie behind a page or ahead of it, 64 at most
pub record Counts (number : ℕ) (states : List State) : Type 0 where
  pub count : number ≡ length states
  pub few : number ≤ 64

-- the editor that a decoder is
abbrev pub editor_of : LiveState → EditorState
editor_of live = record { screen = live.screen; past = live.past; future = live.future }

-- the places that changes name, each once, in reading order, with its look in a grid
abbrev pub sayings_once : ℕ → List (Place × Look) → List (List Look) → List Saying
sayings_once at changes g = change_sayings at (marked_looks (marked_with no_marks (change_sayings 0 changes)) g)

-- changes are told, each place once with its look on the screen, and these places are marked
pub record TellsOnce (at : ℕ) (changes : List (Place × Look)) (marks : List Bool) (list : List Notice) (new : LiveState) (to : ℕ)
    (now : List Notice) : Type 0 where
  pub tells : Tells list 0 (sayings_once at changes (looks_of (core_of new.screen))) to now
  pub marks_are : new.renewed ≡ marked_with marks (sayings_once at changes (looks_of (core_of new.screen)))

-- an edit line is made: the decoder goes on as an editor, and tells what the line's events change
pub record MakesLine (step : Step) (old : LiveState) (list : List Notice) (new : LiveState) (to : ℕ) (now : List Notice)
    : Type 0 where
  pub finished : old.parser.finished ≡ true
  pub enough : 960 ≤ length list
  pub valid : IsValidStep step
  pub parser : new.parser ≡ old.parser
  pub phase : new.phase ≡ old.phase
  pub most : to ≤ 960
  pub made : editor_of new ≡ editor_after_step (editor_of old) step
  -- an undo or a redo brings a state
  pub finds : (which : UndoRedoKind) → step ≡ UndoRedo which → states_ahead (editor_of old) which ≢ []
  -- whatever page and kept edits it stands after, it stands after those that this line leaves
  pub stands : (page : List Command) (k : KeptEdits) → StandsAfter (editor_of old) page k
      → StandsAfter (editor_of new) page (kept_after k step)
  pub tells : (page : List Command) (k : KeptEdits) → StandsAfter (editor_of old) page k
      → TellsOnce old.parser.place (paints (line_events false 0 page k step)) old.renewed list new to now

-- an undo and a redo that bring no state
abbrev pub FindsNothing : Step → LiveState → Type 0
FindsNothing (UndoRedo which) live = states_ahead (editor_of live) which ≡ []
FindsNothing (Edit commands) live = ⊥

-- an edit before which none is kept and none is undone
abbrev pub IsFirstEdit : Step → LiveState → Type 0
IsFirstEdit (UndoRedo which) live = ⊥
IsFirstEdit (Edit commands) live = (live.past ≡ []) × (live.future ≡ [])

-- what becomes of an edit line, by the answer
abbrev pub StepDone : Step → LiveState → List Notice → Lined → LiveState → List Notice → Type 0
StepDone step old list (answers.Made notices) new now = MakesLine step old list new notices now
StepDone step old list answers.Nothing new now = FindsNothing step old × Stays old list new now
StepDone step old list answers.NoMemory new now = IsFirstEdit step old × Stays old list new now
StepDone step old list answers.Early new now = ⊥
StepDone step old list (answers.Bad reason) new now = ⊥
StepDone step old list answers.TooLong new now = ⊥

-- what becomes of a line that means this
abbrev pub MeaningDone : Result (Option Step) LineReason → LiveState → List Notice → Lined → LiveState → List Notice → Type 0
MeaningDone (Ok None) old list answer new now = (answer ≡ answers.Nothing) × Stays old list new now
MeaningDone (Ok (Some step)) old list answer new now = StepDone step old list answer new now
MeaningDone (Err reason) old list answer new now = (answer ≡ answers.Bad reason) × Stays old list new now

-- a line can be made: the page has ended, and the list has room for what a line may change
pub record IsReady (old : LiveState) (list : List Notice) : Type 0 where
  pub finished : old.parser.finished ≡ true
  pub enough : 960 ≤ length list

-- none can be made
abbrev pub IsEarly : LiveState → List Notice → Type 0
IsEarly old list = (old.parser.finished ≡ false) ⊎ (length list < 960)

-- what becomes of a line: while none can be made the same of every line; then of one that is too long; and of any other what
-- becomes of its meaning
pub record LineDone (line : List ℕ) (old : LiveState) (list : List Notice) (answer : Lined) (new : LiveState) (now : List Notice)
    : Type 0 where
  pub early : IsEarly old list → (answer ≡ answers.Early) × Stays old list new now
  pub too_long : IsReady old list → 2 ^ 20 < length line → (answer ≡ answers.TooLong) × Stays old list new now
  pub meant : IsReady old list → length line ≤ 2 ^ 20 → MeaningDone (line_meaning line) old list answer new now

-- ---- lines one after the other

-- a step was made, or it brings no state and all stays
pub record IsStepOf (step : Step) (old new : LiveState) : Type 0 where
  pub list : List Notice
  pub answer : Lined
  pub now : List Notice
  pub done : StepDone step old list answer new now
  pub memory : answer ≢ answers.NoMemory

-- these steps were made, one after the other
unfoldable pub AreStepsOf : List Step → LiveState → LiveState → Type 0
AreStepsOf [] old new = new ≡ old
AreStepsOf (step ∷ more) old new = (mid : LiveState) × IsStepOf step old mid × AreStepsOf more mid new
