-- Commands that are applied to a screen one after the other, what they cost, and which marks they leave (this project's
-- own).
use Rattle.std.specs.Prelude.{◌≡◌, ◌≢◌, ℕ, ◌+◌, ◌≤◌, Bool, false, List, [], ◌∷◌, ◌++◌, take, drop}
use Rattle.std.specs.Prelude.{Result, IsOk, OnOk, OnErr}
use Rattle.cept_codes.specs.declared.command.Command.{Command}
use Rattle.cept_codes.specs.declared.look.Look.{Look}
use Rattle.cept_codes.specs.Place.{Place}
use Rattle.cept_outside.specs.Causes.{HasCause}
use Rattle.cept_outside.specs.SinkState.{SinkState}
use Rattle.cept_profile.specs.Changes.{changes_between, differences}
use Rattle.cept_profile.specs.Look.{looks_of}
use Rattle.cept_profile.specs.State.{State, state_after, core_of}
use Rattle.cept_redraw.specs.Renewed.{rows_renewed}
use Rattle.cept_repaint.specs.InTurn.{rows_in_reach_of_all, rows_renewed_by_all, state_after_all}
use Rattle.cept_undo.specs.Past.{most_kept, nearest, handed_on}
use Rattle.cept_editor.specs.Kept.{EditorState}
use Rattle.cept_editor.specs.Meaning.{Step, UndoRedoKind, UndoRedo, Undo, Redo, Edit}

-- how many rows an edit line may resolve: those that its commands may, and all 24 at an undo or a redo
abbrev pub rows_of_step : State → Step → ℕ
rows_of_step s (UndoRedo which) = 24
rows_of_step s (Edit commands) = rows_in_reach_of_all s commands

-- ---- edit lines by the states alone

-- an editor after an undo, which brings the latest state of its past and leaves the others, and the state before it comes
-- first in its future; after a redo, the other way round. Where there is none, the editor stays
abbrev pub editor_after_undo_redo : EditorState → UndoRedoKind → EditorState
editor_after_undo_redo e Undo = record {
  screen = nearest e.past e.screen;
  past = drop 1 e.past;
  future = handed_on e.past e.screen e.future;
}
editor_after_undo_redo e Redo = record {
  screen = nearest e.future e.screen;
  past = handed_on e.future e.screen e.past;
  future = drop 1 e.future;
}

-- an editor after an edit line: the state before an edit comes first in its past, no more stay than may be kept, and none
-- can be redone
abbrev pub editor_after_step : EditorState → Step → EditorState
editor_after_step e (Edit commands) = record {
  screen = state_after_all e.screen commands;
  past = take most_kept (e.screen ∷ e.past);
  future = [];
}
editor_after_step e (UndoRedo which) = editor_after_undo_redo e which

-- an editor after these edit lines, in order
unfoldable pub editor_after_steps : EditorState → List Step → EditorState
editor_after_steps e [] = e
editor_after_steps e (step ∷ more) = editor_after_steps (editor_after_step e step) more

-- what commands change, one after the other: of each the places whose look it changes, with their looks after it
unfoldable pub changes_in_turn : State → List Command → List (Place × Look)
changes_in_turn s [] = []
changes_in_turn s (c ∷ cs) =
    changes_between (looks_of (core_of s)) (looks_of (core_of (state_after s c))) ++ changes_in_turn (state_after s c) cs

-- what an edit line changes
abbrev pub changes_of_step : EditorState → Step → List (Place × Look)
changes_of_step e (Edit commands) = changes_in_turn e.screen commands
changes_of_step e (UndoRedo which) =
    changes_between (looks_of (core_of e.screen)) (looks_of (core_of (editor_after_undo_redo e which).screen))

-- what an edit line made of an editor, whatever it stands after
pub record HasMade {X E : Type 0} (step : Step) (old : EditorState) (result : Result X E) (new : EditorState) : Type 0 where
  -- all of it, where the sink didn't fail
  pub whole : OnOk result (new ≡ editor_after_step old step)
  -- an undo or a redo is made also where the sink fails at its lines
  pub undo_redo : (which : UndoRedoKind) → step ≡ UndoRedo which → new ≡ editor_after_undo_redo old which
  -- and of an edit then as much is kept as was applied
  pub past : new.past ≡ (editor_after_step old step).past
  pub future : new.future ≡ (editor_after_step old step).future

-- where lines are listed, a fault of the sink is answered where it rose; where they aren't, nothing is put
pub record PutsListed {X E : Type 0} (listed : Bool) (before : SinkState) (result : Result X E) (after : SinkState) : Type 0 where
  pub cause : HasCause before.faults after.faults result
  pub quiet : listed ≡ false → IsOk result × (after ≡ before)

-- ---- marks

-- the marks are those of the last of these commands that was applied, which is the last of all where the sink didn't fail
pub record MarksLast {X E : Type 0} (commands : List Command) (old : State) (result : Result X E) (new : State)
    (marks : List Bool) : Type 0 where
  pub earlier : List Command
  pub last : Command
  pub rest : List Command
  pub split : commands ≡ earlier ++ last ∷ rest
  pub all : OnOk result (rest ≡ [])
  pub applied : new ≡ state_after_all old (earlier ++ last ∷ [])
  pub marked : marks ≡ differences (looks_of (core_of (state_after_all old earlier))) (looks_of (core_of new))
  -- the sink failed at its lines, so that it changed a look
  pub shown : OnErr result
      (changes_between (looks_of (core_of (state_after_all old earlier))) (looks_of (core_of new)) ≢ [])

-- the marks are those of the last command of an edit that was applied, or of an undo or a redo
abbrev pub MarksStep : {X E : Type 0} → Step → State → Result X E → State → List Bool → Type 0
MarksStep (UndoRedo which) old result new marks = marks ≡ differences (looks_of (core_of old)) (looks_of (core_of new))
MarksStep (Edit commands) old result new marks = MarksLast commands old result new marks

-- ---- rows resolved

-- no fewer rows were resolved than the commands renew that were applied: all of these, or a front of them where the sink
-- failed
pub record ResolvesRenewed {X E : Type 0} (commands : List Command) (old : State) (result : Result X E) (new : State)
    (from to : ℕ) : Type 0 where
  pub done : List Command
  pub rest : List Command
  pub split : commands ≡ done ++ rest
  pub all : OnOk result (rest ≡ [])
  pub applied : new ≡ state_after_all old done
  pub least : from + rows_renewed_by_all old done ≤ to

-- no fewer than those commands of an edit renew that were applied, or than look otherwise after an undo or a redo
abbrev pub ResolvesStep : {X E : Type 0} → Step → State → Result X E → State → ℕ → ℕ → Type 0
ResolvesStep (UndoRedo which) old result new from to =
    from + rows_renewed [] (looks_of (core_of old)) (looks_of (core_of new)) ≤ to
ResolvesStep (Edit commands) old result new from to = ResolvesRenewed commands old result new from to
