-- What private clauses say beside `Editing` (this project's own).
use Rattle.std.specs.Prelude.{◌≡◌, ◌↔◌, Bool, false, []}
use Rattle.cept_editor.specs.Applying.{editor_after_undo_redo}
use Rattle.cept_editor.specs.Kept.{EditorState}
use Rattle.cept_editor.specs.Stepping.{states_ahead}
use Rattle.cept_editor.specs.declared.undo_redo.UndoRedo.{UndoRedo}
use Rattle.cept_profile.specs.State.{State}
use Rattle.cept_undo.specs.Past.{Edits, IsBetweenEdits, future, past}

-- an editor with these edits and this state of the screen
abbrev pub editor_with : Edits → State → EditorState
editor_with edits screen = record { screen = screen; past = past edits screen; future = future edits screen }

-- an edit was undone or redone, or there was none
pub record HasMovedEdit (old : Edits) (before : State) (which : UndoRedo) (moved : Bool) (new : Edits) (after : State) : Type 0 where
  pub between : IsBetweenEdits new after
  pub made : editor_with new after ≡ editor_after_undo_redo (editor_with old before) which
  pub nothing : (moved ≡ false) ↔ (states_ahead (editor_with old before) which ≡ [])
