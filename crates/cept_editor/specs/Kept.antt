-- The edits that are kept after the edit lines of a script, those of them that can be undone, and those that were undone
-- and can be redone (this project's own).
use Rattle.std.specs.Prelude.{◌≡◌, ℕ, ◌+◌, ◌-◌, ◌<◌, ◌≤◌, ◌==◌, Bool, min, List, [], ◌∷◌, ◌++◌, length, map, take, drop}
use Rattle.std.specs.Prelude.{if◌then◌else◌}
use Rattle.std.specs.List.{flat_map, range_with_len, AllByRecursion}
use Rattle.cept_codes.specs.declared.command.Command.{Command}
use Rattle.cept_profile.specs.State.{State, state}
use Rattle.cept_profile.specs.Valid.{AllValid}
use Rattle.cept_undo.specs.Past.{most_kept}
use Rattle.cept_editor.specs.Meaning.{Step, UndoRedoKind, UndoRedo, Undo, Redo, Edit}

-- the commands of kept edits, how many of the last can be undone, and those of undone edits, the last undone first
pub record KeptEdits : Type 0 where
  pub edits : List (List Command)
  pub count : ℕ
  pub undone : List (List Command)

-- before the first edit line
abbrev pub none_kept : KeptEdits
none_kept = record { edits = []; count = 0; undone = [] }

-- there is nothing to undo: no edit can be undone; or nothing to redo: none is undone
abbrev pub finds_nothing : UndoRedoKind → KeptEdits → Bool
finds_nothing Undo k = k.count == 0
finds_nothing Redo k = length k.undone == 0

-- after an undo that finds something the last edit is the first undone one; after a redo that does this is the last again
abbrev pub kept_after_undo_redo : KeptEdits → UndoRedoKind → KeptEdits
kept_after_undo_redo k Undo = record {
  edits = take (length k.edits - 1) k.edits;
  count = k.count - 1;
  undone = drop (length k.edits - 1) k.edits ++ k.undone;
}
kept_after_undo_redo k Redo = record {
  edits = k.edits ++ take 1 k.undone;
  count = k.count + 1;
  undone = drop 1 k.undone;
}

-- after one more edit line: an edit goes last, no more can be undone than may be kept, and none stays undone
abbrev pub kept_after : KeptEdits → Step → KeptEdits
kept_after k (Edit commands) = record {
  edits = k.edits ++ commands ∷ [];
  count = min (k.count + 1) most_kept;
  undone = [];
}
kept_after k (UndoRedo which) = if finds_nothing which k then k else kept_after_undo_redo k which

-- after these and more edit lines, in order
unfoldable pub kept_after_all : KeptEdits → List Step → KeptEdits
kept_after_all k [] = k
kept_after_all k (step ∷ more) = kept_after_all (kept_after k step) more

-- after these edit lines
abbrev pub kept : List Step → KeptEdits
kept steps = kept_after_all none_kept steps

-- the commands of edits, one after the other
unfoldable pub commands_of_edits : List (List Command) → List Command
commands_of_edits edits = flat_map (λ commands. commands) edits

-- the commands that remain: those of a page, and then those of the kept edits
abbrev pub remaining : List Command → KeptEdits → List Command
remaining page k = page ++ commands_of_edits k.edits

-- the state after the page and all kept edits but the last i + 1
abbrev pub state_before_last : List Command → KeptEdits → ℕ → State
state_before_last page k i = state (page ++ commands_of_edits (take (length k.edits - (i + 1)) k.edits))

-- the states to which undo leads, that before the last edit first
unfoldable pub states_before : List Command → KeptEdits → List State
states_before page k = map (state_before_last page k) (range_with_len 0 k.count)

-- the state after the page, all kept edits and the first i + 1 undone ones
abbrev pub state_after_first : List Command → KeptEdits → ℕ → State
state_after_first page k i = state (page ++ commands_of_edits (k.edits ++ take (i + 1) k.undone))

-- the states to which redo leads, that after the first undone edit first
unfoldable pub states_again : List Command → KeptEdits → List State
states_again page k = map (state_after_first page k) (range_with_len 0 (length k.undone))

-- ---- the editor

-- a screen's state, the states to which undo leads, the latest first, and those to which redo leads, the nearest first
pub record EditorState : Type 0 where
  pub screen : State
  pub past : List State
  pub future : List State

-- an editor after a page's commands and these kept edits
abbrev pub editor_after : List Command → KeptEdits → EditorState
editor_after page k = record {
  screen = state (remaining page k);
  past = states_before page k;
  future = states_again page k;
}

-- it stands after them
pub record StandsAfter (editor : EditorState) (page : List Command) (k : KeptEdits) : Type 0 where
  pub valid : AllValid (remaining page k)
  pub valid_again : AllValid (commands_of_edits k.undone)
  -- each edit has a command, and at least as many are kept as can be undone
  pub some : AllByRecursion (λ commands. 0 < length commands) (k.edits ++ k.undone)
  pub within : k.count ≤ length k.edits
  pub is : editor ≡ editor_after page k
