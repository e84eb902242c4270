-- Worked cases of kept edits, by computing.
use Rattle.std.proofs.Common.{◌≡◌, List, [], ◌∷◌, ◌++◌, true, false, codes, replicate, refl}
use Rattle.std.specs.Fmt.{digits}
use Rattle.cept_codes.specs.declared.command.Command.{Command}
use Rattle.cept_codes.specs.declared.command.Command.TheVariants.{Graphic}
use Rattle.cept_editor.specs.Applying.{rows_of_step}
use Rattle.cept_editor.specs.Kept.{commands_of_edits, none_kept, kept_after_all, kept}
use Rattle.cept_editor.specs.Meaning.{Step, UndoRedo, Undo, Redo, Edit, command_count}
use Rattle.cept_editor.specs.Stepping.{edit_events, line_events}
use Rattle.cept_profile.specs.Changes.{changes_between}
use Rattle.cept_profile.specs.Look.{grid}
use Rattle.cept_profile.specs.State.{State}
use Rattle.cept_report.specs.Text.{change_lines}

abbrev a : List Command
a = Graphic 0x41 ∷ []

abbrev b : List Command
b = Graphic 0x42 ∷ []

abbrev undo_step : Step
undo_step = UndoRedo Undo

abbrev redo_step : Step
redo_step = UndoRedo Redo

-- where nothing is kept and undone, undo and redo change nothing
kept-nothing_moved : kept (undo_step ∷ redo_step ∷ []) ≡ none_kept
unfolding kept_after_all
kept-nothing_moved = refl

kept-undone : kept (Edit a ∷ Edit b ∷ undo_step ∷ undo_step ∷ []) ≡ record { edits = []; count = 0; undone = a ∷ b ∷ [] }
unfolding kept_after_all
kept-undone = refl

-- the edit undone last is redone first
kept-redone : kept (Edit a ∷ Edit b ∷ undo_step ∷ undo_step ∷ redo_step ∷ []) ≡ record { edits = a ∷ []; count = 1; undone = b ∷ [] }
unfolding kept_after_all
kept-redone = refl

kept-all_redone : kept (Edit a ∷ undo_step ∷ redo_step ∷ redo_step ∷ []) ≡ record { edits = a ∷ []; count = 1; undone = [] }
unfolding kept_after_all
kept-all_redone = refl

-- a new edit drops all undone ones
kept-new_edit : kept (Edit a ∷ undo_step ∷ Edit b ∷ redo_step ∷ []) ≡ record { edits = b ∷ []; count = 1; undone = [] }
unfolding kept_after_all
kept-new_edit = refl

-- of 65 edits the first can't be undone
kept-of_65 : kept (replicate 65 (Edit a) ++ replicate 65 undo_step)
    ≡ record { edits = a ∷ []; count = 0; undone = replicate 64 a }
unfolding kept_after_all
kept-of_65 = refl

-- the events of a line have its number, and each the commands before and after it
events-of_two : line_events true 7 [] none_kept (Edit (a ++ b))
    ≡ record { before = []; after = a; text = change_lines 7 (changes_between (grid []) (grid a)) }
    ∷ record { before = a; after = a ++ b; text = change_lines 7 (changes_between (grid a) (grid (a ++ b))) } ∷ []
unfolding edit_events commands_of_edits
events-of_two = refl

events-unlisted : line_events false 7 [] none_kept (Edit a) ≡ record { before = []; after = a; text = [] } ∷ []
unfolding edit_events commands_of_edits
events-unlisted = refl

events-nothing : line_events true 12 [] none_kept undo_step ≡ record { before = []; after = []; text = codes "12 nothing\n" } ∷ []
unfolding commands_of_edits digits
events-nothing = refl

-- what lines count, and what an undo may resolve
count-of_edit : command_count (Edit (a ++ b)) ≡ 2
count-of_edit = refl

count-of_redo : command_count redo_step ≡ 1
count-of_redo = refl

module _ (s : State) where
  rows-of_undo : rows_of_step s undo_step ≡ 24
  rows-of_undo = refl
