-- What edit lines make of an editor by the states alone is what the kept edits say.
use Rattle.std.proofs.Common.{◌≡◌, Bool, true, false, List, [], ◌∷◌, ◌++◌, take, Result, Ok, Err, OnOk}
use Rattle.std.proofs.Common.{refl, sym, ap, subst, ◌∙◌, arith}
use Rattle.std.specs.List.{AllByRecursion}
use Rattle.std.proofs.lemmas.List.{length-append}
use Rattle.cept_codes.specs.Command.{IsValidCommand}
use Rattle.cept_codes.specs.declared.command.Command.{Command}
use Rattle.cept_profile.specs.State.{State, state}
use Rattle.cept_profile.specs.Valid.{AllValid}
use Rattle.cept_repaint.proofs.Laws.{state-after_all}
use Rattle.cept_undo.specs.Past.{most_kept}
use Rattle.cept_editor.specs.Applying.{editor_after_undo_redo, editor_after_step, editor_after_steps, HasMade}
use Rattle.cept_repaint.specs.InTurn.{state_after_all}
use Rattle.cept_editor.specs.Applying.{MarksLast}
use Rattle.cept_editor.specs.Kept.{KeptEdits, none_kept, finds_nothing, kept_after, kept_after_all, kept, remaining}
use Rattle.cept_editor.specs.Kept.{commands_of_edits, EditorState, editor_after}
use Rattle.cept_editor.specs.Meaning.{Step, UndoRedoKind, UndoRedo, Edit, IsValidStep}
use Rattle.cept_editor.proofs.EditsInTurn.{remaining-edit}
use Rattle.cept_editor.proofs.KeptStates.{AllByRecursion-append, StandsAfter-start, states_before-edit, states_again-edit}
use Rattle.cept_editor.proofs.UndoRedoStates.{none_ahead, kept-idle, kept-moved, idle_undo_redo, AreSound, sound_in_parts}
use Rattle.cept_editor.proofs.UndoRedoStates.{remaining_sound, AreSound-undo_redo, editor_moved, moved_as}

-- ---- one line

on_ok : {X E : Type 0} (P : Type 0) (result : Result X E) → P → OnOk result P
on_ok P (Ok x) holds = holds
on_ok P (Err e) holds = tt

-- an undo or a redo was made
pub HasMade-undo_redo : {X E : Type 0} (which : UndoRedoKind) (old : EditorState) (result : Result X E) (new : EditorState)
    → new.screen ≡ (editor_after_undo_redo old which).screen → new.past ≡ (editor_after_undo_redo old which).past
    → new.future ≡ (editor_after_undo_redo old which).future → HasMade (UndoRedo which) old result new
HasMade-undo_redo which old result new screen past future =
    let is = moved_as which old new screen past future in
    record {
      whole = on_ok (new ≡ editor_after_undo_redo old which) result is;
      undo_redo = λ other same.
          let which_is : which ≡ other = cc in
          subst (λ (t : UndoRedoKind). new ≡ editor_after_undo_redo old t) which_is is;
      past = past;
      future = future;
    }

-- the last command that left marks was the last of all
last_applied : {X E : Type 0} {x : X} (commands : List Command) (old new : State) (marks : List Bool)
    → MarksLast {X = X} {E = E} commands old (Ok x) new marks → new ≡ state_after_all old commands
last_applied commands old new marks m =
    m.applied ∙ ap (λ (l : List Command). state_after_all old (m.earlier ++ m.last ∷ l)) (sym m.all)
    ∙ ap (state_after_all old) (sym m.split)

-- an edit was made
pub HasMade-edit : {X Y E F : Type 0} {x : X} {y : Y} (commands : List Command) (old new : EditorState)
    (marks : List Bool) → MarksLast {X = X} {E = E} commands old.screen (Ok x) new.screen marks
    → new.past ≡ take most_kept (old.screen ∷ old.past) → new.future ≡ []
    → HasMade {E = F} (Edit commands) old (Ok y) new
HasMade-edit commands old new marks marked past future = record {
  whole = λ i. record {
    screen = last_applied commands old.screen new.screen marks marked i;
    past = past i;
    future = future i;
  };
  undo_redo = λ which same. absurd cc;
  past = past;
  future = future;
}

-- or a part of it
pub HasMade-cut : {Y F : Type 0} {f : F} (commands : List Command) (old new : EditorState)
    → new.past ≡ take most_kept (old.screen ∷ old.past) → new.future ≡ []
    → HasMade {X = Y} (Edit commands) old (Err f) new
HasMade-cut commands old new past future = record {
  whole = tt;
  undo_redo = λ which same. absurd cc;
  past = past;
  future = future;
}

-- ---- one line more

-- an undo or a redo, by what it finds
undo_redo_more : (page : List Command) (k : KeptEdits) (which : UndoRedoKind) → AreSound page k
    → editor_after_undo_redo (editor_after page k) which ≡ editor_after page (kept_after k (UndoRedo which))
undo_redo_more page k which sound = by_finding (finds_nothing which k) refl
  where
    by_finding : (none : Bool) → finds_nothing which k ≡ none
        → editor_after_undo_redo (editor_after page k) which ≡ editor_after page (kept_after k (UndoRedo which))
    by_finding true is =
        idle_undo_redo (editor_after page k) which (none_ahead page k which is)
        ∙ ap (editor_after page) (sym (kept-idle k which is))
    by_finding false is =
        editor_moved page k which sound.within is ∙ ap (editor_after page) (sym (kept-moved k which is))

pub editor_after-more : (page : List Command) (k : KeptEdits) (step : Step) → AreSound page k
    → IsValidStep step → editor_after_step (editor_after page k) step ≡ editor_after page (kept_after k step)
editor_after-more page k (Edit commands) sound good = λ i. record {
  screen = (sym (state-after_all (remaining page k) commands (remaining_sound page k sound) good)
      ∙ ap state (sym (remaining-edit page k commands))) i;
  past = states_before-edit page k commands i;
  future = sym (states_again-edit page k commands) i;
}
editor_after-more page k (UndoRedo which) sound good = undo_redo_more page k which sound

turn_sound : (page : List Command) (k : KeptEdits) (which : UndoRedoKind) → AreSound page k
    → AreSound page (kept_after k (UndoRedo which))
turn_sound page k which sound = by_finding (finds_nothing which k) refl
  where
    by_finding : (none : Bool) → finds_nothing which k ≡ none → AreSound page (kept_after k (UndoRedo which))
    by_finding true is = subst (AreSound page) (sym (kept-idle k which is)) sound
    by_finding false is = subst (AreSound page) (sym (kept-moved k which is)) (AreSound-undo_redo page k which sound is)

more_sound : (page : List Command) (k : KeptEdits) (step : Step) → AreSound page k → IsValidStep step
    → AreSound page (kept_after k step)
unfolding commands_of_edits
more_sound page k (Edit commands) sound good =
    sound_in_parts page (kept_after k (Edit commands))
    (subst AllValid (sym (remaining-edit page k commands))
    (AllByRecursion-append IsValidCommand (remaining page k) commands (remaining_sound page k sound) good))
    tt (omega (arith, sound.within, length-append k.edits (commands ∷ [])))
more_sound page k (UndoRedo which) sound good = turn_sound page k which sound

-- ---- all lines

more_steps : (page : List Command) (k : KeptEdits) (steps : List Step) → AreSound page k
    → AllByRecursion IsValidStep steps
    → editor_after_steps (editor_after page k) steps ≡ editor_after page (kept_after_all k steps)
unfolding editor_after_steps kept_after_all
more_steps page k [] sound good = refl
more_steps page k (step ∷ more) sound good =
    ap (λ (e : EditorState). editor_after_steps e more) (editor_after-more page k step sound good.0)
    ∙ more_steps page (kept_after k step) more (more_sound page k step sound good.0) good.1

-- after a page and these edit lines the screen has the state of the commands that remain
pub editor_after-steps : (editor : EditorState) (page : List Command) (steps : List Step) → AllValid page
    → AllByRecursion IsValidStep steps → editor.screen ≡ state page → editor.past ≡ [] → editor.future ≡ []
    → editor_after_steps editor steps ≡ editor_after page (kept steps)
editor_after-steps editor page steps valid good screen past future =
    let stands = StandsAfter-start editor page valid screen past future in
    ap (λ (e : EditorState). editor_after_steps e steps) stands.is
    ∙ more_steps page none_kept steps
    (sound_in_parts page none_kept stands.valid stands.valid_again stands.within) good
