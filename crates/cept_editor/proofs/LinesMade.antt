-- An edit line was made: an edit of commands, or an undo or a redo.
use Rattle.std.proofs.Common.{◌≡◌, ◌≢◌, ℕ, ◌+◌, ◌<◌, Bool, false, cond, List, [], ◌∷◌, take}
use Rattle.std.proofs.Common.{length, Result, Ok, Err, refl, sym, ap, subst, ◌∙◌, arith}
use Rattle.std.proofs.lemmas.List.{length-take}
use Rattle.cept_codes.specs.Command.{IsValidCommand}
use Rattle.cept_codes.specs.declared.command.Command.{Command}
use Rattle.cept_outside.specs.SinkState.{PutsText}
use Rattle.cept_profile.specs.Changes.{marked_looks}
use Rattle.cept_profile.specs.Look.{looks_of}
use Rattle.cept_profile.specs.State.{core_of}
use Rattle.cept_profile.specs.Valid.{AllValid}
use Rattle.cept_repaint.specs.Applied.{IsRepainted}
use Rattle.cept_report.specs.Text.{change_lines}
use Rattle.cept_undo.specs.Past.{most_kept}
use Rattle.cept_editor.specs.declared.editor.Done.TheVariants as answers
use Rattle.cept_editor.specs.Applying.{editor_after_undo_redo}
use Rattle.cept_editor.specs.inside.Applying.{AppliesAll}
use Rattle.cept_editor.specs.Events.{Event}
use Rattle.cept_editor.specs.Kept.{KeptEdits, finds_nothing, kept_after, remaining, EditorState, StandsAfter}
use Rattle.cept_editor.specs.Made.{Output, IsMade, AreMade, AreCutOff}
use Rattle.cept_editor.specs.Meaning.{UndoRedoKind, UndoRedo, Edit}
use Rattle.cept_editor.specs.Stepping.{event_from, line_events, states_ahead, GoesOn}
use Rattle.cept_editor.proofs.AppliedInTurn.{made_from}
use Rattle.cept_editor.proofs.KeptStates.{AllByRecursion-take, StandsAfter-edit}
use Rattle.cept_editor.proofs.UndoRedoStates.{StandsAfter-undo_redo, undo_redo_differs, finds_none, finds_some, kept-idle, idle_undo_redo}
use Rattle.cept_editor.proofs.UndoRedoStates.{moved_as}
use Rattle.cept_editor.proofs.MadeEvents.{AreMade-none, AreMade-more, AreCutOff-here, nothing_event}

-- ---- an edit

pub edit_made : {X E F : Type 0} {x : X} (listed : Bool) (line : ℕ) (commands : List Command) (old new : EditorState)
    (before after : Output)
    → AppliesAll {X = X} {E = E} listed line commands old.screen before (Ok x) new.screen after
    → AllValid commands → 0 < length commands → new.past ≡ take most_kept (old.screen ∷ old.past) → new.future ≡ []
    → GoesOn {E = F} listed line (Edit commands) old before (Ok answers.Done) new after
edit_made listed line commands old new before after applies valid some past future = record {
  stands = λ page k stands.
      let had = applies.applied (remaining page k) stands.valid (ap (λ (e : EditorState). e.screen) stands.is) in
      StandsAfter-edit old new page k commands stands valid some had.is past future;
  made = λ _ page k stands.
      (applies.applied (remaining page k) stands.valid (ap (λ (e : EditorState). e.screen) stands.is)).made;
  nothing = (λ e. absurd cc, λ p. let no = p.0 in absurd cc);
  idle = λ e. absurd cc;
  cut = tt;
}

pub edit_cut : {X E F : Type 0} {e : E} {f : F} (listed : Bool) (line : ℕ) (commands : List Command)
    (old new : EditorState) (before after : Output)
    → AppliesAll {X = X} {E = E} listed line commands old.screen before (Err e) new.screen after
    → AllValid commands → 0 < length commands → new.past ≡ take most_kept (old.screen ∷ old.past) → new.future ≡ []
    → GoesOn {E = F} listed line (Edit commands) old before (Err f) new after
edit_cut listed line commands old new before after applies valid some past future = record {
  stands = tt;
  made = λ e. absurd cc;
  nothing = (λ e. absurd cc, λ p. let no = p.0 in absurd cc);
  idle = λ e. absurd cc;
  cut = λ page k stands.
      let had = applies.stopped (remaining page k) stands.valid (ap (λ (e : EditorState). e.screen) stands.is) in
      let n = length had.off.done + 1 in
      record {
        cut = had.off;
        stands = StandsAfter-edit old new page k (take n commands) stands
            (AllByRecursion-take IsValidCommand n commands valid) (omega (arith, some, length-take n commands)) had.is past
            future;
      };
}

-- ---- an undo or a redo

-- no state lies ahead
pub nothing_moved : {E : Type 0} (listed : Bool) (line : ℕ) (which : UndoRedoKind) (old new : EditorState)
    (before after : Output) → states_ahead old which ≡ [] → new.screen ≡ (editor_after_undo_redo old which).screen
    → new.past ≡ (editor_after_undo_redo old which).past → new.future ≡ (editor_after_undo_redo old which).future → after ≡ before
    → GoesOn {E = E} listed line (UndoRedo which) old before (Ok answers.Nothing) new after
nothing_moved listed line which old new before after none screen past future untouched =
    let same : new ≡ old = moved_as which old new screen past future ∙ idle_undo_redo old which none in
    record {
      stands = λ page k stands.
          let idle = kept-idle k which
          (finds_none page k which (sym (ap (λ (e : EditorState). states_ahead e which) stands.is) ∙ none)) in
          subst (λ (j : KeptEdits). StandsAfter new page j) (sym idle)
          (subst (λ (e : EditorState). StandsAfter e page k) (sym same) stands);
      made = λ e. absurd cc;
      nothing = (λ _. (which, refl, none), λ _. refl);
      idle = λ _. (same, untouched);
      cut = tt;
    }

-- the event of one that finds something
undo_redo_event : (listed : Bool) (line : ℕ) (page : List Command) (k : KeptEdits) (which : UndoRedoKind)
    → finds_nothing which k ≡ false
    → event_from listed line (remaining page k) (remaining page (kept_after k (UndoRedo which))) ∷ []
    ≡ line_events listed line page k (UndoRedo which)
undo_redo_event listed line page k which some =
    let event = event_from listed line (remaining page k) (remaining page (kept_after k (UndoRedo which))) in
    ap (λ (b : Bool). cond b (nothing_event listed line (remaining page k)) event ∷ []) (sym some)

-- what it did to the screen, the states, the sink and the glass
pub record HasMovedEdit {X E : Type 0} (listed : Bool) (line : ℕ) (which : UndoRedoKind) (old : EditorState) (before : Output)
    (marks : List Bool) (result : Result X E) (new : EditorState) (after : Output) : Type 0 where
  pub some : states_ahead old which ≢ []
  pub screen : new.screen ≡ (editor_after_undo_redo old which).screen
  pub past : new.past ≡ (editor_after_undo_redo old which).past
  pub future : new.future ≡ (editor_after_undo_redo old which).future
  pub painted : IsRepainted old.screen new.screen marks before.glass after.glass
  pub put : PutsText before.sink
      (cond listed (change_lines line (marked_looks marks (looks_of (core_of new.screen)))) []) result after.sink

-- the editor stands after the edits that it leaves, and it is one event
record IsMoved {X E : Type 0} (listed : Bool) (line : ℕ) (which : UndoRedoKind) (before : Output) (result : Result X E)
    (new : EditorState) (after : Output) (page : List Command) (k : KeptEdits) : Type 0 where
  some : finds_nothing which k ≡ false
  stands : StandsAfter new page (kept_after k (UndoRedo which))
  made : IsMade (event_from listed line (remaining page k) (remaining page (kept_after k (UndoRedo which)))) before result after

moved : {X E : Type 0} (listed : Bool) (line : ℕ) (which : UndoRedoKind) (old : EditorState) (before : Output)
    (marks : List Bool) (result : Result X E) (new : EditorState) (after : Output)
    → HasMovedEdit listed line which old before marks result new after → (page : List Command) (k : KeptEdits)
    → StandsAfter old page k → IsMoved listed line which before result new after page k
moved listed line which old before marks result new after t page k stands =
    let some = finds_some page k which
    (λ none. t.some (ap (λ (e : EditorState). states_ahead e which) stands.is ∙ none)) in
    let left = StandsAfter-undo_redo old new page k which stands some (moved_as which old new t.screen t.past t.future) in
    record {
      some = some;
      stands = left;
      made = made_from listed line (remaining page k) (remaining page (kept_after k (UndoRedo which))) old.screen new.screen
          marks result before.sink after.sink before.glass after.glass (ap (λ (e : EditorState). e.screen) stands.is)
          (ap (λ (e : EditorState). e.screen) left.is) (undo_redo_differs old page k which stands some) t.painted t.put;
    }

-- it wasn't Nothing
none_there : (which : UndoRedoKind) (old : EditorState) → states_ahead old which ≢ []
    → (other : UndoRedoKind) × (UndoRedo which ≡ UndoRedo other) × (states_ahead old other ≡ []) → ⊥
none_there which old some (other, same, none) =
    let which_is : which ≡ other = cc in
    some (subst (λ (t : UndoRedoKind). states_ahead old t ≡ []) (sym which_is) none)

pub undo_redo_made : {X E F : Type 0} {x : X} (listed : Bool) (line : ℕ) (which : UndoRedoKind) (old : EditorState)
    (before : Output) (marks : List Bool) (new : EditorState) (after : Output)
    → HasMovedEdit {X = X} {E = E} listed line which old before marks (Ok x) new after
    → GoesOn {E = F} listed line (UndoRedo which) old before (Ok answers.Done) new after
undo_redo_made listed line which old before marks new after t = record {
  stands = λ page k stands. (moved listed line which old before marks _ new after t page k stands).stands;
  made = λ _ page k stands.
      let done = moved listed line which old before marks _ new after t page k stands in
      subst (λ (es : List Event). AreMade es before after) (undo_redo_event listed line page k which done.some)
      (AreMade-more [] _ before before after (AreMade-none before) done.made);
  nothing = (λ e. absurd cc, λ p. absurd (none_there which old t.some p));
  idle = λ e. absurd cc;
  cut = tt;
}

pub undo_redo_cut : {X E F : Type 0} {e : E} {f : F} (listed : Bool) (line : ℕ) (which : UndoRedoKind) (old : EditorState)
    (before : Output) (marks : List Bool) (new : EditorState) (after : Output)
    → HasMovedEdit {X = X} {E = E} listed line which old before marks (Err e) new after
    → GoesOn {E = F} listed line (UndoRedo which) old before (Err f) new after
undo_redo_cut listed line which old before marks new after t = record {
  stands = tt;
  made = λ e. absurd cc;
  nothing = (λ e. absurd cc, λ p. absurd (none_there which old t.some p));
  idle = λ e. absurd cc;
  cut = λ page k stands.
      let done = moved listed line which old before marks _ new after t page k stands in
      record {
        cut = subst (λ (es : List Event). AreCutOff es before after) (undo_redo_event listed line page k which done.some)
            (AreCutOff-here [] _ before before after (AreMade-none before) refl done.made);
        stands = done.stands;
      };
}
