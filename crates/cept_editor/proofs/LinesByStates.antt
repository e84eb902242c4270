-- Edit lines by the states of an editor alone: where it stands after them, and what they change.
use Rattle.std.proofs.Common.{◌≡◌, ℕ, Bool, true, false, cond, List, [], ◌∷◌, ◌++◌, refl, sym, ap, subst, ◌∙◌}
use Rattle.std.specs.List.{AllByRecursion}
use Rattle.cept_codes.specs.Command.{IsValidCommand}
use Rattle.cept_codes.specs.declared.command.Command.{Command}
use Rattle.cept_profile.specs.Changes.{changes_between}
use Rattle.cept_profile.specs.Look.{looks_of}
use Rattle.cept_profile.specs.State.{State, state, core_of}
use Rattle.cept_profile.specs.Valid.{AllValid}
use Rattle.cept_profile.proofs.Laws.{state-one_more}
use Rattle.cept_repaint.specs.InTurn.{state_after_all}
use Rattle.cept_repaint.proofs.Laws.{state-after_all}
use Rattle.cept_editor.specs.Applying.{changes_in_turn, changes_of_step, editor_after_step, editor_after_undo_redo}
use Rattle.cept_editor.specs.Events.{Event, event_changes, paints}
use Rattle.cept_editor.specs.Kept.{EditorState, KeptEdits, StandsAfter, finds_nothing, kept_after, remaining}
use Rattle.cept_editor.specs.Meaning.{Edit, HasCommand, IsValidStep, Step, UndoRedo, UndoRedoKind}
use Rattle.cept_editor.specs.Stepping.{edit_events, event_from, line_events, states_ahead}
use Rattle.cept_editor.proofs.EditsInTurn.{edit_events-first, edit_events-none}
use Rattle.cept_editor.proofs.KeptStates.{AllByRecursion-append, StandsAfter-edit}
use Rattle.cept_editor.proofs.MadeEvents.{paints-append, paints-none, paints-one, nothing_event}
use Rattle.cept_editor.proofs.UndoRedoStates.{StandsAfter-undo_redo, idle_undo_redo, kept-idle, none_ahead}

screen_is : (old : EditorState) (page : List Command) (k : KeptEdits) → StandsAfter old page k
    → old.screen ≡ state (remaining page k)
screen_is old page k stands = ap (λ (e : EditorState). e.screen) stands.is

-- an undo or a redo that finds nothing leaves the editor
left_alone : (old : EditorState) (page : List Command) (k : KeptEdits) (which : UndoRedoKind) → StandsAfter old page k
    → finds_nothing which k ≡ true → editor_after_undo_redo old which ≡ old
left_alone old page k which stands none =
    idle_undo_redo old which (ap (λ (e : EditorState). states_ahead e which) stands.is ∙ none_ahead page k which none)

-- ---- where it stands

moved_stands : (old : EditorState) (page : List Command) (k : KeptEdits) (which : UndoRedoKind) → StandsAfter old page k
    → StandsAfter (editor_after_undo_redo old which) page (kept_after k (UndoRedo which))
moved_stands old page k which stands = by_finding (finds_nothing which k) refl
  where
    by_finding : (none : Bool) → finds_nothing which k ≡ none
        → StandsAfter (editor_after_undo_redo old which) page (kept_after k (UndoRedo which))
    by_finding true is =
        subst (λ (j : KeptEdits). StandsAfter (editor_after_undo_redo old which) page j) (sym (kept-idle k which is))
        (subst (λ (e : EditorState). StandsAfter e page k) (sym (left_alone old page k which stands is)) stands)
    by_finding false is = StandsAfter-undo_redo old (editor_after_undo_redo old which) page k which stands is refl

pub StandsAfter-step : (old : EditorState) (page : List Command) (k : KeptEdits) (step : Step) → StandsAfter old page k
    → IsValidStep step → HasCommand step → StandsAfter (editor_after_step old step) page (kept_after k step)
StandsAfter-step old page k (Edit commands) stands good some =
    StandsAfter-edit old (editor_after_step old (Edit commands)) page k commands stands good some
    (ap (λ (s : State). state_after_all s commands) (screen_is old page k stands)
    ∙ sym (state-after_all (remaining page k) commands stands.valid good)) refl refl
StandsAfter-step old page k (UndoRedo which) stands good some = moved_stands old page k which stands

-- ---- what they change

edit_paints : (listed : Bool) (line : ℕ) (history commands : List Command) → AllValid history
    → AllByRecursion IsValidCommand commands
    → paints (edit_events listed line history commands) ≡ changes_in_turn (state history) commands
unfolding changes_in_turn
edit_paints listed line history [] valid good = ap paints (edit_events-none listed line history) ∙ paints-none
edit_paints listed line history (c ∷ cs) valid good =
    let longer = history ++ c ∷ [] in
    let e = event_from listed line history longer in
    let rest = edit_events listed line longer cs in
    ap paints (edit_events-first listed line history c cs) ∙ paints-append (e ∷ []) rest
    ∙ ap (λ l. l ++ paints rest) (paints-one e)
    ∙ ap (λ l. event_changes e ++ l) (edit_paints listed line longer cs
    (AllByRecursion-append IsValidCommand history (c ∷ []) valid (good.0, tt)) good.1)
    ∙ ap (λ (s : State). changes_between (looks_of (core_of (state history))) (looks_of (core_of s)) ++ changes_in_turn s cs)
    (state-one_more history c valid good.0)

-- between the states of an editor, where those of an event are these
between : (e : Event) (s t : State) → s ≡ state e.before → t ≡ state e.after
    → paints (e ∷ []) ≡ changes_between (looks_of (core_of s)) (looks_of (core_of t))
between e s t before after =
    paints-one e ∙ (λ i. changes_between (looks_of (core_of (sym before i))) (looks_of (core_of (sym after i))))

undo_redo_paints : (listed : Bool) (line : ℕ) (old : EditorState) (page : List Command) (k : KeptEdits) (which : UndoRedoKind)
    → StandsAfter old page k → paints (line_events listed line page k (UndoRedo which)) ≡ changes_of_step old (UndoRedo which)
undo_redo_paints listed line old page k which stands = by_finding (finds_nothing which k) refl
  where
    nothing : Event
    nothing = nothing_event listed line (remaining page k)

    moved : Event
    moved = event_from listed line (remaining page k) (remaining page (kept_after k (UndoRedo which)))

    by_finding : (none : Bool) → finds_nothing which k ≡ none
        → paints (line_events listed line page k (UndoRedo which)) ≡ changes_of_step old (UndoRedo which)
    by_finding true is =
        ap (λ (b : Bool). paints (cond b nothing moved ∷ [])) is
        ∙ between nothing old.screen (editor_after_undo_redo old which).screen (screen_is old page k stands)
        (ap (λ (e : EditorState). e.screen) (left_alone old page k which stands is) ∙ screen_is old page k stands)
    by_finding false is =
        ap (λ (b : Bool). paints (cond b nothing moved ∷ [])) is
        ∙ between moved old.screen (editor_after_undo_redo old which).screen (screen_is old page k stands)
        (screen_is (editor_after_undo_redo old which) page (kept_after k (UndoRedo which)) (moved_stands old page k which stands))

pub paints-step : (listed : Bool) (line : ℕ) (old : EditorState) (page : List Command) (k : KeptEdits) (step : Step)
    → StandsAfter old page k → IsValidStep step → paints (line_events listed line page k step) ≡ changes_of_step old step
paints-step listed line old page k (Edit commands) stands good =
    edit_paints listed line (remaining page k) commands stands.valid good
    ∙ ap (λ (s : State). changes_in_turn s commands) (sym (screen_is old page k stands))
paints-step listed line old page k (UndoRedo which) stands good = undo_redo_paints listed line old page k which stands
