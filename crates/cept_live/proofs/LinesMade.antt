-- Lines of a script made on a decoder whose page has ended.
use Rattle.std.proofs.Common.{◌≡◌, ◌≢◌, ℕ, ◌≤◌, Bool, false, true, Option, None, List, [], ◌∷◌, ◌++◌, length, sym, ap, subst, ◌∙◌}
use Rattle.std.proofs.lemmas.List.{map-append}
use Rattle.cept_codes.specs.declared.command.Command.{Command}
use Rattle.cept_codes.specs.declared.look.Look.{Look}
use Rattle.cept_codes.specs.Place.{Place}
use Rattle.cept_editor.specs.Applying.{changes_in_turn, changes_of_step, editor_after_step}
use Rattle.cept_editor.specs.Events.{paints}
use Rattle.cept_editor.specs.Kept.{EditorState, StandsAfter, kept_after}
use Rattle.cept_editor.specs.declared.undo_redo.UndoRedo.{UndoRedo as UndoRedoKind}
use Rattle.cept_editor.specs.Meaning.{HasCommand, IsValidStep, Step, UndoRedo}
use Rattle.cept_editor.specs.Stepping.{line_events, states_ahead}
use Rattle.cept_editor.proofs.Laws.{StandsAfter-step, paints-step}
use Rattle.cept_profile.specs.Changes.{changes_between, differences, marked_looks}
use Rattle.cept_profile.specs.Look.{looks_of}
use Rattle.cept_profile.specs.State.{State, core_of, state_after}
use Rattle.cept_redraw.specs.Marks.{no_marks}
use Rattle.cept_repaint.specs.InTurn.{state_after_all}
use Rattle.cept_undo.specs.Past.{Edits, StaysBegun, future, past}
use Rattle.cept_live.specs.declared.edits.Editing.{Editing}
use Rattle.cept_live.specs.declared.notice.Notice.{Notice}
use Rattle.cept_live.specs.Editing.{future_of, past_of}
use Rattle.cept_live.specs.inside.Editing.{editor_with}
use Rattle.cept_live.specs.EditLines.{MakesLine, editor_of, sayings_once}
use Rattle.cept_live.specs.Live.{LiveState, Tells}
use Rattle.cept_live.specs.Notices.{Change, Saying, change_sayings}
use Rattle.cept_live.specs.Renewed.{marked_with}
use Rattle.cept_live.proofs.SayingsTold.{marked_with-append, marked_with-none}

-- ---- commands one after the other

pub StaysBegun-next : {old now new : Edits} {before mid after : State} → StaysBegun old before now mid
    → StaysBegun now mid new after → StaysBegun old before new after
StaysBegun-next first second = record {
  past = second.past ∙ first.past;
  at_begin = second.at_begin ∙ first.at_begin;
  future = second.future;
  begun = second.begun;
  fits = second.fits;
}

-- one of the commands that are left
pub state-left : (s t : State) (c : Command) (left rest : List Command) → left ≡ c ∷ rest → t ≡ state_after s c
    → state_after_all t rest ≡ state_after_all s left
unfolding state_after_all
state-left s t c left rest is after =
    ap (λ (u : State). state_after_all u rest) after ∙ ap (state_after_all s) (sym is)

pub state-none : (s : State) (left : List Command) → left ≡ [] → s ≡ state_after_all s left
unfolding state_after_all
state-none s left none = ap (state_after_all s) (sym none)

-- the marks of what they change
pub marks-left : (s t : State) (c : Command) (left rest : List Command) (marks marked after : List Bool) → left ≡ c ∷ rest
    → t ≡ state_after s c → marks ≡ differences (looks_of (core_of s)) (looks_of (core_of t))
    → after ≡ marked_with marked (change_sayings 0 (marked_looks marks (looks_of (core_of t))))
    → marked_with after (change_sayings 0 (changes_in_turn t rest))
    ≡ marked_with marked (change_sayings 0 (changes_in_turn s left))
unfolding changes_in_turn
marks-left s t c left rest marks marked after is next marks_are added =
    let g = looks_of (core_of s) in
    let h = looks_of (core_of t) in
    let later = changes_in_turn t rest in
    ap (λ (m : List Bool). marked_with m (change_sayings 0 later))
    (added ∙ ap (λ (m : List Bool). marked_with marked (change_sayings 0 (marked_looks m h))) marks_are)
    ∙ sym (marked_with-append marked (change_sayings 0 (changes_between g h)) (change_sayings 0 later))
    ∙ ap (marked_with marked) (sym (map-append (λ (x : Place × Look). Change 0 x.0 x.1) (changes_between g h) later))
    ∙ ap (λ (u : State). marked_with marked (change_sayings 0 (changes_between g (looks_of (core_of u)) ++ changes_in_turn u rest)))
    next
    ∙ ap (λ (l : List Command). marked_with marked (change_sayings 0 (changes_in_turn s l))) (sym is)

pub marks-none_left : (s : State) (left : List Command) (marked : List Bool) → left ≡ []
    → marked ≡ marked_with marked (change_sayings 0 (changes_in_turn s left))
unfolding changes_in_turn
marks-none_left s left marked none =
    sym (marked_with-none marked)
    ∙ ap (λ (l : List Command). marked_with marked (change_sayings 0 (changes_in_turn s l))) (sym none)

-- the marks of what an undo or a redo changes
pub marks-moved : (which : UndoRedoKind) (old new : EditorState) (marks changed : List Bool)
    → new ≡ editor_after_step old (UndoRedo which) → marks ≡ no_marks
    → changed ≡ marked_with marks (change_sayings 0 (changes_between (looks_of (core_of old.screen)) (looks_of (core_of new.screen))))
    → changed ≡ marked_with no_marks (change_sayings 0 (changes_of_step old (UndoRedo which)))
marks-moved which old new marks changed made none is =
    let g = looks_of (core_of old.screen) in
    is
    ∙ ap (λ (m : List Bool). marked_with m (change_sayings 0 (changes_between g (looks_of (core_of new.screen))))) none
    ∙ ap (λ (e : EditorState). marked_with no_marks (change_sayings 0 (changes_between g (looks_of (core_of e.screen))))) made

-- while no edit was made, none can be undone or redone
pub past-none : (edits : Option Editing) (s t : State) → edits ≡ None → past_of edits s ≡ past_of edits t
past-none edits s t none = ap (λ e. past_of e s) none ∙ sym (ap (λ e. past_of e t) none)

pub future-none : (edits : Option Editing) (s t : State) → edits ≡ None → future_of edits s ≡ future_of edits t
future-none edits s t none = ap (λ e. future_of e s) none ∙ sym (ap (λ e. future_of e t) none)

-- an editor by its edits
pub editor-of_edits : (editing : Editing) (edits : Option Editing) (s : State) → past editing.undo s ≡ past_of edits s
    → future editing.undo s ≡ future_of edits s
    → editor_with editing.undo s ≡ (let e : EditorState = record { screen = s; past = past_of edits s; future = future_of edits s } in e)
editor-of_edits editing edits s is_past is_future = λ i. record { screen = s; past = is_past i; future = is_future i }

-- ---- a line

-- a line was made by its step, and what it marked is told
pub line-made : (step : Step) (old new : LiveState) (list now : List Notice) (to : ℕ) (changed : List Bool)
    → old.parser.finished ≡ true → 960 ≤ length list → new.parser ≡ old.parser → new.phase ≡ old.phase → to ≤ 960
    → editor_of new ≡ editor_after_step (editor_of old) step
    → ((which : UndoRedoKind) → step ≡ UndoRedo which → states_ahead (editor_of old) which ≢ []) → IsValidStep step → HasCommand step
    → changed ≡ marked_with no_marks (change_sayings 0 (changes_of_step (editor_of old) step))
    → Tells list 0 (change_sayings old.parser.place (marked_looks changed (looks_of (core_of new.screen)))) to now
    → new.renewed
    ≡ marked_with old.renewed (change_sayings old.parser.place (marked_looks changed (looks_of (core_of new.screen))))
    → MakesLine step old list new to now
line-made step old new list now to changed finished enough parser phase most made finds valid some is tells marks_are =
    let at = old.parser.place in
    let g = looks_of (core_of new.screen) in
    record {
      finished = finished;
      enough = enough;
      valid = valid;
      parser = parser;
      phase = phase;
      most = most;
      made = made;
      finds = finds;
      stands = λ page k stands. subst (λ e. StandsAfter e page (kept_after k step)) (sym made)
          (StandsAfter-step (editor_of old) page k step stands valid some);
      tells = λ page k stands.
          let once : change_sayings at (marked_looks changed g) ≡ sayings_once at (paints (line_events false 0 page k step)) g =
          ap (λ (m : List Bool). change_sayings at (marked_looks m g)) is
          ∙ ap (λ (xs : List (Place × Look)). sayings_once at xs g) (sym (paints-step false 0 (editor_of old) page k step stands valid)) in
          record {
            tells = subst (λ (xs : List Saying). Tells list 0 xs to now) once tells;
            marks_are = marks_are ∙ ap (marked_with old.renewed) once;
          };
    }
