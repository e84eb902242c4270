use Rattle.std.proofs.Common.{◌≡◌, [], refl, ap, arith, sym, subst, ◌∙◌}
use Rattle.std.proofs.lemmas.Bool.{true≢false}
use Rattle.cept_editor.specs.Applying.{editor_after_step}
use Rattle.cept_editor.specs.declared.undo_redo.UndoRedo.{UndoRedo as UndoRedoKind}
use Rattle.cept_editor.specs.Kept.{EditorState}
use Rattle.cept_editor.specs.Meaning.{UndoRedo}
use Rattle.cept_editor.specs.Stepping.{states_ahead}
use Rattle.cept_live.specs.Editing.{future_of, past_of}
use Rattle.cept_live.specs.inside.Editing.{editor_with}
use Rattle.cept_live.specs.Live.{LiveState}
use Rattle.cept_live.proofs.LinesMade.{editor-of_edits, line-made, marks-moved}
use Rattle.cept_live.proofs.live.Live.undo_redo_by.Goals as goal

pub returns : goal.returns
returns g c =
    let screen = c.self.inside.display.screen in
    let there = sym c.in-Some.is ∙ c.take.ensures.value in
    let before = editor-of_edits c.in-Some.editing c.self.inside.edits screen (ap (λ e. past_of e screen) there)
    (ap (λ e. future_of e screen) there) in
    let old : EditorState = record {
      screen = screen;
      past = past_of c.self.inside.edits screen;
      future = future_of c.self.inside.edits screen;
    } in
    let new : EditorState = editor_with c.undo_redo-moved.new.self.undo c.undo_redo-moved.new.screen in
    let made : new ≡ editor_after_step old (UndoRedo c.args.which) =
    c.undo_redo-moved.ensures.moves.made ∙ ap (λ (e : EditorState). editor_after_step e (UndoRedo c.args.which)) before in
    rw (← c.self.view_is) (line-made (UndoRedo c.args.which) _ _ _ _ _ c.undo_redo-moved.new.changed
    (ap (λ (l : LiveState). l.parser.finished) c.self.view_is ∙ c.requires.ready.finished) c.requires.ready.enough refl refl
    (omega (arith, c.tell_marked-notices.ensures.most)) made
    (λ other same none.
    let which_is : c.args.which ≡ other = cc in
    true≢false (sym c.if-not-moved.false
    ∙ c.undo_redo-moved.ensures.moves.nothing.1 (subst (λ (t : UndoRedoKind). states_ahead (editor_with c.in-Some.editing.undo screen) t ≡ [])
    (sym which_is) (ap (λ (e : EditorState). states_ahead e other) before ∙ none)))) tt tt
    (marks-moved c.args.which old new _ c.undo_redo-moved.new.changed made c.new-changed.ensures c.undo_redo-moved.ensures.changed)
    (rw c.place.ensures at c.tell_marked-notices.ensures.tells) (rw c.place.ensures at c.tell_marked-notices.ensures.renews))
