use Rattle.std.proofs.Common.{Bool, List, refl, ap, arith, ◌∙◌}
use Rattle.cept_editor.specs.Applying.{changes_in_turn, editor_after_step}
use Rattle.cept_editor.specs.Kept.{EditorState}
use Rattle.cept_editor.specs.Meaning.{Edit}
use Rattle.cept_live.specs.Editing.{future_of, past_of}
use Rattle.cept_live.specs.Live.{LiveState}
use Rattle.cept_live.specs.Notices.{change_sayings}
use Rattle.cept_live.specs.Renewed.{marked_with}
use Rattle.cept_live.proofs.LinesMade.{editor-of_edits, line-made}
use Rattle.cept_live.proofs.live.Live.edit_by.Goals as goal

pub returns : goal.returns
returns g c =
    let screen = c.self.inside.display.screen in
    let before = editor-of_edits c.in-Ok.editing c.self.inside.edits screen
    (c.in-Ok.ensures.past ∙ ap (λ e. past_of e screen) c.take.ensures.value)
    (c.in-Ok.ensures.future ∙ ap (λ e. future_of e screen) c.take.ensures.value) in
    rw (← c.self.view_is) (line-made (Edit c.args.commands) _ _ _ _ _ c.make.new.changed
    (ap (λ (l : LiveState). l.parser.finished) c.self.view_is ∙ c.requires.ready.finished) c.requires.ready.enough refl refl
    (omega (arith, c.tell_marked-notices.ensures.most))
    (c.make.ensures.made ∙ ap (λ (e : EditorState). editor_after_step e (Edit c.args.commands)) before)
    (λ which same. absurd cc) c.requires.valid c.requires.some
    (c.make.ensures.changed
    ∙ ap (λ (m : List Bool). marked_with m (change_sayings 0 (changes_in_turn screen c.args.commands))) c.new-changed.ensures)
    (rw c.place.ensures at c.tell_marked-notices.ensures.tells) (rw c.place.ensures at c.tell_marked-notices.ensures.renews))
