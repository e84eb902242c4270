use Rattle.std.proofs.Common.{ap, ◌∙◌}
use Rattle.cept_editor.specs.Kept.{EditorState}
use Rattle.cept_editor.proofs.editor.Editor.page.Goals as goal

pub returns-clause-past : goal.returns-clause-past
returns-clause-past g c = c.apply_outside.ensures.edits.past ∙ ap (λ (e : EditorState). e.past) c.self.view_is

pub returns-clause-future : goal.returns-clause-future
returns-clause-future g c = c.apply_outside.ensures.edits.future

pub invariant_of-self : goal.invariant_of-self
invariant_of-self g c = record {
  none_begun = c.apply_outside.ensures.edits.none_begun;
  fits = c.apply_outside.ensures.edits.fits;
}
