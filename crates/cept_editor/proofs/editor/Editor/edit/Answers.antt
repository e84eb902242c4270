use Rattle.std.proofs.Common.{◌∙◌, ◌∷◌, take, ap}
use Rattle.std.proofs.lemmas.Result.{err_from_is_err_and}
use Rattle.cept_undo.specs.Past.{most_kept}
use Rattle.cept_editor.proofs.LinesMade.{edit_made, edit_cut}
use Rattle.cept_editor.proofs.StatesInTurn.{HasMade-edit, HasMade-cut}
use Rattle.cept_editor.proofs.editor.Editor.edit.Goals as goal

pub returns-in_err-applied-clause-goes_on : goal.returns-in_err-applied-clause-goes_on
returns-in_err-applied-clause-goes_on g c =
    let past = c.commit.ensures.past c.apply_commands-applied.new.screen c.self.inside.screen
    (c.apply_commands-applied.ensures.edit.at_begin ∙ c.begin.ensures.at_begin)
    ∙ ap (λ l. take most_kept (c.self.inside.screen ∷ l)) (c.apply_commands-applied.ensures.edit.past ∙ c.begin.ensures.past) in
    rw (← c.self.view_is, (err_from_is_err_and c.from_residual.result c.from_residual.ensures.1).1) (edit_cut
    c.args.listing.now.listed c.args.listing.now.line c.args.commands _ _ _ _ c.in_err-applied.ensures.applies c.requires.valid c.requires.some
    past (c.commit.ensures.future _))

pub returns-in_err-applied-clause-made : goal.returns-in_err-applied-clause-made
returns-in_err-applied-clause-made g c =
    let past = c.commit.ensures.past c.apply_commands-applied.new.screen c.self.inside.screen
    (c.apply_commands-applied.ensures.edit.at_begin ∙ c.begin.ensures.at_begin)
    ∙ ap (λ l. take most_kept (c.self.inside.screen ∷ l)) (c.apply_commands-applied.ensures.edit.past ∙ c.begin.ensures.past) in
    rw (← c.self.view_is, (err_from_is_err_and c.from_residual.result c.from_residual.ensures.1).1)
    (HasMade-cut c.args.commands _ _ past (c.commit.ensures.future _))

pub returns-clause-goes_on : goal.returns-clause-goes_on
returns-clause-goes_on g c =
    let past = c.commit.ensures.past c.apply_commands-applied.new.screen c.self.inside.screen
    (c.apply_commands-applied.ensures.edit.at_begin ∙ c.begin.ensures.at_begin)
    ∙ ap (λ l. take most_kept (c.self.inside.screen ∷ l)) (c.apply_commands-applied.ensures.edit.past ∙ c.begin.ensures.past) in
    rw (← c.self.view_is) (edit_made
    c.args.listing.now.listed c.args.listing.now.line c.args.commands _ _ _ _ c.in_ok-applied.ensures.applies c.requires.valid c.requires.some
    past (c.commit.ensures.future _))

pub returns-clause-made : goal.returns-clause-made
returns-clause-made g c =
    let past = c.commit.ensures.past c.apply_commands-applied.new.screen c.self.inside.screen
    (c.apply_commands-applied.ensures.edit.at_begin ∙ c.begin.ensures.at_begin)
    ∙ ap (λ l. take most_kept (c.self.inside.screen ∷ l)) (c.apply_commands-applied.ensures.edit.past ∙ c.begin.ensures.past) in
    rw (← c.self.view_is)
    (HasMade-edit c.args.commands _ _ _ (c.in_ok-applied.ensures.marks c.requires.some) past
    (c.commit.ensures.future _))
