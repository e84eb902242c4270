use Rattle.std.proofs.Common.{◌∷◌, ap, take, ◌∙◌}
use Rattle.cept_undo.specs.Past.{most_kept}
use Rattle.cept_live.proofs.edits.Editing.make.Goals as goal

pub returns-clause-made : goal.returns-clause-made
returns-clause-made g c =
    let edit = c.apply_commands.ensures.edit in
    let past = c.commit.ensures.past c.apply_commands.new.screen c.args.screen.now (edit.at_begin ∙ c.begin.ensures.at_begin)
    ∙ ap (λ l. take most_kept (c.args.screen.now ∷ l)) (edit.past ∙ c.begin.ensures.past) in
    λ i. record {
      screen = c.apply_commands.ensures.state i;
      past = past i;
      future = c.commit.ensures.future c.apply_commands.new.screen i;
    }
