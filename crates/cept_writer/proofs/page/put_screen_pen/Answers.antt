use Rattle.std.proofs.Common.{◌++◌, ◌∙◌, ap, sym, subst}
use Rattle.cept_codes.specs.declared.attribute.Pen.{Pen}
use Rattle.cept_codes.specs.declared.command.Command.TheVariants as commands
use Rattle.cept_profile.specs.Valid.{AllValid}
use Rattle.cept_writer.specs.AttributeCommands.{pen_commands}
use Rattle.cept_writer.proofs.PageCommandsValid.{screen_valid}
use Rattle.cept_writer.proofs.page.put_screen_pen.Goals as goal

pub put_commands-requires : goal.put_commands-requires
put_commands-requires g c =
    let pen = c.screen_pen.result in
    let is = c.as_slice.ensures.commands ∙ c.add_pen.ensures.commands
    ∙ ap (λ l. l ++ pen_commands (λ n. commands.FullScreen n) pen) c.new-list.ensures in
    record {
      few = c.as_slice.ensures.few;
      valid = subst AllValid (sym is) (screen_valid pen c.screen_pen.ensures.valid);
    }

pub returns : goal.returns
returns g c =
    let pen = c.screen_pen.result in
    let is = c.as_slice.ensures.commands ∙ c.add_pen.ensures.commands
    ∙ ap (λ l. l ++ pen_commands (λ n. commands.FullScreen n) pen) c.new-list.ensures
    ∙ ap (λ (p : Pen). pen_commands (λ n. commands.FullScreen n) p) c.screen_pen.ensures.pen in
    rw is at c.put_commands.ensures
