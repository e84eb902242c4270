use Rattle.std.proofs.Common.{◌++◌, ◌∷◌, [], ◌∙◌, ap, sym, subst}
use Rattle.cept_codes.specs.declared.attribute.Pen.{Pen}
use Rattle.cept_codes.specs.declared.command.Command.TheVariants as commands
use Rattle.cept_profile.specs.PageParts.{row_pen_in}
use Rattle.cept_profile.specs.Valid.{AllValid}
use Rattle.cept_writer.specs.AttributeCommands.{pen_commands}
use Rattle.cept_writer.proofs.ColoursPut.{row_headed}
use Rattle.cept_writer.proofs.PageCommandsValid.{row_valid}
use Rattle.cept_writer.proofs.page.put_row.Goals as goal

pub put_headed-requires : goal.put_headed-requires
put_headed-requires g c =
    let pen = c.row_pen.result in
    let is = c.as_slice.ensures.commands ∙ c.add_pen.ensures.commands
    ∙ ap (λ l. l ++ pen_commands (λ n. commands.FullRow n) pen)
    (c.add.ensures.commands ∙ ap (λ l. l ++ commands.Position c.args.row 1 ∷ []) c.new-list.ensures) in
    record {
      few = c.as_slice.ensures.few;
      valid = subst AllValid (sym is) (row_valid c.args.row pen c.requires.from_top c.requires.to_bottom c.row_pen.ensures.valid);
    }

pub returns : goal.returns
returns g c =
    let pen = c.row_pen.result in
    let all = row_pen_in c.args.screen.now.page.row_pens c.args.row in
    let is = c.as_slice.ensures.commands ∙ c.add_pen.ensures.commands
    ∙ ap (λ l. l ++ pen_commands (λ n. commands.FullRow n) pen)
    (c.add.ensures.commands ∙ ap (λ l. l ++ commands.Position c.args.row 1 ∷ []) c.new-list.ensures)
    ∙ ap (λ (p : Pen). commands.Position c.args.row 1 ∷ pen_commands (λ n. commands.FullRow n) p) c.row_pen.ensures.pen in
    rw (sym (row_headed c.args.row (pen_commands (λ n. commands.FullRow n) all))) (rw is at c.put_headed.ensures)
