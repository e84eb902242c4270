use Rattle.std.proofs.Common.{◌++◌, ◌∙◌, ap}
use Rattle.std.specs.List.{flat_map}
use Rattle.cept_parser.specs.Spelling.{spelling}
use Rattle.cept_writer.proofs.TextsPut.{spellings_flat}
use Rattle.cept_writer.proofs.put.put_commands_in.Goals as goal

pub returns : goal.returns
returns g c =
    let is = c.as_slice.ensures.value ∙ c.add_spellings.ensures.text ∙ ap (λ l. l ++ flat_map spelling c.args.commands.now) c.clear.ensures
    ∙ spellings_flat c.args.commands.now in
    rw is at c.put_all.ensures.puts
