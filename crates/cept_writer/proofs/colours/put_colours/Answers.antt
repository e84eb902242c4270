use Rattle.std.proofs.Common.{false, ◌++◌, ◌∷◌, [], ◌∙◌, ap, sym, subst}
use Rattle.cept_codes.specs.declared.command.Command.TheVariants as commands
use Rattle.cept_profile.specs.State.{core_of}
use Rattle.cept_profile.specs.Valid.{AllValid}
use Rattle.cept_writer.specs.EntryPieces.{entry_numbered, entry_piece, pieces_in_turn}
use Rattle.cept_writer.proofs.ColoursPut.{colours_headed}
use Rattle.cept_writer.proofs.EntriesPut.{entries_valid}
use Rattle.cept_writer.proofs.colours.put_colours.Goals as goal

pub put_headed-requires : goal.put_headed-requires
put_headed-requires g c =
    let entries = pieces_in_turn entry_piece (entry_numbered c.args.screen.now.page.paints) 32 in
    let is = c.as_slice.ensures.commands ∙ c.add_entries.ensures
    ∙ ap (λ l. l ++ entries) (c.add.ensures.commands ∙ ap (λ l. l ++ commands.ColourHeader false ∷ []) c.new-list.ensures) in
    record {
      few = c.as_slice.ensures.few;
      valid = subst AllValid (sym is)
          (tt, entries_valid (core_of c.args.screen.now) (c.validity_is_kept.ensures.core c.args.screen.now c.rows-rows.ensures.valid));
    }

pub returns : goal.returns
returns g c =
    let entries = pieces_in_turn entry_piece (entry_numbered c.args.screen.now.page.paints) 32 in
    let is = c.as_slice.ensures.commands ∙ c.add_entries.ensures
    ∙ ap (λ l. l ++ entries) (c.add.ensures.commands ∙ ap (λ l. l ++ commands.ColourHeader false ∷ []) c.new-list.ensures) in
    rw (sym (colours_headed entries)) (rw is at c.put_headed.ensures)
