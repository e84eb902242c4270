use Rattle.std.proofs.Common.{append-nil, refl, sym, ◌++◌, ◌∙◌, ap, arith}
use Rattle.cept_colours.specs.Colours.{ColourTables}
use Rattle.cept_profile.specs.PageParts.{paint_in}
use Rattle.cept_writer.specs.EntryPieces.{entry_numbered, entry_piece, last_below, piece_after, pieces_in_turn}
use Rattle.cept_writer.proofs.ColoursPut.{default_is}
use Rattle.cept_writer.proofs.EntriesPut.{entry_is, number_is}
use Rattle.cept_writer.proofs.WrittenInTurn.{one_added}
use Rattle.cept_writer.proofs.colours.add_entries.Goals as goal

pub add_changed-next-requires-clause-default : goal.add_changed-next-requires-clause-default
add_changed-next-requires-clause-default c =
    c.paint.ensures.paint ∙ ap (λ (d : ColourTables). paint_in d.paints c.loop-i.i) c.new-defaults.ensures
    ∙ default_is c.loop-i.i (omega arith)

pub loop-i-preserved : goal.loop-i-preserved
unfolding pieces_in_turn
loop-i-preserved c =
    let paints = c.args.screen.now.page.paints in
    let of_number = entry_numbered paints in
    let i = c.loop-i.i in
    let paint = c.colour.ensures.paint in
    record {
      commands = one_added (λ j. piece_after entry_piece (last_below of_number j) (of_number j)) 0 i i _ _ _
          (omega arith) c.loop-i.invariant.commands
          (c.add_changed-next.ensures.adds.commands ∙ ap (λ l. c.loop-i.list ++ l)
          (entry_is paints i c.loop-i.next c.colour.result c.loop-i.invariant.next paint));
      len = omega (arith, c.add_changed-next.ensures.adds.len, c.loop-i.invariant.len);
      next = c.add_changed-next.ensures.next
          ∙ number_is paints i c.loop-i.next c.colour.result c.loop-i.invariant.next paint;
    }

pub loop-i-init : goal.loop-i-init
unfolding pieces_in_turn last_below
loop-i-init c = record { commands = sym (append-nil c.args.list.now); len = omega arith; next = refl }
