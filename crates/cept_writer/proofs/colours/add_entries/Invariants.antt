use Rattle.std.proofs.Common.{◌≡◌, ◌+◌, ◌*◌, ◌≤◌, ◌++◌, length}
use Rattle.cept_writer.specs.EntryPieces.{entry_numbered, entry_piece, last_below, pieces_in_turn}
use Rattle.cept_writer.specs.inside.EntryPieces.{number_after}
use Rattle.cept_writer.proofs.colours.add_entries.Given as goal

abbrev pub invariant-loop-i : goal.invariant-loop-i
invariant-loop-i l = record {
  commands : l.list ≡ l.fn.list ++ pieces_in_turn entry_piece (entry_numbered l.screen.page.paints) l.i;
  len : length l.list ≤ length l.fn.list + 2 * l.i;
  next : l.next ≡ number_after (last_below (entry_numbered l.screen.page.paints) l.i);
}
