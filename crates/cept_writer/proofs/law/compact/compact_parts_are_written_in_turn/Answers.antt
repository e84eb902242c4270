use Rattle.cept_writer.proofs.EntriesInTurn.{entries_are_pieces, patterns_are_pieces}
use Rattle.cept_writer.proofs.SegmentsByCell.{pieces_are_segments}
use Rattle.cept_writer.proofs.law.compact.compact_parts_are_written_in_turn.Goals as goal

pub returns : goal.returns
returns c = record {
  entries = entries_are_pieces;
  patterns = patterns_are_pieces;
  cells = pieces_are_segments c.cells_compare_by_their_fields.ensures.set c.cells_compare_by_their_fields.ensures.glyph;
}
