use Rattle.cept_writer.proofs.CompactSpelled.{compact_commands_read, compact_spelled, compact_unrefused}
use Rattle.cept_writer.proofs.SegmentsDrawn.{Decides}
use Rattle.cept_writer.proofs.law.compact.compact_pages_are_spelled.Goals as goal

pub returns : goal.returns
returns c =
    let forms = c.commands_compare_by_their_fields.ensures.form in
    let decides : Decides = record {
      set = c.cells_compare_by_their_fields.ensures.set;
      glyph = c.cells_compare_by_their_fields.ensures.glyph;
      pen = c.pens_compare_by_their_fields.ensures.pen;
    } in
    record {
      spelled = compact_spelled forms decides;
      commands = compact_commands_read forms decides;
      none = compact_unrefused forms decides;
    }
