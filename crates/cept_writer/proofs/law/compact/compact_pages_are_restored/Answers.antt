use Rattle.cept_writer.specs.CompactCommands.{compact_commands}
use Rattle.cept_writer.proofs.CompactDrawn.{compact_draws}
use Rattle.cept_writer.proofs.PagesRestored.{core_drawn}
use Rattle.cept_writer.proofs.law.compact.compact_pages_are_restored.Goals as goal

pub returns : goal.returns
returns c = λ k is. core_drawn c.looks_compare_by_their_fields.ensures.paint k is (compact_commands k)
    (compact_draws (record {
      set = c.cells_compare_by_their_fields.ensures.set;
      glyph = c.cells_compare_by_their_fields.ensures.glyph;
      pen = c.pens_compare_by_their_fields.ensures.pen;
    }) k is)
