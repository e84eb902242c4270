use Rattle.cept_writer.proofs.CompactShorter.{compact_shorter}
use Rattle.cept_writer.proofs.law.compact.compact_texts_are_no_longer_than_plain_ones.Goals as goal

pub returns : goal.returns
returns c = compact_shorter c.cells_compare_by_their_fields.ensures.glyph
