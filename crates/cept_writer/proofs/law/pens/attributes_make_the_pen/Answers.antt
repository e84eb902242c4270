use Rattle.cept_writer.proofs.PenAttributes.{attributes-all}
use Rattle.cept_writer.proofs.law.pens.attributes_make_the_pen.Goals as goal

pub returns : goal.returns
returns c = attributes-all
