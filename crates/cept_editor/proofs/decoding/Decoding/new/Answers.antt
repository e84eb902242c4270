use Rattle.cept_editor.proofs.DigitsLeft.{begin_left}
use Rattle.cept_editor.proofs.decoding.Decoding.new.Goals as goal

pub returns-clause-left : goal.returns-clause-left
returns-clause-left c = begin_left _ _ _ c.new.ensures c.new-2.ensures c.requires
