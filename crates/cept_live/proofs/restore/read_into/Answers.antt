use Rattle.cept_live.proofs.PagesRead.{stands-start}
use Rattle.cept_live.proofs.restore.read_into.Goals as goal

pub loop-byte-init : goal.loop-byte-init
loop-byte-init g c = record { leads = c.new-parser.ensures; stands = stands-start _ c.requires.start }
