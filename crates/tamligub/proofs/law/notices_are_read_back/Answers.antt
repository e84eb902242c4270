use Rattle.tamligub.proofs.NoticesRead.{saying_read}
use Rattle.tamligub.proofs.law.notices_are_read_back.Goals as goal

pub returns : goal.returns
returns c = saying_read
