use Rattle.cept_live.proofs.BytesFed.{Feeds-append, HasFed-begun, TellsAll-append}
use Rattle.cept_live.proofs.law.pieces_tell_the_same.Goals as goal

pub returns-clause-one : goal.returns-clause-one
returns-clause-one c = Feeds-append

pub returns-clause-two : goal.returns-clause-two
returns-clause-two c = TellsAll-append

pub returns-clause-phases : goal.returns-clause-phases
returns-clause-phases c = HasFed-begun
