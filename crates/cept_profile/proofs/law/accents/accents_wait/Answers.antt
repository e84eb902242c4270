use Rattle.cept_profile.proofs.WaitingAccents.{accent-waits, accent-graphic_read, accent-spent}
use Rattle.cept_profile.proofs.WaitingAccents.{accent-back, accent-dropped, accent-kept}
use Rattle.cept_profile.proofs.law.accents.accents_wait.Goals as goal

pub returns : goal.returns
returns c = assumption (accent-waits, accent-graphic_read, accent-spent, accent-dropped, accent-kept, accent-back)
