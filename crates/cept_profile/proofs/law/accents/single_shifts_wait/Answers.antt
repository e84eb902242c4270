use Rattle.cept_profile.proofs.WaitingAccents.{shift-replaced, shift-spent, shift-waits}
use Rattle.cept_profile.proofs.law.accents.single_shifts_wait.Goals as goal

pub returns : goal.returns
returns c = record { waits = shift-waits; spent = shift-spent; replaced = shift-replaced }
