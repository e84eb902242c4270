use Rattle.cept_profile.proofs.Laws
use Rattle.cept_profile.proofs.MovesOfCommands.{moves-strokes_of}
use Rattle.cept_profile.proofs.law.validity.strokes_are_valid.Goals as goal

pub returns : goal.returns
returns c = record {
  valid = Laws.IsValidStroke-strokes_of;
  few = Laws.length-strokes_of;
  moves = moves-strokes_of;
}
