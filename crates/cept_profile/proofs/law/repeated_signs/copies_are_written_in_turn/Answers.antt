use Rattle.cept_profile.proofs.Laws
use Rattle.cept_profile.proofs.law.repeated_signs.copies_are_written_in_turn.Goals as goal

pub returns : goal.returns
returns c = record {
  none = Laws.effect_of_copies-none;
  more = Laws.effect_of_copies-more;
  two_each = Laws.length-strokes_of_copies;
  one_each = Laws.length-strokes_of_copies-unscrolled;
}
