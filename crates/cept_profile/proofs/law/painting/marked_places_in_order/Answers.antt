use Rattle.cept_profile.proofs.Laws
use Rattle.cept_profile.proofs.law.painting.marked_places_in_order.Goals as goal

pub returns : goal.returns
returns c = record {
  none = Laws.marked_looks_below-none;
  next = Laws.marked_looks_below-next;
  unmarked = Laws.marked_looks_below-unmarked;
  begins = Laws.marked_looks_below-rest;
  whole = Laws.marked_looks_below-whole;
}
