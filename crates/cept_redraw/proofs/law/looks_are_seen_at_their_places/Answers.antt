use Rattle.cept_redraw.proofs.RowsOfLooks.{look_seen-at}
use Rattle.cept_redraw.proofs.law.looks_are_seen_at_their_places.Goals as goal

pub returns : goal.returns
returns c = look_seen-at
