use Rattle.cept_run.proofs.EventsOfItems.{item_events-none, item_events-more}
use Rattle.cept_run.proofs.PaintedItems.{applied_changes, refused_changes, checked_changes}
use Rattle.cept_run.proofs.laws.each_item_after_those_before_it.Goals as goal

pub returns : goal.returns
returns c = record {
  none = item_events-none;
  more = item_events-more;
  applied = applied_changes;
  refused = refused_changes;
  idle = checked_changes;
}
