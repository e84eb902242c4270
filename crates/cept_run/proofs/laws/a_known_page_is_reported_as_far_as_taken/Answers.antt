use Rattle.cept_run.proofs.WholeRuns.{unread_reported, too_long_reported}
use Rattle.cept_run.proofs.KnownPages.{unread_selected, unread_unselected, too_long_selected, too_long_unselected}
use Rattle.cept_run.proofs.laws.a_known_page_is_reported_as_far_as_taken.Goals as goal

pub returns : goal.returns
returns c = record {
  read_fault = unread_reported;
  too_long = too_long_reported;
  read_fault_selected = unread_selected;
  read_fault_unselected = unread_unselected;
  too_long_selected = too_long_selected;
  too_long_unselected = too_long_unselected;
}
