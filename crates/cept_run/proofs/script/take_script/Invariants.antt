use Rattle.std.proofs.Common.{false, ◌≡◌, ◌≤◌, ◌-◌, ◌^◌, length}
use Rattle.cept_run.specs.Page.{KeepsShelf}
use Rattle.cept_run.proofs.PagesInPieces.{HasTaken}
use Rattle.cept_run.proofs.script.take_script.Given as goal

-- so many bytes were taken
abbrev pub invariant-loop-count : goal.invariant-loop-count
invariant-loop-count g l = record {
  few : length l.script.items ≤ 2 ^ 20;
  taken : (g.F.Shelf.state l.shelf).taken ≡ length l.script.items;
  unended : (g.F.Shelf.state l.shelf).ended ≡ false;
  keeps : KeepsShelf (g.F.Shelf.state l.fn.shelf) (g.F.Shelf.state l.shelf);
  stays : (g.F.Shelf.state l.shelf).faults ≡ (g.F.Shelf.state l.fn.shelf).faults;
  come : HasTaken (g.F.Shelf.state l.fn.shelf) l.script.items (g.F.Shelf.state l.shelf);
}

abbrev pub decreases-loop-count : goal.decreases-loop-count
decreases-loop-count g l = 2 ^ 20 - length l.script.items
