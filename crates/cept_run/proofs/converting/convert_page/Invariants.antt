use Rattle.std.proofs.Common.{◌≡◌, ◌≤◌, ◌-◌, ◌^◌, false}
use Rattle.cept_run.specs.Page.{KeepsShelf}
use Rattle.cept_run.proofs.ConvertedPieces.{HasConvertedSo}
use Rattle.cept_run.proofs.converting.convert_page.Given as goal

-- so many bytes were taken, converted and put
abbrev pub invariant-loop-count : goal.invariant-loop-count
invariant-loop-count g l = record {
  few : l.place ≤ 2 ^ 24;
  taken : (g.F.Shelf.state l.shelf).taken ≡ l.place;
  unended : (g.F.Shelf.state l.shelf).ended ≡ false;
  keeps : KeepsShelf (g.F.Shelf.state l.fn.shelf) (g.F.Shelf.state l.shelf);
  stays : (g.F.Shelf.state l.shelf).faults ≡ (g.F.Shelf.state l.fn.shelf).faults;
  come : HasConvertedSo l.fn.action (g.F.Shelf.state l.fn.shelf) l.place (g.F.Shelf.state l.shelf) l.path
      (g.T.Sink.state l.fn.sink) (g.T.Sink.state l.sink);
}

abbrev pub decreases-loop-count : goal.decreases-loop-count
decreases-loop-count g l = 2 ^ 24 - l.place
