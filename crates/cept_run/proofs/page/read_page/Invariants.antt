use Rattle.cept_run.specs.Reporting.{plan_in}
use Rattle.std.proofs.Common.{◌≡◌, ◌≤◌, ◌-◌, ◌^◌, false}
use Rattle.cept_editor.specs.Made.{output_of}
use Rattle.cept_run.specs.Page.{KeepsShelf}
use Rattle.cept_run.proofs.PagesInPieces.{HasCome}
use Rattle.cept_run.proofs.page.read_page.Given as goal

-- so many bytes were taken, read and reported
abbrev pub invariant-loop-count : goal.invariant-loop-count
invariant-loop-count g l = record {
  few : l.place ≤ 2 ^ 24;
  running : l.decoder.parser.finished ≡ false;
  taken : (g.F.Shelf.state l.shelf).taken ≡ l.place;
  unended : (g.F.Shelf.state l.shelf).ended ≡ false;
  keeps : KeepsShelf (g.F.Shelf.state l.fn.shelf) (g.F.Shelf.state l.shelf);
  stays : (g.F.Shelf.state l.shelf).faults ≡ (g.F.Shelf.state l.fn.shelf).faults;
  come : HasCome (plan_in l.fn.decoder.reporter) (g.F.Shelf.state l.fn.shelf) l.place (g.F.Shelf.state l.shelf) l.decoder
      (output_of (g.T.Sink.state l.fn.sink) (g.G.Glass.state l.fn.glass))
      (output_of (g.T.Sink.state l.sink) (g.G.Glass.state l.glass));
}

abbrev pub decreases-loop-count : goal.decreases-loop-count
decreases-loop-count g l = 2 ^ 24 - l.place
