use Rattle.std.proofs.Common.{◌≡◌, true}
use Rattle.cept_profile.specs.Edges.{edges_of_core}
use Rattle.cept_profile.specs.State.{Core}
use Rattle.cept_redraw.specs.Kept.{core_on}
use Rattle.cept_redraw.specs.inside.Passed.{came_above, HavePassed}
use Rattle.cept_redraw.proofs.MovedRows.{MovedTo}
use Rattle.cept_redraw.proofs.picture.Picture.move_rows.Given as goal

abbrev pub invariant-loop-row : goal.invariant-loop-row
invariant-loop-row g l = record {
  above : l.above ≡ came_above l.rows l.row;
  passed : l.back ≡ true → HavePassed l.fn.self.looks l.passed l.row;
  walked : (k : Core) → edges_of_core k ≡ l.edges
      → MovedTo l.flags l.rows (core_on k l.page) l.fn.self.looks l.looks l.marks l.covered l.above l.fn.steps
      l.steps l.row;
}
