use Rattle.std.proofs.Common.{◌≡◌}
use Rattle.cept_profile.specs.Edges.{edges_of_core}
use Rattle.cept_profile.specs.State.{Core}
use Rattle.cept_redraw.specs.inside.Due.{at_rest}
use Rattle.cept_redraw.specs.Kept.{core_on}
use Rattle.cept_redraw.specs.inside.Picture.{HasSameRest}
use Rattle.cept_redraw.proofs.WalkedRows.{WalkedTo}
use Rattle.cept_redraw.proofs.picture.Picture.refresh_rows.Given as goal

abbrev pub invariant-loop-row : goal.invariant-loop-row
invariant-loop-row g l = record {
  rest : HasSameRest l.fn.self l.self;
  walked : (k : Core) → edges_of_core k ≡ l.edges
      → WalkedTo l.flags at_rest (core_on k l.fn.self.page) l.fn.self.looks l.self.looks l.fn.marks l.marks l.covered
      l.fn.steps l.steps l.row;
}
