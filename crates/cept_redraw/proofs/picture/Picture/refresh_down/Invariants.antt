use Rattle.std.proofs.Common.{◌≡◌, ℕ, ◌+◌, ◌-◌, ◌<◌, ◌≤◌}
use Rattle.cept_profile.specs.Edges.{edges_of_core}
use Rattle.cept_profile.specs.RowsFromAbove.{look_seen}
use Rattle.cept_profile.specs.State.{Core}
use Rattle.cept_redraw.specs.Kept.{core_on}
use Rattle.cept_redraw.specs.inside.Picture.{HasSameRest}
use Rattle.cept_redraw.proofs.WalkedDown.{WalkedDown}
use Rattle.cept_redraw.proofs.picture.Picture.refresh_down.Given as goal

abbrev pub invariant-loop-at : goal.invariant-loop-at
invariant-loop-at g l = record {
  rest : HasSameRest l.fn.self l.self;
  walked : (k : Core) → edges_of_core k ≡ l.edges
      → WalkedDown l.row (core_on k l.fn.self.page) l.fn.self.looks l.self.looks l.fn.marks l.marks l.fn.steps l.steps
      l.at;
  left : (c : ℕ) → 1 ≤ c → c < l.first → c + l.at < l.from + l.row;
  until : l.at ≡ l.row → l.until ≤ l.end;
  above : (d : ℕ) → l.end ≤ d → look_seen l.fn.self.looks (l.at - 1) d ≡ look_seen l.self.looks (l.at - 1) d;
}
