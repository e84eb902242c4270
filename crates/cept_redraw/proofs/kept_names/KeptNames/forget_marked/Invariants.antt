use Rattle.std.proofs.Common.{◌≢◌, ◌-◌, ◌≤◌}
use Rattle.cept_redraw.specs.inside.Named.{AreJustRemembered, IsUnmarkedBelow}
use Rattle.cept_redraw.proofs.kept_names.KeptNames.forget_marked.Given as goal

abbrev pub invariant-loop-place : goal.invariant-loop-place
invariant-loop-place l = record {
  forgotten : AreJustRemembered l.fn.self l.self (λ r. (r ≢ l.fn.row) × IsUnmarkedBelow l.marks l.from r);
  high : l.from ≤ 960;
}

abbrev pub decreases-loop-place : goal.decreases-loop-place
decreases-loop-place l = 960 - l.from
