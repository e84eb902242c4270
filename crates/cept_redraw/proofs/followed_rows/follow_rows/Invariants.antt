use Rattle.cept_redraw.proofs.FollowedRows.{FollowedSoFar}
use Rattle.cept_redraw.proofs.followed_rows.follow_rows.Given as goal

abbrev pub invariant-loop-stroke : goal.invariant-loop-stroke
invariant-loop-stroke l = FollowedSoFar l.strokes l.rows l.stroke-index
