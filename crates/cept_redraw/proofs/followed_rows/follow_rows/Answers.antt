use Rattle.std.proofs.Common.{arith}
use Rattle.cept_redraw.proofs.FollowedRows.{FollowedSoFar-none, FollowedSoFar-more, FollowedSoFar-all}
use Rattle.cept_redraw.proofs.ValidStrokes.{valid_item}
use Rattle.cept_redraw.proofs.followed_rows.follow_rows.Goals as goal

pub loop-stroke-init : goal.loop-stroke-init
loop-stroke-init c = FollowedSoFar-none c.args.strokes.now c.rows_at_rest-rows.result c.rows_at_rest-rows.ensures

pub loop-stroke-preserved : goal.loop-stroke-preserved
loop-stroke-preserved c =
    FollowedSoFar-more c.loop-stroke.invariant c.stroke-item.result c.follow.new.rows c.loop-stroke-test.true
    c.stroke-item.is (valid_item c.args.strokes.now c.requires c.loop-stroke.stroke-index c.stroke-item.result
    c.loop-stroke-test.true c.stroke-item.is) c.follow.ensures.rows c.follow.ensures.followed

pub returns : goal.returns
returns c = FollowedSoFar-all c.loop-stroke.invariant (omega arith)
