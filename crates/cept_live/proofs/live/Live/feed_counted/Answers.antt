use Rattle.std.proofs.Common.{arith, inl, inr}
use Rattle.cept_live.proofs.BytesFed.{Feeds-none, Feeds-next, possible-next, possible-none, possible-refused}
use Rattle.cept_live.proofs.live.Live.feed_counted.Goals as goal

pub loop-taken-init : goal.loop-taken-init
loop-taken-init g c = record {
  most = omega arith;
  few = omega arith;
  feeds = Feeds-none _ _ _;
  if_possible = possible-none _ _;
}

pub loop-taken-preserved : goal.loop-taken-preserved
loop-taken-preserved g c =
    let so_far = c.loop-taken.invariant in
    let next = c.feed_byte-notices.ensures in
    record {
      most = omega (arith, c.loop-taken-test.true);
      few = omega (arith, next.most, next.feeds.room, c.if-list-notices-ge-ROOM_FOR_A_BYTE.true, so_far.few);
      feeds = Feeds-next _ _ _ c.args.bytes.now c.loop-taken.taken _ _ _ _ _ _ _ c.loop-taken-test.true so_far.feeds next.feeds;
      if_possible = possible-next _ _ _ _ _ _ _ _ _ so_far.if_possible
          (c.takes_more.ensures.more c.if-takes_more.true).0 (c.takes_more.ensures.more c.if-takes_more.true).1
          (omega (arith, c.if-list-notices-ge-ROOM_FOR_A_BYTE.true, so_far.few));
    }

pub returns-after-loop-taken : goal.returns-after-loop-taken
returns-after-loop-taken g c =
    let so_far = c.loop-taken.invariant in
    record {
      feeds = so_far.feeds;
      most = so_far.most;
      within = omega (arith, so_far.few, so_far.feeds.room);
      stops = inl (omega (arith, c.loop-taken-test.false));
      refused = possible-refused _ _ _ _ _ _ so_far.if_possible;
    }

pub returns-else-list-notices-ge-ROOM_FOR_A_BYTE : goal.returns-else-list-notices-ge-ROOM_FOR_A_BYTE
returns-else-list-notices-ge-ROOM_FOR_A_BYTE g c =
    let so_far = c.loop-taken.invariant in
    record {
      feeds = so_far.feeds;
      most = so_far.most;
      within = omega (arith, so_far.few, so_far.feeds.room);
      stops = inr (inl (omega (arith, c.if-list-notices-ge-ROOM_FOR_A_BYTE.false, so_far.few)));
      refused = possible-refused _ _ _ _ _ _ so_far.if_possible;
    }

pub returns-else-takes_more : goal.returns-else-takes_more
returns-else-takes_more g c =
    let so_far = c.loop-taken.invariant in
    record {
      feeds = so_far.feeds;
      most = so_far.most;
      within = omega (arith, so_far.few, so_far.feeds.room);
      stops = inr (inr (c.takes_more.ensures.no_more c.if-takes_more.false));
      refused = possible-refused _ _ _ _ _ _ so_far.if_possible;
    }
