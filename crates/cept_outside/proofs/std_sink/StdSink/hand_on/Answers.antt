use Rattle.std.proofs.Common.{◌∙◌, arith}
use Rattle.cept_outside.proofs.BytesHandedOn.{handed_on, still_unflushed}
use Rattle.cept_outside.proofs.std_sink.StdSink.hand_on.Goals as goal

pub loop-self-preserved : goal.loop-self-preserved
loop-self-preserved g c = record {
  kept = handed_on _ _ _ c.loop-self.self.held c.loop-self.self.sent c.loop-self.self.end c.in_ok-count.count
      c.loop-self.invariant.kept c.in_ok-count.ensures.appends;
  unflushed = still_unflushed c.loop-self.self.sent _ _ c.loop-self.self.writer.unflushed _ _ (omega arith)
      c.in_ok-count.ensures.unflushed c.loop-self.invariant.unflushed;
  flushes = c.in_ok-count.ensures.flushes ∙ c.loop-self.invariant.flushes;
  faults = c.in_ok-count.ensures.cause.stays ∙ c.loop-self.invariant.faults;
}
