use Rattle.std.proofs.Common.{◌≡◌, ◌-◌}
use Rattle.std.specs.Io.KnownBytes.{Keeps}
use Rattle.cept_outside.specs.StdSink.{std_sink_state, written_and_held}
use Rattle.cept_outside.proofs.std_sink.StdSink.hand_on.Given as goal

abbrev pub invariant-loop-self : goal.invariant-loop-self
invariant-loop-self g l = record {
  kept : Keeps (written_and_held g.W.Write.contents l.initial.self) (written_and_held g.W.Write.contents l.self);
  unflushed : (std_sink_state l.self).unflushed ≡ (std_sink_state l.initial.self).unflushed;
  flushes : (std_sink_state l.self).flushes ≡ (std_sink_state l.initial.self).flushes;
  faults : (std_sink_state l.self).faults ≡ (std_sink_state l.initial.self).faults;
}

abbrev pub decreases-loop-self : goal.decreases-loop-self
decreases-loop-self g l = l.self.end - l.self.sent
