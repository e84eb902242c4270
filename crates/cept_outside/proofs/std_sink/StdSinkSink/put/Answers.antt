use Rattle.std.proofs.Common.{◌+◌, ◌∙◌, ap, slice_range, arith}
use Rattle.std.specs.Io.KnownBytes.{Keeps}
use Rattle.std.proofs.KnownBytes.{append_known-grown, Keeps-refl}
use Rattle.cept_outside.specs.StdSink.{written_and_held}
use Rattle.cept_outside.proofs.BytesHandedOn.{put_is}
use Rattle.cept_outside.proofs.std_sink.StdSinkSink.put.Goals as goal
use Rattle.cept_outside.proofs.std_sink.StdSinkSink.put.Goals.{then-self-eq-ROOM+in_ok-hand_on, else-self-eq-ROOM}

pub returns-clause-kept : goal.returns-clause-kept
returns-clause-kept g c =
    let self = c.if-self-eq-ROOM.self in
    let n = c.put_behind-count.result in
    let held : Keeps (written_and_held g.W.Write.contents c.args.self.now) (written_and_held g.W.Write.contents self) =
    elim c.if-self-eq-ROOM.branch [
      | then-self-eq-ROOM+in_ok-hand_on w ↦ rw w.self-is w.hand_on.ensures.handed_on.kept
      | else-self-eq-ROOM w ↦ rw w.self-is (Keeps-refl _)
    ] in
    append_known-grown _ _ _ _ _ held (ap (λ l. slice_range l self.sent (self.end + n)) c.put_behind-count.ensures.put
    ∙ put_is self.held c.args.piece.now self.sent self.end n self.forward (omega arith)
    (omega (arith, c.put_behind-count.ensures.count)))
