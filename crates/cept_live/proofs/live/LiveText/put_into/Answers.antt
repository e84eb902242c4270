use Rattle.std.proofs.Common.{List, ℕ, subst}
use Rattle.cept_outside.specs.SinkState.{PutsText}
use Rattle.cept_live.specs.Editing.{future_of, past_of}
use Rattle.cept_live.specs.Live.{LiveState}
use Rattle.cept_live.proofs.SnapshotsPut.{snapshot_of-unedited}
use Rattle.cept_live.proofs.live.LiveText.put_into.Goals as goal

pub returns : goal.returns
returns g c =
    let live : LiveState = record {
      parser = c.self.inside.parser;
      screen = c.self.inside.display.screen;
      phase = c.self.inside.phase;
      renewed = c.self.inside.display.renewed;
      past = past_of c.self.inside.edits c.self.inside.display.screen;
      future = future_of c.self.inside.edits c.self.inside.display.screen;
    } in
    rw (← c.self.view_is) (subst (λ (text : List ℕ). PutsText (g.T.Sink.state c.args.sink.now) text c.put_snapshot.result
    (g.T.Sink.state c.put_snapshot.new.sink)) (snapshot_of-unedited live) c.put_snapshot.ensures)
