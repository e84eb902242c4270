use Rattle.std.proofs.Common.{[], ◌∙◌}
use Rattle.cept_profile.specs.State.{core_of}
use Rattle.cept_writer.specs.CompactCommands.{page_text}
use Rattle.cept_live.specs.Live.{LiveState}
use Rattle.cept_live.specs.Snapshots.{snapshot_head}
use Rattle.cept_live.proofs.SnapshotsPut.{PutsText-join}
use Rattle.cept_live.proofs.snapshot.put_snapshot.Goals as goal

pub returns : goal.returns
returns g c =
    let live : LiveState = record {
      parser = c.args.parser.now;
      screen = c.args.screen.now;
      phase = c.args.phase;
      renewed = c.args.renewed.now;
      past = [];
      future = [];
    } in
    PutsText-join _ _ _ _ (snapshot_head live) (page_text (core_of c.args.screen.now))
    (rw (c.as_slice.ensures.value ∙ c.head_of-head.ensures) at c.in_ok-put_all.ensures.puts) c.write_page.ensures
