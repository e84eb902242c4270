use Rattle.std.proofs.Common.{refl}
use Rattle.cept_outside.specs.SliceSink.{slice_sink_state}
use Rattle.tamligub.proofs.Filled.{has_run}
use Rattle.tamligub.proofs.calling.Call.fill.Goals as goal

pub returns-clause-run : goal.returns-clause-run
returns-clause-run g c =
    let call = c.args.self.now in
    has_run g.B.Lent.before c.into_filled.result.out.now c.into_filled.result.count (slice_sink_state c.run_on.new.sink)
    c.into_filled.ensures.filled c.into_filled.ensures.bytes call.word.now call.given call.number call.page.now
    call.script.now c.run_on.result (slice_sink_state c.new-sink.result) (slice_sink_state c.run_on.new.sink)
    c.run_on.result c.new-sink.ensures refl refl c.run_on.ensures c.into_filled.ensures.full
