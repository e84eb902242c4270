use Rattle.std.proofs.Common.{[], None, option_map, refl, sym, ◌∙◌, ap}
use Rattle.cept_outside.specs.SliceShelf.{slice_shelf_state}
use Rattle.cept_profile.specs.Look.{grid}
use Rattle.cept_repaint.specs.GlassState.{GlassState}
use Rattle.cept_run.specs.Outside.{Outside, outside_of}
use Rattle.cept_run.specs.Words.{request_by}
use Rattle.tamligub.proofs.Filled.{runs_on, runs_unasked}
use Rattle.tamligub.proofs.calling.Call.run_on.Goals as goal

pub returns-in_default : goal.returns-in_default
returns-in_default g c =
    let glass : GlassState = record { grid = grid []; paints = None } in
    let before : Outside = outside_of (slice_shelf_state c.new-shelf.result) (g.T.Sink.state c.args.sink.now) glass in
    runs_on _ _ refl refl c.args.self.now.word.now c.args.self.now.given c.args.self.now.number
    (g.T.Sink.state c.args.sink.now) before before _ c.new-shelf.ensures refl refl refl
    (runs_unasked _ before (sym c.requires.request ∙ ap (option_map request_by) c.in_default.is))

pub returns-then-paints : goal.returns-then-paints
returns-then-paints g c =
    let run = c.run_in_memory.ensures in
    let before : Outside = outside_of (slice_shelf_state c.new-shelf.result) (g.T.Sink.state c.args.sink.now) run.before in
    let after : Outside = outside_of (slice_shelf_state c.run_in_memory.new.shelf) (g.T.Sink.state c.run_in_memory.new.sink)
    run.after in
    runs_on _ _ refl refl c.args.self.now.word.now c.args.self.now.given c.args.self.now.number
    (g.T.Sink.state c.args.sink.now) before after c.run_in_memory.result c.new-shelf.ensures refl run.blank refl
    (run.runs _ (sym c.requires.request ∙ ap (option_map request_by) c.in-Some.is))

pub returns-else-paints : goal.returns-else-paints
returns-else-paints g c =
    let run = c.run_late.ensures in
    let before : Outside = outside_of (slice_shelf_state c.new-shelf.result) (g.T.Sink.state c.args.sink.now) run.before in
    let after : Outside = outside_of (slice_shelf_state c.run_late.new.shelf) (g.T.Sink.state c.run_late.new.sink) run.after in
    runs_on _ _ refl refl c.args.self.now.word.now c.args.self.now.given c.args.self.now.number
    (g.T.Sink.state c.args.sink.now) before after c.run_late.result c.new-shelf.ensures refl run.blank refl
    (run.runs _ (sym c.requires.request ∙ ap (option_map request_by) c.in-Some.is))
