use Rattle.std.proofs.Common.{[], None, Err, refl, rules}
use Rattle.cept_profile.specs.Look.{grid}
use Rattle.cept_repaint.specs.GlassState.{GlassState}
use Rattle.cept_repaint.specs.GridGlass.{grid_glass_state}
use Rattle.cept_run.specs.Course.{course_of}
use Rattle.cept_run.specs.Outside.{Outside, outside_of}
use Rattle.cept_run.specs.Words.{request_by}
use Rattle.cept_run.specs.declared.page.Stop.TheVariants as stops
use Rattle.cept_run.proofs.NothingTouched.{runs_without_memory}
use Rattle.cept_run.proofs.WholeRuns.{runs_at_end}
use Rattle.tamligub.proofs.calling.run_in_memory.Goals as goal

pub returns-in_default : goal.returns-in_default
returns-in_default g c =
    let glass : GlassState = record { grid = grid []; paints = None } in
    let before : Outside = outside_of (g.F.Shelf.state c.args.shelf.now) (g.T.Sink.state c.args.sink.now) glass in
    let request = request_by c.args.request in
    record {
      before = glass;
      after = glass;
      blank = refl;
      runs = λ words asked. runs_at_end words request before before (Err stops.NoMemory) asked
          (runs_without_memory (course_of request) before c.requires.painting);
    }

pub returns : goal.returns
returns g c = record {
  before = grid_glass_state c.in-Ok.glass;
  after = grid_glass_state c.run_request.new.glass;
  blank = search rules;
  runs = λ words asked. c.run_request.ensures words asked;
}
