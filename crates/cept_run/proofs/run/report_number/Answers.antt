use Rattle.std.proofs.Common.{refl, sym, subst, arith}
use Rattle.cept_generator.specs.Generated.{generated}
use Rattle.cept_run.specs.declared.words.NumberAction.{NumberAction}
use Rattle.cept_run.specs.Course.{course_of}
use Rattle.cept_run.specs.Outside.{outside_of}
use Rattle.cept_run.specs.Run.{RunsCourse, status_at_end}
use Rattle.cept_run.specs.Words.{Number}
use Rattle.cept_run.proofs.LoadedPages.{runs_put}
use Rattle.cept_run.proofs.run.report_number.Goals as goal

pub returns-in-Generate : goal.returns-in-Generate
returns-in-Generate g c = λ shelf.
    subst (λ (a : NumberAction). RunsCourse (course_of (Number a c.args.number))
    (outside_of shelf (g.T.Sink.state c.args.sink.now) (g.G.Glass.state c.args.glass.now))
    (outside_of shelf (g.T.Sink.state c.put_generated.new.sink) (g.G.Glass.state c.args.glass.now))
    (status_at_end c.put_generated.result)) (sym c.in-Generate.is)
    (runs_put (generated c.args.number) _ _ refl
    (omega (arith, c.generated_pages_are_short.ensures.bytes c.args.number)) refl c.put_generated.result
    c.put_generated.ensures)

pub returns-in-Load : goal.returns-in-Load
returns-in-Load g c = λ shelf.
    subst (λ (a : NumberAction). RunsCourse (course_of (Number a c.args.number))
    (outside_of shelf (g.T.Sink.state c.args.sink.now) (g.G.Glass.state c.args.glass.now))
    (outside_of shelf (g.T.Sink.state c.load.new.sink) (g.G.Glass.state c.load.new.glass))
    (status_at_end c.load.result)) (sym c.in-Load.is) (c.load.ensures shelf)
