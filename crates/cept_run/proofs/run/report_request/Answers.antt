use Rattle.std.proofs.Common.{sym, subst}
use Rattle.cept_run.specs.Course.{course_of}
use Rattle.cept_run.specs.Outside.{outside_of}
use Rattle.cept_run.specs.Run.{RunsCourse, status_at_end}
use Rattle.cept_run.specs.Words.{request_by}
use Rattle.cept_run.specs.declared.words.Request.{Request}
use Rattle.cept_run.proofs.run.report_request.Goals as goal

pub returns-in-Number : goal.returns-in-Number
returns-in-Number g c =
    subst (λ (r : Request). RunsCourse (course_of (request_by r))
    (outside_of (g.F.Shelf.state c.args.shelf.now) (g.T.Sink.state c.args.sink.now) (g.G.Glass.state c.args.glass.now))
    (outside_of (g.F.Shelf.state c.args.shelf.now) (g.T.Sink.state c.report_number.new.sink)
    (g.G.Glass.state c.report_number.new.glass)) (status_at_end c.report_number.result)) (sym c.in-Number.is)
    (c.report_number.ensures (g.F.Shelf.state c.args.shelf.now))

pub returns-in-Bytes : goal.returns-in-Bytes
returns-in-Bytes g c =
    subst (λ (r : Request). RunsCourse (course_of (request_by r))
    (outside_of (g.F.Shelf.state c.args.shelf.now) (g.T.Sink.state c.args.sink.now) (g.G.Glass.state c.args.glass.now))
    (outside_of (g.F.Shelf.state c.put_bytes.new.shelf) (g.T.Sink.state c.put_bytes.new.sink)
    (g.G.Glass.state c.args.glass.now)) (status_at_end c.put_bytes.result)) (sym c.in-Bytes.is)
    (c.put_bytes.ensures (g.G.Glass.state c.args.glass.now))
