use Rattle.std.proofs.Common.{refl, arith}
use Rattle.cept_codes.specs.Place.{number}
use Rattle.cept_profile.specs.Look.{looks_of}
use Rattle.cept_profile.specs.State.{core_of}
use Rattle.cept_repaint.proofs.PaintedInOrder.{PaintedSoFar-none, PaintedSoFar-more, PaintsAll-walked}
use Rattle.cept_repaint.proofs.painting.paint_marked.Goals as goal

pub returns-then-has_none : goal.returns-then-has_none
returns-then-has_none g c =
    let none = PaintedSoFar-none c.args.marks.now (looks_of (core_of c.args.screen.now))
    (g.G.Glass.state c.args.glass.now) in
    PaintsAll-walked none (λ n low. c.has_none.ensures c.if-has_none.true n)

pub returns-in-Some : goal.returns-in-Some
returns-in-Some g c =
    PaintsAll-walked (PaintedSoFar-more
    (PaintedSoFar-none c.args.marks.now (looks_of (core_of c.args.screen.now)) (g.G.Glass.state c.args.glass.now))
    c.in-Some.place (g.G.Glass.state c.paint.new.self) (number c.in-Some.place.row c.in-Some.place.column)
    c.in-Some.ensures.first c.paint.ensures refl) (λ n low. c.in-Some.ensures.last n (omega (arith, low)))
