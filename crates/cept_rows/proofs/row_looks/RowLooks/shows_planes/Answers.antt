use Rattle.std.proofs.Common.{arith, refl, sym, ◌∙◌}
use Rattle.std.proofs.lemmas.Bool.Decides.{nat_tests}
use Rattle.cept_rows.proofs.RowsSearched.{found_nowhere, found_there, plain_asked, planes_asked, shows_planes}
use Rattle.cept_rows.proofs.row_looks.RowLooks.shows_planes.Goals as goal

pub returns-then-is_plain : goal.returns-then-is_plain
returns-then-is_plain c =
    sym (found_nowhere (shows_planes c.args.self.now c.args.planes) 41 (omega arith)
    (λ d low below. plain_asked c.args.self.now c.args.planes d _ refl (c.is_plain.ensures c.if-is_plain.true d)))

pub returns-then-drawing-planes : goal.returns-then-drawing-planes
returns-then-drawing-planes c =
    sym (found_there (shows_planes c.args.self.now c.args.planes) c.loop-number.number c.loop-number.auto.number (omega
    arith) (sym (planes_asked c.args.self.now c.args.planes c.loop-number.number c.small.result c.drawing.result.now
    (rw (← c.numbered-column.ensures) c.small.ensures.look) (sym c.has_pattern.ensures ∙ c.if-has_pattern.true)
    (rw (← c.numbered-column.ensures) c.drawing.ensures))
    ∙ grind (arith, nat_tests, c.if-drawing-planes.true)))

pub returns : goal.returns
returns c =
    sym (found_nowhere (shows_planes c.args.self.now c.args.planes) c.loop-number.number c.loop-number-test.false
    c.loop-number.invariant)
