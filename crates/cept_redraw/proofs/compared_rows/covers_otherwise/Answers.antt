use Rattle.std.proofs.Common.{sym, ◌∙◌, arith}
use Rattle.std.proofs.lemmas.Bool.{and_parts}
use Rattle.cept_redraw.proofs.MarkedDifferences.{other_above, uncovered}
use Rattle.cept_redraw.proofs.compared_rows.covers_otherwise.Goals as goal

pub differences-requires-clause-left : goal.differences-requires-clause-left
differences-requires-clause-left c = λ column low below. absurd (omega (arith, low, below))

pub returns : goal.returns
returns c = c.differences.ensures.covering ∙ other_above c.args.was.now c.args.now.now

pub returns-then-covers_nothing : goal.returns-then-covers_nothing
returns-then-covers_nothing c =
    sym (uncovered c.args.was.now c.args.now.now
    (c.covers_nothing.ensures (and_parts c.covers_nothing.result c.covers_nothing-2.result c.if-covers_nothing.true).0)
    (c.covers_nothing-2.ensures
    (and_parts c.covers_nothing.result c.covers_nothing-2.result c.if-covers_nothing.true).1))
