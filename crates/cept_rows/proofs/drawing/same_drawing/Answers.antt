use Rattle.std.proofs.Common.{sym, ◌∙◌}
use Rattle.cept_rows.proofs.Drawings.{by_inks, other_pattern}
use Rattle.cept_rows.proofs.drawing.same_drawing.Goals as goal

pub returns-then-eq : goal.returns-then-eq
returns-then-eq c =
    by_inks c.eq-then-eq.result c.args.a.now c.args.b.now (sym c.eq.ensures ∙ c.if-eq.true) c.eq-then-eq.ensures

pub returns-else-eq : goal.returns-else-eq
returns-else-eq c = other_pattern c.eq.result c.args.a.now c.args.b.now c.eq.ensures c.if-eq.false
