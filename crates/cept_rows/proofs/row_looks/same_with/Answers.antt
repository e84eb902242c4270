use Rattle.std.proofs.Common.{not, ap, sym, ◌∙◌}
use Rattle.cept_rows.proofs.KeptLooks.{alike_drawn, alike_plain, alike_small, same_kept}
use Rattle.cept_rows.proofs.row_looks.same_with.Goals as goal

pub returns-else-same : goal.returns-else-same
returns-else-same c l m =
    same_kept c.same.result c.args.a.now c.args.b.now c.args.a_drawn.now c.args.b_drawn.now l m c.requires.a
    c.requires.b
    (alike_small c.same.result c.args.a.now c.args.b.now c.args.a_drawn.now c.args.b_drawn.now c.same.ensures
    c.if-same.false)

pub returns-then-not-has_pattern : goal.returns-then-not-has_pattern
returns-then-not-has_pattern c l m =
    same_kept (not c.has_pattern.result) c.args.a.now c.args.b.now c.args.a_drawn.now c.args.b_drawn.now l m
    c.requires.a c.requires.b
    (alike_plain c.same.result (not c.has_pattern.result) c.args.a.now c.args.b.now c.args.a_drawn.now
    c.args.b_drawn.now c.same.ensures c.if-same.true (sym c.has_pattern.ensures ∙ c.if-not-has_pattern.true)
    (ap not c.if-not-has_pattern.true))

pub returns-else-not-has_pattern : goal.returns-else-not-has_pattern
returns-else-not-has_pattern c l m =
    same_kept c.same_drawing.result c.args.a.now c.args.b.now c.args.a_drawn.now c.args.b_drawn.now l m c.requires.a
    c.requires.b
    (alike_drawn c.same.result c.same_drawing.result c.args.a.now c.args.b.now c.args.a_drawn.now c.args.b_drawn.now
    c.same.ensures c.if-same.true (sym c.has_pattern.ensures ∙ c.if-not-has_pattern.false) c.same_drawing.ensures)
