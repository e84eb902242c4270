use Rattle.std.proofs.Common.{sym, ◌∙◌, ap}
use Rattle.cept_rows.specs.Flagged.{look_at}
use Rattle.cept_rows.specs.inside.Flagged.{with_look}
use Rattle.cept_rows.proofs.KeptLooks.{kept_is, plain_is, plain_small, small_is}
use Rattle.cept_rows.proofs.row_looks.RowLooks.copy_drawn.Goals as goal

pub put_drawn-requires : goal.put_drawn-requires
put_drawn-requires c =
    small_is c.small-look.result c.drawing.result.now (look_at c.args.from.now c.args.column)
    c.small-look.ensures.look c.drawing.ensures c.small-look.ensures.valid

pub put-requires : goal.put-requires
put-requires c =
    let plain = sym c.has_pattern.ensures ∙ c.if-has_pattern.false in
    record {
      plain = plain;
      small = plain_small c.small-look.result (look_at c.args.from.now c.args.column) c.small-look.ensures.look plain
          c.small-look.ensures.valid;
    }

pub returns-then-has_pattern : goal.returns-then-has_pattern
returns-then-has_pattern c =
    c.put_drawn.ensures
    ∙ ap (λ l. with_look c.args.self.now c.args.column l)
    (kept_is c.small-look.result c.drawing.result.now (look_at c.args.from.now c.args.column)
    c.small-look.ensures.look c.drawing.ensures)

pub returns-else-has_pattern : goal.returns-else-has_pattern
returns-else-has_pattern c =
    c.put.ensures
    ∙ ap (λ l. with_look c.args.self.now c.args.column l)
    (plain_is c.small-look.result (look_at c.args.from.now c.args.column) c.small-look.ensures.look
    (sym c.has_pattern.ensures ∙ c.if-has_pattern.false))
