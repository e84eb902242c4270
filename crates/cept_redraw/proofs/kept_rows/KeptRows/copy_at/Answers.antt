use Rattle.std.proofs.Common.{◌-◌, List, set, ap, ◌∙◌, arith}
use Rattle.cept_codes.specs.declared.look.Look.{Look}
use Rattle.cept_codes.specs.Look.{blank_look}
use Rattle.cept_profile.specs.Tiling.{column_entry}
use Rattle.cept_redraw.proofs.LooksWritten.{OnScreen-parts, painted_is}
use Rattle.cept_redraw.proofs.kept_rows.KeptRows.copy_at.Goals as goal

pub returns : goal.returns
returns c =
    let row : List Look = c.index_mut.result.now in
    ap (λ (l : List Look). set c.self.inside.rows.items c.index.result l)
    {y = set row (c.in_column.result - 1) (column_entry blank_look c.args.from.now c.args.place.column)}
    (c.copy_at.ensures
    ∙ ap (λ k. set row (c.in_column.result - 1) (column_entry blank_look c.args.from.now k)) c.in_column.ensures.column)
    ∙ painted_is c.self.invariant.0 c.self.view_is c.args.place _ c.index.result (c.in_column.result - 1) row _
    (OnScreen-parts c.in_row.ensures.in_range c.in_column.ensures.in_range) (omega (arith, c.index.ensures, c.in_row.ensures)) (omega (arith, c.in_column.ensures))
    c.index_mut.ensures.value
