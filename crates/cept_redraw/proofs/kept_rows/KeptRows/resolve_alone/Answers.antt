use Rattle.std.proofs.Common.{◌≡◌, ◌-◌, not, List, set, ap, ◌∙◌, arith}
use Rattle.cept_codes.specs.declared.look.Look.{Look}
use Rattle.cept_codes.specs.Look.{blank_look}
use Rattle.cept_codes.specs.Same.{same_look}
use Rattle.cept_profile.specs.Changes.{look_at}
use Rattle.cept_profile.specs.Tiling.{column_entry}
use Rattle.cept_rows.specs.Source.{look_by_itself}
use Rattle.cept_redraw.specs.inside.Kept.{is_other_look}
use Rattle.cept_redraw.proofs.LooksWritten.{OnScreen-parts, painted_is, read_is}
use Rattle.cept_redraw.proofs.kept_rows.KeptRows.resolve_alone.Goals as goal

pub returns-clause-looks : goal.returns-clause-looks
returns-clause-looks g c =
    let row : List Look = c.index_mut-kept.result.now in
    ap (λ (l : List Look). set c.self.inside.rows.items c.index.result l)
    {y = set row (c.in_column.result - 1) (look_by_itself c.args.source.now c.args.place.column)}
    (c.resolve_alone.ensures.looks
    ∙ ap (λ k. set row (c.in_column.result - 1) (look_by_itself c.args.source.now k)) c.in_column.ensures.column)
    ∙ painted_is c.self.invariant.0 c.self.view_is c.args.place
    (look_by_itself c.args.source.now c.args.place.column) c.index.result (c.in_column.result - 1) row _
    (OnScreen-parts c.in_row.ensures.in_range c.in_column.ensures.in_range) (omega (arith, c.index.ensures, c.in_row.ensures))
    (omega (arith, c.in_column.ensures)) c.index_mut-kept.ensures.value

pub returns-clause-differs : goal.returns-clause-differs
unfolding is_other_look
returns-clause-differs g c =
    let read : column_entry blank_look c.index_mut-kept.result.now c.in_column.result ≡ look_at c.args.self.now c.args.place =
    read_is c.self.invariant.0 c.self.view_is c.args.place c.index.result c.in_column.result
    c.index_mut-kept.result.now _ (OnScreen-parts c.in_row.ensures.in_range c.in_column.ensures.in_range) (omega (arith, c.index.ensures, c.in_row.ensures))
    c.in_column.ensures.column c.index_mut-kept.ensures.value in
    c.resolve_alone.ensures.differs
    ∙ (λ i. not (same_look (read i) (look_by_itself c.args.source.now (c.in_column.ensures.column i))))

pub returns-clause-on_screen : goal.returns-clause-on_screen
returns-clause-on_screen g c = OnScreen-parts c.in_row.ensures.in_range c.in_column.ensures.in_range
