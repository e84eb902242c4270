use Rattle.std.proofs.Common.{ℕ, ◌-◌, ◌≤◌, sym, subst, ◌∙◌, arith}
use Rattle.cept_codes.specs.declared.look.Look.{Look}
use Rattle.cept_codes.specs.Look.{blank_look}
use Rattle.cept_profile.specs.Tiling.{column_entry}
use Rattle.cept_rows.specs.RowsByCell.{IsCoveredAlike}
use Rattle.cept_redraw.proofs.LeftOfColumns.{row_made-at, row_made-from}
use Rattle.cept_redraw.proofs.resolved_rows.resolve_between.Goals as goal

pub resolve_cells_between-requires-clause-left : goal.resolve_cells_between-requires-clause-left
resolve_cells_between-requires-clause-left g c = λ column low below.
    c.requires.left column low below
    ∙ row_made-at c.args.source.now c.args.above.now column low (omega (arith, below, c.number-number.ensures.in_range.1))

pub resolve_cells_between-requires-clause-right : goal.resolve_cells_between-requires-clause-right
resolve_cells_between-requires-clause-right g c = λ column past high alike.
    let made = λ (n : ℕ) (right : n ≤ 40). row_made-from c.args.source.now c.args.above.now n right in
    c.requires.right column past high
    (subst (λ (l : Look). IsCoveredAlike (column_entry blank_look c.args.looks.now (column - 1)) l)
    (sym (made (column - 1) (omega (arith, high)))) alike) ∙ made column high

pub returns-clause-stays : goal.returns-clause-stays
returns-clause-stays g c = λ column past high. sym (c.resolve_cells_between.ensures.stays column past high)
