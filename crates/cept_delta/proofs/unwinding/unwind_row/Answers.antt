use Rattle.std.proofs.Common.{◌+◌, ◌-◌, ◌==◌, ◌&&◌, None, Option, List, get_or, nat_lt, refl, sym, ap, ◌∙◌, arith}
use Rattle.std.proofs.lemmas.Bool.{and_parts, eqb-true}
use Rattle.std.proofs.lemmas.Bool.Decides.{nat_tests}
use Rattle.cept_codes.specs.declared.cell.Cell.{Cell}
use Rattle.cept_codes.specs.Place.{OnScreen}
use Rattle.cept_codes.specs.Table.{entry}
use Rattle.cept_codes.proofs.Laws.{entry_from}
use Rattle.cept_profile.specs.OldValues.{old_cell}
use Rattle.cept_delta.proofs.PutBack.{cells_back-alike, cells_back-empty, cells_back-none, old_read, row_back-more}
use Rattle.cept_delta.proofs.unwinding.unwind_row.Goals as goal

pub returns-then-not-has_row : goal.returns-then-not-has_row
returns-then-not-has_row c =
    cells_back-empty (λ r _. c.args.row == r) (old_cell c.args.delta.now) c.args.grid.now c.whole_by_type.ensures
    (λ r k on here.
    let same = eqb-true c.args.row r here in
    let at : OnScreen c.args.row k = record {
      from_top = omega (arith, same, on);
      to_bottom = omega (arith, same, on);
      from_left = on.from_left;
      to_right = on.to_right;
    } in
    ap (λ q. old_cell c.args.delta.now q k) (sym same) ∙ c.has_row.ensures c.if-not-has_row.true k at)

pub loop-number-init : goal.loop-number-init
loop-number-init c =
    cells_back-none (λ r k. c.args.row == r && nat_lt k 1) (λ _ k. entry None 1 c.old_cells-old.result.now k)
    c.args.grid.now c.whole_by_type.ensures (λ r k on. grind (arith, nat_tests))

pub loop-number-preserved : goal.loop-number-preserved
loop-number-preserved c =
    row_back-more c.at.result c.args.row c.loop-number.number (c.loop-number.number + 1) c.old_cells-old.result.now _
    c.args.grid.now c.loop-number.grid c.put_back.new.grid
    (c.at.ensures.row, c.at.ensures.column ∙ c.numbered-column.ensures) refl
    (old_read c.old_cells-old.result.now c.index.result c.loop-number.number None c.old_cells-old.ensures.columns
    (omega arith) (omega arith) (omega arith)) c.loop-number.invariant c.put_back.ensures

pub returns : goal.returns
returns c =
    c.loop-number.invariant
    ∙ cells_back-alike (λ r k. c.args.row == r && nat_lt k c.loop-number.number) (λ r _. c.args.row == r)
    (λ _ k. entry None 1 c.old_cells-old.result.now k) (old_cell c.args.delta.now) c.args.grid.now
    (λ r k on. grind (arith, nat_tests)) (λ r k on here.
    let parts = and_parts (c.args.row == r) (nat_lt k c.loop-number.number) here in
    entry_from None 1 c.old_cells-old.result.now k on.from_left
    ∙ ap (λ (l : List (Option Cell)). get_or l (k - 1) None) c.old_cells-old.ensures.cells
    ∙ ap (λ q. old_cell c.args.delta.now q k) (eqb-true c.args.row r parts.0))
