use Rattle.cept_codes.specs.Cell.{blank_cell}
use Rattle.cept_codes.specs.Table.{entry, value_at}
use Rattle.cept_delta.proofs.ExchangedValues.{noted-empty}
use Rattle.cept_delta.proofs.PutBack.{cells_back-empty}
use Rattle.cept_delta.proofs.ExchangedValues.{IsRowExchanged-more, IsRowExchanged-none, cells_row-all, entry_read, noted_row-all}
use Rattle.std.proofs.Common.{◌≡◌, ◌+◌, ◌==◌, None, refl, ◌∙◌, arith}
use Rattle.cept_delta.proofs.exchanging.exchange_row.Goals as goal

pub returns-then-not-flagged-clause-noted : goal.returns-then-not-flagged-clause-noted
returns-then-not-flagged-clause-noted c =
    noted-empty 1 40 (value_at blank_cell c.args.grid.now c.args.row) c.args.noted.now c.requires.places
    (λ k low high. c.requires.unflagged c.if-not-flagged.true k low (omega (arith, high)))

pub returns-then-not-flagged-clause-cells : goal.returns-then-not-flagged-clause-cells
returns-then-not-flagged-clause-cells c =
    cells_back-empty (λ r _. c.args.row == r) (λ _ k. entry None 1 c.args.noted.now k) c.args.grid.now
    c.whole_by_type.ensures
    (λ r k on here. c.requires.unflagged c.if-not-flagged.true k on.from_left on.to_right)

pub loop-number-init : goal.loop-number-init
loop-number-init c = IsRowExchanged-none c.args.row c.args.noted.now c.args.grid.now c.requires.places
    c.whole_by_type.ensures

pub loop-number-preserved : goal.loop-number-preserved
loop-number-preserved c =
    let at : (c.at.result.row ≡ c.args.row) × (c.at.result.column ≡ c.loop-number.number) =
    (c.at.ensures.row, c.at.ensures.column ∙ c.numbered-column.ensures) in
    IsRowExchanged-more c.args.row c.args.noted.now c.loop-number.noted c.args.grid.now c.loop-number.grid
    c.exchange_cell.new.grid c.loop-number.number (c.loop-number.number + 1) c.index.result c.at.result _
    c.exchange_cell.new.noted c.loop-number.invariant (omega arith) (omega arith) (omega arith) (omega arith)
    refl (omega arith) at
    (entry_read 1 c.index.result c.loop-number.number c.loop-number.noted None None
    (omega (arith, c.loop-number.invariant.noted.long)) (omega arith))
    c.exchange_cell.ensures.noted c.exchange_cell.ensures.cells

pub returns-clause-noted : goal.returns-clause-noted
returns-clause-noted c =
    noted_row-all c.args.row c.args.noted.now c.loop-number.noted c.args.grid.now c.loop-number.grid
    c.loop-number.number c.loop-number.invariant (omega arith)

pub returns-clause-cells : goal.returns-clause-cells
returns-clause-cells c =
    cells_row-all c.args.row c.args.noted.now c.loop-number.noted c.args.grid.now c.loop-number.grid
    c.loop-number.number c.loop-number.invariant (omega arith)
