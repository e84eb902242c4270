use Rattle.cept_delta.proofs.ExchangedValues.{AreRowsExchanged, AreRowsExchanged-more, AreRowsExchanged-none, cells-all}
use Rattle.cept_delta.proofs.ExchangedValues.{noted_cells-all}
use Rattle.std.proofs.Common.{◌+◌, [], refl, sym, subst, arith}
use Rattle.cept_delta.proofs.exchanging.exchange_cells.Goals as goal

pub loop-number-init : goal.loop-number-init
loop-number-init c = AreRowsExchanged-none c.args.noted.now c.args.grid.now c.requires.places
    c.whole_by_type.ensures

pub loop-number-preserved : goal.loop-number-preserved
loop-number-preserved c =
    AreRowsExchanged-more c.args.noted.now c.loop-number.noted c.args.grid.now c.loop-number.grid c.exchange_row.new.grid
    c.numbered-row.result (c.loop-number.number + 1) c.index-index.result _ c.exchange_row.new.noted []
    (subst (λ n. AreRowsExchanged c.args.noted.now c.args.grid.now n c.loop-number.noted c.loop-number.grid)
    (sym c.numbered-row.ensures) c.loop-number.invariant)
    (omega arith) (omega arith) (omega arith) (omega arith) refl c.exchange_row.ensures.noted c.exchange_row.ensures.cells

pub returns-clause-noted : goal.returns-clause-noted
returns-clause-noted c =
    noted_cells-all c.args.noted.now c.loop-number.noted c.args.grid.now c.loop-number.grid c.loop-number.number
    c.loop-number.invariant (omega arith)

pub returns-clause-cells : goal.returns-clause-cells
returns-clause-cells c =
    cells-all c.args.noted.now c.loop-number.noted c.args.grid.now c.loop-number.grid c.loop-number.number
    c.loop-number.invariant (omega arith)
