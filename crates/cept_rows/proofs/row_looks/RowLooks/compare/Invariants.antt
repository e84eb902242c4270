use Rattle.cept_rows.proofs.RowsCompared.{ComparedBelow}
use Rattle.cept_rows.proofs.row_looks.RowLooks.compare.Given as goal

abbrev pub invariant-loop-number : goal.invariant-loop-number
invariant-loop-number l = ComparedBelow l.self l.other l.columns l.any l.covering l.number
