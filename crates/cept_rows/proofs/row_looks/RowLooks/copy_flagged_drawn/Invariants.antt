use Rattle.cept_codes.specs.Look.{blank_look}
use Rattle.cept_rows.proofs.CopiedColumns.{IsCopiedTo}
use Rattle.cept_rows.proofs.row_looks.RowLooks.copy_flagged_drawn.Given as goal

abbrev pub invariant-loop-k : goal.invariant-loop-k
invariant-loop-k l = IsCopiedTo blank_look l.flags l.from l.initial.self l.self l.k
