use Rattle.cept_rows.specs.SmallLooks.{blank_small}
use Rattle.cept_rows.proofs.CopiedColumns.{IsCopiedTo}
use Rattle.cept_rows.proofs.row_looks.copy_small.Given as goal

abbrev pub invariant-loop-k : goal.invariant-loop-k
invariant-loop-k l = IsCopiedTo blank_small l.flags l.from l.initial.looks l.looks l.k
