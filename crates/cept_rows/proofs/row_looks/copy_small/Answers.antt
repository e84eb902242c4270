use Rattle.std.proofs.Common.{refl, arith}
use Rattle.std.proofs.lemmas.List.{get_or_default}
use Rattle.cept_rows.specs.SmallLooks.{blank_small}
use Rattle.cept_rows.proofs.CopiedColumns.{IsCopiedTo-as, IsCopiedTo-left, IsCopiedTo-more, IsCopiedTo-none}
use Rattle.cept_rows.proofs.row_looks.copy_small.Goals as goal
use Rattle.cept_rows.proofs.row_looks.copy_small.Goals.{then-flags-k, else-flags-k}

pub loop-k-init : goal.loop-k-init
loop-k-init c = IsCopiedTo-none blank_small c.args.flags.now c.args.from.now c.args.looks.now (omega arith)

pub loop-k-preserved : goal.loop-k-preserved
loop-k-preserved c =
    elim c.if-flags-k.branch [
      | then-flags-k w ↦
          IsCopiedTo-as w.looks-is
          (IsCopiedTo-more c.loop-k.invariant c.loop-k-test.true w.if-flags-k.true _ c.loop-k.k _ refl
          (get_or_default c.args.from.now c.loop-k.k _ blank_small (omega arith)) refl)
      | else-flags-k w ↦ IsCopiedTo-as w.looks-is (IsCopiedTo-left c.loop-k.invariant w.if-flags-k.false)
    ]

pub returns-clause-copied : goal.returns-clause-copied
returns-clause-copied c = λ k below. c.loop-k.invariant.made k (omega (arith, below))
