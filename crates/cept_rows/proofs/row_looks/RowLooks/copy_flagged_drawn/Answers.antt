use Rattle.std.proofs.Common.{◌+◌, ◌-◌, ◌∙◌, ap, get_or, arith, sym, false}
use Rattle.cept_codes.specs.Look.{blank_look}
use Rattle.cept_rows.proofs.CopiedColumns.{IsCopiedTo-all, IsCopiedTo-as, IsCopiedTo-left, IsCopiedTo-more}
use Rattle.cept_rows.proofs.CopiedColumns.{IsCopiedTo-none, column_at}
use Rattle.cept_rows.proofs.row_looks.RowLooks.copy_flagged_drawn.Goals as goal
use Rattle.cept_rows.proofs.row_looks.RowLooks.copy_flagged_drawn.Goals.{then-flags-from, else-flags-from}

pub loop-k-init : goal.loop-k-init
loop-k-init c = IsCopiedTo-none blank_look c.args.flags.now c.args.from.now c.args.self.now c.columns_by_type.ensures.columns

pub loop-k-preserved : goal.loop-k-preserved
loop-k-preserved c =
    let flag = ap (λ i. get_or c.args.flags.now i false) (sym c.from.ensures) in
    elim c.if-flags-from.branch [
      | then-flags-from w ↦
          IsCopiedTo-as w.self-is
          (IsCopiedTo-more c.loop-k.invariant c.loop-k-test.true (flag ∙ w.if-flags-from.true) w.copy_drawn.new.self
          (c.loop-k.k + 1 - 1) _ (omega arith) (column_at blank_look c.args.from.now c.loop-k.k)
          (rw (← w.numbered.ensures) w.copy_drawn.ensures))
      | else-flags-from w ↦
          IsCopiedTo-as w.self-is (IsCopiedTo-left c.loop-k.invariant (flag ∙ w.if-flags-from.false))
    ]

pub returns : goal.returns
returns c = IsCopiedTo-all c.loop-k.invariant (omega arith)
