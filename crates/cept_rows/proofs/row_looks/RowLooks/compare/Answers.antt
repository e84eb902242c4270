use Rattle.std.proofs.Common.{◌-◌, sym, ap, ◌∙◌, arith}
use Rattle.cept_rows.proofs.RowsCompared.{ComparedBelow-as, ComparedBelow-columns, ComparedBelow-covers, ComparedBelow-first}
use Rattle.cept_rows.proofs.RowsCompared.{ComparedBelow, ComparedBelow-end, ComparedBelow-more, ComparedBelow-same, ComparedBelow-some}
use Rattle.cept_rows.proofs.row_looks.RowLooks.compare.Goals as goal
use Rattle.cept_rows.proofs.row_looks.RowLooks.compare.Goals.{After-loop-number}
use Rattle.cept_rows.proofs.row_looks.RowLooks.compare.Goals.{then-not-same_at, else-not-same_at}

pub loop-number-init : goal.loop-number-init
loop-number-init c =
    ComparedBelow-first c.args.self.now c.args.other.now c.number-number.result (omega (arith, c.number-number.ensures)) (omega arith)
    (rw c.number-number.ensures.number c.requires.beside.left)

pub loop-number-preserved : goal.loop-number-preserved
loop-number-preserved c =
    elim c.if-not-same_at.branch [
      | then-not-same_at w ↦
          ComparedBelow-as w.columns-is w.any-is w.covering-is
          (ComparedBelow-more c.loop-number.invariant (omega arith)
          (rw (← c.numbered-column.ensures) (sym c.same_at.ensures ∙ w.if-not-same_at.true)) _
          w.covers_besides-covering.result
          (w.index.ensures.index ∙ ap (λ n. n - 1) c.numbered-column.ensures)
          (rw (← c.numbered-column.ensures) w.covers_besides-covering.ensures))
      | else-not-same_at w ↦
          ComparedBelow-as w.columns-is w.any-is w.covering-is
          (ComparedBelow-same c.loop-number.invariant (omega arith)
          (rw (← c.numbered-column.ensures) (sym c.same_at.ensures ∙ w.if-not-same_at.false)))
    ]

-- all columns are compared, since beyond the last one they are the same
compared : (c : After-loop-number) → ComparedBelow c.args.self.now c.args.other.now c.loop-number.columns
    c.loop-number.any c.loop-number.covering 41
compared c =
    ComparedBelow-end c.args.until c.loop-number.invariant (omega arith) (omega arith) c.requires.beside.right

pub returns : goal.returns
returns c = record {
  columns = ComparedBelow-columns (compared c) (omega arith);
  any = ComparedBelow-some (compared c) (omega arith);
  covering = ComparedBelow-covers (compared c) (omega arith);
}
