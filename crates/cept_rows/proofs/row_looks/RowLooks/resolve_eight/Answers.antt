use Rattle.std.proofs.Common.{◌+◌, ◌≡◌, ◌∙◌, ap, get_or, arith, subst, sym, false, refl}
use Rattle.cept_rows.specs.inside.Brush.{IsBrush}
use Rattle.cept_rows.proofs.FlaggedColumns.{IsResolvedTo-as, IsResolvedTo-left, IsResolvedTo-more, IsResolvedTo-to}
use Rattle.cept_rows.proofs.row_looks.RowLooks.resolve_eight.Goals as goal
use Rattle.cept_rows.proofs.row_looks.RowLooks.resolve_eight.Goals.{then-flags-at, else-flags-at}

pub loop-k-init : goal.loop-k-init
loop-k-init c = record {
  columns = λ was first. first;
  brush = c.requires.brush;
}

pub loop-k-preserved : goal.loop-k-preserved
loop-k-preserved c =
    let flag = ap (λ i. get_or c.args.flags.now i false) (sym c.from-at.ensures) in
    elim c.if-flags-at.branch [
      | then-flags-at w ↦ record {
        columns = λ was first. IsResolvedTo-as w.self-is w.differ-is
            (IsResolvedTo-more (c.loop-k.invariant.columns was first) (omega arith) (flag ∙ w.if-flags-at.true) _
            w.resolve_among.result w.resolve_among.new.self c.from-at.result c.from-at.ensures refl
            (rw (← w.numbered.ensures) w.resolve_among.ensures.look.looks)
            (rw (← w.numbered.ensures) w.resolve_among.ensures.look.differs));
        brush = subst (λ b. IsBrush c.args.source.now b) (sym w.brush-is) w.resolve_among.ensures.brush;
      }
      | else-flags-at w ↦ record {
        columns = λ was first. IsResolvedTo-as w.self-is w.differ-is
            (IsResolvedTo-left (c.loop-k.invariant.columns was first) (flag ∙ w.if-flags-at.false));
        brush = subst (λ b. IsBrush c.args.source.now b) (sym w.brush-is) c.loop-k.invariant.brush;
      }
    ]

pub returns-clause-columns : goal.returns-clause-columns
returns-clause-columns c = λ was first.
    let end : c.loop-k.k ≡ c.args.first + 8 = omega arith in
    IsResolvedTo-to end (c.loop-k.invariant.columns was first)
