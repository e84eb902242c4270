use Rattle.std.proofs.Common.{inl, inr}
use Rattle.cept_rows.specs.Flagged.{look_at}
use Rattle.cept_rows.proofs.KeptLooks.{same_plain}
use Rattle.cept_rows.proofs.KeptRows.{entry_at, kept_at}
use Rattle.cept_rows.proofs.row_looks.RowLooks.same_at.Goals as goal

pub returns-then-plain : goal.returns-then-plain
returns-then-plain c =
    same_plain c.same.result c.small-mine.result c.small-theirs.result (look_at c.args.self.now c.args.column)
    (look_at c.args.other.now c.args.column) c.small-mine.ensures.look c.small-theirs.ensures.look
    (elim (c.requires c.if-plain.true) [
      | inl plain ↦ inl (plain c.args.column)
      | inr plain ↦ inr (plain c.args.column)
    ]) c.same.ensures

pub same_with-requires-clause-a : goal.same_with-requires-clause-a
same_with-requires-clause-a c =
    rw c.index-k.ensures.index (kept_at c.self.inside c.args.column _ _ c.self.invariant
    c.index-k.ensures.in_range.0 c.index-k.ensures.in_range.1)

pub same_with-requires-clause-b : goal.same_with-requires-clause-b
same_with-requires-clause-b c =
    rw c.index-k.ensures.index (kept_at c.other.inside c.args.column _ _ c.other.invariant
    c.index-k.ensures.in_range.0 c.index-k.ensures.in_range.1)

pub returns : goal.returns
returns c =
    c.same_with.ensures (look_at c.args.self.now c.args.column) (look_at c.args.other.now c.args.column)
    (rw c.index-k.ensures.index (entry_at c.self.inside c.args.self.now c.args.column _ _ c.self.invariant
    c.self.view_is c.index-k.ensures.in_range.0 c.index-k.ensures.in_range.1))
    (rw c.index-k.ensures.index (entry_at c.other.inside c.args.other.now c.args.column _ _ c.other.invariant
    c.other.view_is c.index-k.ensures.in_range.0 c.index-k.ensures.in_range.1))
