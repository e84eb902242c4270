use Rattle.std.proofs.Common.{inl, inr, sym, ◌∙◌}
use Rattle.cept_rows.proofs.RowsCompared.{rows_alike}
use Rattle.cept_rows.proofs.row_looks.RowLooks.differences.Goals as goal
use Rattle.cept_rows.proofs.row_looks.RowLooks.differences.Goals.{then-is_plain, else-is_plain}

pub compare-requires-clause-beside : goal.compare-requires-clause-beside
compare-requires-clause-beside c = record {
  order = c.requires.order;
  to_right = c.requires.to_right;
  left = c.requires.left;
  right = c.requires.right;
}

pub compare_drawn-requires : goal.compare_drawn-requires
compare_drawn-requires c = record {
  order = c.requires.order;
  to_right = c.requires.to_right;
  left = c.requires.left;
  right = c.requires.right;
}

pub compare-requires-clause-plain : goal.compare-requires-clause-plain
compare-requires-clause-plain c known =
    elim c.if-is_plain.branch [
      | then-is_plain w ↦ inl (c.is_plain.ensures w.if-is_plain.true)
      | else-is_plain w ↦ inr (w.is_plain-else-is_plain.ensures (sym w.value-is ∙ c.if-is_plain-2.true))
    ]

pub returns-then-is_plain-2-clause-same : goal.returns-then-is_plain-2-clause-same
returns-then-is_plain-2-clause-same c none =
    rows_alike c.args.self.now c.args.other.now c.columns_by_type.ensures.columns c.columns_by_type-2.ensures.columns
    (sym c.compare.ensures.any ∙ none)

pub returns-else-is_plain-2-clause-same : goal.returns-else-is_plain-2-clause-same
returns-else-is_plain-2-clause-same c none =
    rows_alike c.args.self.now c.args.other.now c.columns_by_type.ensures.columns c.columns_by_type-2.ensures.columns
    (sym c.compare_drawn.ensures.any ∙ none)
