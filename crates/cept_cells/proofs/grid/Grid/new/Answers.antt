use Rattle.std.proofs.Common.{◌≡◌, ℕ, ◌+◌, List, [], ◌∷◌, ◌++◌, sym, ap, subst, ◌∙◌, arith}
use Rattle.cept_codes.specs.declared.cell.Cell.{Cell}
use Rattle.cept_codes.specs.Cell.{blank_cell}
use Rattle.cept_codes.specs.Table.{IsTable, list_by_index, row_of, table}
use Rattle.cept_codes.proofs.Laws.{IsTable-table, indexed_none, indexed_more, table-list_by_index}
use Rattle.cept_scroll.specs.Order.{rows_in_order}
use Rattle.cept_scroll.proofs.Laws.{rows_in_order-first}
use Rattle.cept_cells.proofs.CellsAfterStrokes.{blank_row}
use Rattle.cept_cells.proofs.grid.Grid.new.Goals as goal

pub loop-row-init : goal.loop-row-init
loop-row-init c = c.in_ok-rows.ensures.items ∙ sym (indexed_none 1 (λ _. row_of (λ _. blank_cell)))

pub loop-row-preserved : goal.loop-row-preserved
loop-row-preserved c =
    c.in_ok-push.ensures.items ∙ ap (λ (l : List (List Cell)). l ++ _ ∷ []) c.loop-row.invariant
    ∙ ap (λ (l : List Cell). list_by_index 1 c.loop-row._row (λ _. row_of (λ _. blank_cell)) ++ l ∷ []) blank_row
    ∙ indexed_more 1 c.loop-row._row (1 + c.loop-row._row) (λ _. row_of (λ _. blank_cell)) (omega arith)

-- 24 rows are the table
made : (rows : List (List Cell)) (n : ℕ) → rows ≡ list_by_index 1 n (λ _. row_of (λ _. blank_cell)) → n ≡ 24
    → rows ≡ table (λ _ _. blank_cell)
made rows n e whole =
    e ∙ ap (λ k. list_by_index 1 k (λ _. row_of (λ _. blank_cell))) whole
    ∙ sym (table-list_by_index (λ _ _. blank_cell))

whole : (rows : List (List Cell)) → rows ≡ table (λ _ _. blank_cell) → IsTable rows
whole rows e = subst (λ (t : List (List Cell)). IsTable t) (sym e) (IsTable-table (λ _ _. blank_cell))

pub returns : goal.returns
returns c =
    let blank : c.loop-row.rows.items ≡ table (λ _ _. blank_cell) =
    made c.loop-row.rows.items c.loop-row._row c.loop-row.invariant (omega arith) in
    ap (λ (order : List ℕ). rows_in_order order c.loop-row.rows.items) c.new-order.ensures
    ∙ rows_in_order-first c.loop-row.rows.items (whole c.loop-row.rows.items blank) ∙ blank

pub invariant_of-result : goal.invariant_of-result
invariant_of-result c = record {
  ordered = c.ordered_by_type.ensures.order;
  table = whole c.loop-row.rows.items (made c.loop-row.rows.items c.loop-row._row c.loop-row.invariant (omega arith));
}
