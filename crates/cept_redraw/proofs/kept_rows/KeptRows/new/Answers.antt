use Rattle.std.proofs.Common.{◌≡◌, ℕ, ◌+◌, List, [], ◌∷◌, ◌++◌, sym, ap, subst, ◌∙◌, arith}
use Rattle.cept_codes.specs.declared.look.Look.{Look}
use Rattle.cept_codes.specs.Look.{blank_look}
use Rattle.cept_codes.specs.Table.{IsTable, list_by_index, row_of, table}
use Rattle.cept_codes.proofs.Laws.{IsTable-table, indexed_none, indexed_more, table-list_by_index}
use Rattle.cept_redraw.proofs.kept_rows.KeptRows.new.Goals as goal

pub loop-row-init : goal.loop-row-init
loop-row-init c = c.in_ok-rows.ensures.items ∙ sym (indexed_none 1 (λ _. row_of (λ _. blank_look)))

pub loop-row-preserved : goal.loop-row-preserved
loop-row-preserved c =
    c.in_ok-push.ensures.items ∙ ap (λ (l : List (List Look)). l ++ c.flat.result ∷ []) c.loop-row.invariant
    ∙ ap (λ (l : List Look). list_by_index 1 c.loop-row._row (λ _. row_of (λ _. blank_look)) ++ l ∷ []) c.flat.ensures
    ∙ indexed_more 1 c.loop-row._row (1 + c.loop-row._row) (λ _. row_of (λ _. blank_look)) (omega arith)

-- 24 rows are the table
made : (rows : List (List Look)) (n : ℕ) → rows ≡ list_by_index 1 n (λ _. row_of (λ _. blank_look)) → n ≡ 24 → rows
    ≡ table (λ _ _. blank_look)
made rows n e whole =
    e ∙ ap (λ k. list_by_index 1 k (λ _. row_of (λ _. blank_look))) whole
    ∙ sym (table-list_by_index (λ _ _. blank_look))

pub returns : goal.returns
returns c = made c.loop-row.rows.items c.loop-row._row c.loop-row.invariant (omega arith)

pub invariant_of-result : goal.invariant_of-result
invariant_of-result c = (
  subst (λ (t : List (List Look)). IsTable t)
      (sym (made c.loop-row.rows.items c.loop-row._row c.loop-row.invariant (omega arith))) (IsTable-table (λ _ _. blank_look)),
  c.flat-2.ensures,
)
