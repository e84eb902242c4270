use Rattle.std.proofs.Common.{◌≡◌, ℕ, ◌+◌, ◌-◌, false, get_or, Option, None, List, refl, sym, ap, subst, ◌∙◌, arith}
use Rattle.cept_codes.specs.declared.cell.Cell.{Cell}
use Rattle.cept_codes.specs.Table.{HasMadeRows, value_at}
use Rattle.cept_codes.proofs.Laws.{HasMadeRows-all, HasMadeRows-kept, HasMadeRows-more, entry_from}
use Rattle.cept_delta.proofs.KeptDelta.{no_cells}
use Rattle.cept_delta.proofs.delta.forget_cells.Goals as goal
use Rattle.cept_delta.proofs.delta.forget_cells.Goals.{then-rows-row, else-rows-row}

-- the rows made so far, of the table that the code holds
abbrev made : List (List (Option Cell)) → List (List (Option Cell)) → ℕ → Type 0
made was t n = HasMadeRows None (λ _ _. None) (value_at None was) t n

pub loop-row-preserved : goal.loop-row-preserved
loop-row-preserved c =
    elim c.if-rows-row.branch [
      | then-rows-row w ↦
          subst (λ (t : List (List (Option Cell))). made c.args.cells.now t (c.loop-row.row + 1)) (sym w.cells-is)
          (HasMadeRows-more None (λ _ _. None) (value_at None c.args.cells.now) c.loop-row.cells c.loop-row.row
          c.loop-row.row (c.loop-row.row + 1) _ c.loop-row.invariant (omega arith) refl refl no_cells)
      | else-rows-row w ↦
          subst (λ (t : List (List (Option Cell))). made c.args.cells.now t (c.loop-row.row + 1)) (sym w.cells-is)
          (HasMadeRows-kept None (λ _ _. None) (value_at None c.args.cells.now) c.loop-row.cells c.loop-row.row
          (c.loop-row.row + 1) c.loop-row.invariant (omega arith) refl (λ k on.
          c.requires.unflagged (c.loop-row.row + 1) k on
          (let back : c.loop-row.row + 1 - 1 ≡ c.loop-row.row = omega arith in
          let unset : get_or c.args.rows.now c.loop-row.row false ≡ false = w.if-rows-row.false in
          entry_from false 1 c.args.rows.now (c.loop-row.row + 1) (omega arith)
          ∙ ap (λ n. get_or c.args.rows.now n false) back ∙ unset)))
    ]

pub returns : goal.returns
returns c = HasMadeRows-all None (λ _ _. None) _ c.loop-row.cells c.loop-row.row c.loop-row.invariant (omega arith)
