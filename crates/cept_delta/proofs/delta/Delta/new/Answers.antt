use Rattle.std.proofs.Common.{◌≡◌, ℕ, ◌+◌, ◌∷◌, [], ◌++◌, List, Option, None, refl, sym, ap, ◌∙◌, arith}
use Rattle.cept_codes.specs.declared.cell.Cell.{Cell}
use Rattle.cept_codes.specs.declared.look.Pattern.{Pattern}
use Rattle.cept_codes.specs.Table.{list_by_index, row_of}
use Rattle.cept_codes.proofs.Laws.{indexed_more, indexed_none, table-list_by_index}
use Rattle.cept_profile.specs.OldValues.{no_old_values}
use Rattle.cept_delta.proofs.KeptDelta.{IsKeptDelta-none, length-no_rows, no_cells, no_dclut, no_paints, no_pens, values_are}
use Rattle.cept_delta.proofs.delta.Delta.new.Goals as goal

pub loop-row-init : goal.loop-row-init
loop-row-init c = c.in_ok-cells.ensures.items ∙ sym (indexed_none 1 (λ _. row_of (λ _. None)))

pub loop-row-preserved : goal.loop-row-preserved
loop-row-preserved c =
    c.in_ok-push.ensures.items ∙ ap (λ (l : List (List (Option Cell))). l ++ _ ∷ []) c.loop-row.invariant
    ∙ ap (λ (l : List (Option Cell)). list_by_index 1 c.loop-row._row (λ _. row_of (λ _. None)) ++ l ∷ []) no_cells
    ∙ indexed_more 1 c.loop-row._row (1 + c.loop-row._row) (λ _. row_of (λ _. None)) (omega arith)

pub loop-code-init : goal.loop-code-init
loop-code-init c = c.in_ok-patterns.ensures.items ∙ sym (indexed_none 0x21 (λ _. None))

pub loop-code-preserved : goal.loop-code-preserved
loop-code-preserved c =
    c.in_ok-push-2.ensures.items
    ∙ ap (λ (l : List (Option (Option Pattern))). l ++ None ∷ []) c.loop-code.invariant
    ∙ indexed_more 0x21 c.loop-code._code (0x21 + c.loop-code._code) (λ _. None) (omega arith)

-- 24 rows and 94 codes are all
all_rows : (cells : List (List (Option Cell))) (n : ℕ) → cells ≡ list_by_index 1 n (λ _. row_of (λ _. None)) → n ≡ 24
    → cells ≡ no_old_values.cells
all_rows cells n e whole =
    e ∙ ap (λ k. list_by_index 1 k (λ _. row_of {X = Option Cell} (λ _. None))) whole
    ∙ sym (table-list_by_index {X = Option Cell} (λ _ _. None))

all_codes : (patterns : List (Option (Option Pattern))) (n : ℕ) → patterns ≡ list_by_index 0x21 n (λ _. None) → n ≡ 94
    → patterns ≡ no_old_values.patterns
all_codes patterns n e whole = e ∙ ap (λ k. list_by_index {X = Option (Option Pattern)} 0x21 k (λ _. None)) whole

pub invariant_of-result : goal.invariant_of-result
invariant_of-result c =
    IsKeptDelta-none _ _ (all_rows c.loop-row.cells.items c.loop-row._row c.loop-row.invariant (omega arith)) no_pens
    no_paints no_dclut (all_codes c.loop-code.patterns.items c.loop-code._code c.loop-code.invariant (omega arith))
    length-no_rows

pub returns : goal.returns
returns c =
    values_are _ None (all_rows c.loop-row.cells.items c.loop-row._row c.loop-row.invariant (omega arith)) no_pens refl
    no_paints no_dclut (all_codes c.loop-code.patterns.items c.loop-code._code c.loop-code.invariant (omega arith)) refl
