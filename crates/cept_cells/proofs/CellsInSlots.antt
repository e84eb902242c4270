-- A cell read and written in the slot of its row, and a table of which all rows are blank: `kept` are the rows as the
-- code holds them, each in its slot, and `now` is the table as the contract sees it.
use Rattle.std.proofs.Common.{◌≡◌, ℕ, ◌+◌, ◌-◌, ◌≤◌, inl, inr, Bool, not, cond, List, [], get_or, set}
use Rattle.std.proofs.Common.{refl, sym, ap, ◌∙◌, arith}
use Rattle.std.proofs.lemmas.Bool.{cases_Bool, not-true, not-false}
use Rattle.std.proofs.lemmas.List.{set-get_or}
use Rattle.cept_codes.specs.declared.cell.Cell.{Cell}
use Rattle.cept_codes.specs.declared.stroke.Stroke.TheVariants as strokes
use Rattle.cept_codes.specs.Cell.{blank_cell}
use Rattle.cept_codes.specs.Place.{Place, OnScreen}
use Rattle.cept_codes.specs.Table.{value_at, entry, list_by_index, row_of, table}
use Rattle.cept_codes.proofs.Laws.{entry-list_by_index, same_indexed, set_is, table-list_by_index}
use Rattle.cept_scroll.specs.Order.{AreInSlots, IsRowOrder, rows_in_order, slot_of}
use Rattle.cept_scroll.proofs.Laws.{IsTable-rows, row_read, row_written}
use Rattle.cept_cells.specs.Replaced.{cells_with}
use Rattle.cept_profile.specs.Cells.{cells_after}
use Rattle.cept_cells.proofs.CellsAfterStrokes.{cells_after-put, cells_after-put_kept}

-- a cell read in the slot of its row
pub value_read : {order : List ℕ} {kept now : List (List Cell)} → AreInSlots order kept → rows_in_order order kept ≡ now
    → (p : Place) (q i j : ℕ) (row e : List Cell) → OnScreen p.row p.column → q ≡ p.row → i ≡ slot_of order q - 1
    → j + 1 ≡ p.column → row ≡ get_or kept i e → get_or row j blank_cell ≡ value_at blank_cell now p.row p.column
value_read {order} {kept} {now} are view p q i j row e on eq at ej read =
    let column : j ≡ p.column - 1 = omega arith in
    ap (λ (l : List Cell). get_or l j blank_cell)
    (read ∙ row_read are view q i e [] (omega (arith, on)) (omega (arith, on)) at)
    ∙ ap (λ k. get_or (get_or now (q - 1) []) k blank_cell) column
    ∙ ap (λ k. value_at blank_cell now k p.column) eq

-- a cell written in the slot of its row, where the one there was free
pub put_in_slot : {order : List ℕ} {kept now : List (List Cell)} → AreInSlots order kept → rows_in_order order kept ≡ now
    → (p : Place) (cell : Cell) (b : Bool) (q k i : ℕ) (row new e : List Cell) → OnScreen p.row p.column
    → q ≡ p.row → k ≡ p.column → i ≡ slot_of order q - 1 → row ≡ get_or kept i e
    → b ≡ not (value_at blank_cell now p.row p.column).protected → new ≡ cond b (set row (k - 1) cell) row
    → rows_in_order order (set kept i new) ≡ cells_after now (strokes.Put p cell)
put_in_slot {order} {kept} {now} are view p cell b q k i row new e on eq ek at read free made =
    let low : 1 ≤ q = omega (arith, on) in
    let high : q ≤ 24 = omega (arith, on) in
    let there : row ≡ get_or now (q - 1) e = read ∙ row_read are view q i e e low high at in
    row_written are view q i new low high at
    ∙ elim (cases_Bool b) [
      | inl free_there ↦
          ap (λ (l : List Cell). set now (q - 1) l) (made ∙ ap (λ c. cond c (set row (k - 1) cell) row) free_there)
          ∙ cells_after-put (IsTable-rows are view) refl p cell (q - 1) (k - 1) row e on (omega arith) (omega arith) there
          (not-true _ (sym free ∙ free_there))
      | inr held ↦
          ap (λ (l : List Cell). set now (q - 1) l) (made ∙ ap (λ c. cond c (set row (k - 1) cell) row) held)
          ∙ ap (λ (l : List Cell). set now (q - 1) l) there ∙ set-get_or now (q - 1) e
          ∙ cells_after-put_kept (IsTable-rows are view) p cell (not-false _ (sym free ∙ held))
    ]

-- rows that all are blank
pub blank_in_slots : (order : List ℕ) → IsRowOrder order
    → rows_in_order order (table (λ _ _. blank_cell)) ≡ table (λ _ _. blank_cell)
blank_in_slots order is =
    let blank : ℕ → List Cell = λ _. row_of (λ _. blank_cell) in
    ap (rows_in_order order) (table-list_by_index (λ _ _. blank_cell))
    ∙ same_indexed 1 24 (λ r. entry [] 1 (list_by_index 1 24 blank) (slot_of order r)) blank
    (λ r low high.
    let slot : (1 ≤ slot_of order r) × (slot_of order r ≤ 24) = is.slots r low (omega (arith, high)) in
    entry-list_by_index [] 1 24 blank (slot_of order r) slot.0 (omega (arith, slot.1)))
    ∙ sym (table-list_by_index (λ _ _. blank_cell))

-- a cell replaced in the slot of its row
pub set_in_slot : {order : List ℕ} {kept now : List (List Cell)} → AreInSlots order kept → rows_in_order order kept ≡ now
    → (p : Place) (cell : Cell) (q k i : ℕ) (row e : List Cell) → OnScreen p.row p.column → q ≡ p.row → k ≡ p.column
    → i ≡ slot_of order q - 1 → row ≡ get_or kept i e
    → rows_in_order order (set kept i (set row (k - 1) cell)) ≡ cells_with now p cell
set_in_slot {order} {kept} {now} are view p cell q k i row e on eq ek at read =
    let low : 1 ≤ q = omega (arith, on) in
    let high : q ≤ 24 = omega (arith, on) in
    row_written are view q i (set row (k - 1) cell) low high at
    ∙ set_is now blank_cell cell (q - 1) (k - 1) p.row p.column row e (IsTable-rows are view) on (omega (arith, low))
    (omega (arith, on)) (read ∙ row_read are view q i e e low high at)
