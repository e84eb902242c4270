-- What the rows of an area turned and one freed make of the table of cells, against what a shift makes of it.
use Rattle.std.proofs.Common.{◌≡◌, ℕ, ◌+◌, ◌-◌, ◌<◌, ◌≤◌, ◌==◌, inl, inr, Bool, true, false, cond, List, [], get_or, set}
use Rattle.std.proofs.Common.{length, refl, sym, ap, ◌∙◌, arith}
use Rattle.std.proofs.lemmas.Bool.{cases_eq}
use Rattle.std.proofs.lemmas.Bool.Decides.{nat_tests}
use Rattle.cept_codes.specs.declared.cell.Cell.{Cell}
use Rattle.cept_codes.specs.declared.command.Up.{Up}
use Rattle.cept_codes.specs.declared.command.Up.TheVariants as ways
use Rattle.cept_codes.specs.declared.stroke.Stroke.TheVariants as strokes
use Rattle.cept_codes.specs.Cell.{blank_cell}
use Rattle.cept_codes.specs.Command.{IsArea}
use Rattle.cept_codes.specs.Place.{OnScreen}
use Rattle.cept_codes.specs.Table.{value_at, entry, list_by_index, IsTable}
use Rattle.cept_codes.proofs.Laws.{same_table, set_row_is, row_of-list_by_index, entry_from, entry-list_by_index}
use Rattle.cept_codes.proofs.Laws.{length-list_by_index}
use Rattle.cept_cells.specs.declared.grid.TheConstants.{BLANK_ROW}
use Rattle.cept_cells.specs.Freed.{cells_freed}
use Rattle.cept_cells.proofs.CellsAfterStrokes.{blank_row}
use Rattle.cept_profile.specs.Cells.{cell_after, cells_after, shifted}
use Rattle.cept_scroll.specs.Order.{leaving_row, rows_turned}

-- a blank row has forty blank cells
pub length-blank_row : length BLANK_ROW ≡ 40
length-blank_row =
    ap length (blank_row ∙ row_of-list_by_index (λ _. blank_cell)) ∙ length-list_by_index 1 40 (λ _. blank_cell)

entry-blank_row : (r c : ℕ) → OnScreen r c → entry blank_cell 1 BLANK_ROW c ≡ blank_cell
entry-blank_row r c on =
    ap (λ (l : List Cell). entry blank_cell 1 l c) (blank_row ∙ row_of-list_by_index (λ _. blank_cell))
    ∙ entry-list_by_index blank_cell 1 40 (λ _. blank_cell) c on.from_left (omega (arith, on))

-- one row blank, and the others as they were
pub cells_freed-set : {t : List (List Cell)} → IsTable t → (i row : ℕ) → i < 24 → i + 1 ≡ row
    → set t i BLANK_ROW ≡ cells_freed t row
cells_freed-set {t} is i row below e =
    set_row_is t blank_cell i row BLANK_ROW is below e length-blank_row
    ∙ same_table (λ r c. cond (row == r) (entry blank_cell 1 BLANK_ROW c) (value_at blank_cell t r c))
    (λ r c. cond (row == r) blank_cell (value_at blank_cell t r c))
    (λ r c on. ap (λ (x : Cell). cond (row == r) x (value_at blank_cell t r c)) (entry-blank_row r c on))

-- ---- the rows of an area turned, and the one that came free blank

abbrev freed_row : Up → ℕ → ℕ → ℕ
freed_row ways.Up first last = last
freed_row ways.Down first last = first

-- a value of the row that was shifted to a row
at_cond : {X Y : Type 0} (f : X → Y) (b : Bool) (x y : X) → f (cond b x y) ≡ cond b (f x) (f y)
at_cond f true x y = refl
at_cond f false x y = refl

at_shifted : {X Y : Type 0} (f : X → Y) (way : Up) (first last r : ℕ) (left : X) (was : ℕ → X)
    → f (shifted way first last left was r) ≡ shifted way first last (f left) (λ q. f (was q)) r
at_shifted f ways.Up first last r left was = grind (arith, at_cond f)
at_shifted f ways.Down first last r left was = grind (arith, at_cond f)

-- a blank one for what stands in the row that came free
freed-shifted : {X : Type 0} (way : Up) (first last r : ℕ) (blank left : X) (was now : ℕ → X) → IsArea first last
    → 1 ≤ r → ((q : ℕ) → 1 ≤ q → was q ≡ now q)
    → cond (freed_row way first last == r) blank (shifted way first last left was r)
    ≡ shifted way first last blank now r
freed-shifted ways.Up first last r blank left was now area low same =
    let here : was r ≡ now r = same r low in
    let below : was (r + 1) ≡ now (r + 1) = same (r + 1) (omega arith) in
    grind (arith, nat_tests)
freed-shifted ways.Down first last r blank left was now area low same =
    let here : was r ≡ now r = same r low in
    elim (cases_eq r first) [
      | inl e ↦ grind (arith, nat_tests)
      | inr ne ↦
          elim (cases_eq r 1) [
            | inl top ↦ grind (arith, nat_tests)
            | inr other ↦
                let above : was (r - 1) ≡ now (r - 1) = same (r - 1) (omega (arith, low, other)) in
                grind (arith, nat_tests)
          ]
    ]

pub cells_after-turned : (was : List (List Cell)) (way : Up) (first last : ℕ) → IsArea first last
    → cells_freed (rows_turned way first last was) (freed_row way first last)
    ≡ cells_after was (strokes.Shift first last way)
cells_after-turned was way first last area =
    let rows : ℕ → List Cell = entry [] 1 was in
    let turned : ℕ → List Cell = shifted way first last (rows (leaving_row way first last)) rows in
    same_table
    (λ r c. cond (freed_row way first last == r) blank_cell
    (value_at blank_cell (rows_turned way first last was) r c))
    (cell_after (strokes.Shift first last way) (value_at blank_cell was))
    (λ r c on.
    let at : List Cell → Cell = λ l. get_or l (c - 1) blank_cell in
    let read : value_at blank_cell (rows_turned way first last was) r c
    ≡ shifted way first last (at (rows (leaving_row way first last))) (λ q. at (rows q)) r =
    ap at (sym (entry_from [] 1 (list_by_index 1 24 turned) r on.from_top)
    ∙ entry-list_by_index [] 1 24 turned r on.from_top (omega (arith, on)))
    ∙ at_shifted at way first last r (rows (leaving_row way first last)) rows in
    ap (λ (x : Cell). cond (freed_row way first last == r) blank_cell x) read
    ∙ freed-shifted way first last r blank_cell (at (rows (leaving_row way first last))) (λ q. at (rows q))
    (λ q. value_at blank_cell was q c) area on.from_top (λ q low. ap at (entry_from [] 1 was q low)))
