-- What a write of the grid's rows makes of the table of cells, against what a stroke makes of it.
use Rattle.std.proofs.Common.{◌≡◌, ℕ, ◌+◌, ◌-◌, ◌<◌, ◌≤◌, ◌&&◌, ◌==◌, inl, inr, leb, not, Bool, true, false, cond, List}
use Rattle.std.proofs.Common.{[], ◌++◌, get_or, set, take, length, refl, sym, ap, ◌∙◌, subst, arith}
use Rattle.std.proofs.lemmas.Bool.{and_parts, cases_eq, eqb-true}
use Rattle.std.proofs.lemmas.Bool.Decides.{nat_tests}
use Rattle.std.proofs.lemmas.List.{take_at, get_or_default}
use Rattle.cept_codes.specs.declared.cell.Cell.{Cell}
use Rattle.cept_codes.specs.declared.stroke.Stroke.{Stroke}
use Rattle.cept_codes.specs.declared.stroke.Stroke.TheVariants as strokes
use Rattle.cept_codes.specs.Cell.{blank_cell}
use Rattle.cept_codes.specs.Place.{Place, OnScreen}
use Rattle.cept_codes.specs.Table.{row_of, value_at, entry, list_by_index, IsTable}
use Rattle.cept_codes.proofs.Laws.{table-value_at, same_table, set_is, rows_are, set_row_is, entry-list_by_index}
use Rattle.cept_codes.proofs.Laws.{length-list_by_index}
use Rattle.cept_codes.proofs.Laws.{entry_from}
use Rattle.cept_cells.specs.inside.Erased.{cell_after_erasing}
use Rattle.cept_cells.specs.declared.grid.TheConstants.{BLANK_ROW}
use Rattle.cept_profile.specs.Cells.{is_at, cell_after, cells_after}

-- a place written, where it is free to be written
free_choice : {X : Type 0} (here protected : Bool) (x y : X) → (here ≡ true → protected ≡ false) → cond here x y
    ≡ cond (here && not protected) x y
free_choice false protected x y free = refl
free_choice true false x y free = refl
free_choice true true x y free = absurd (cc (free refl))

-- a place kept, where it is protected
kept_choice : {X : Type 0} (here protected : Bool) (x y : X) → (here ≡ true → protected ≡ true) → y
    ≡ cond (here && not protected) x y
kept_choice false protected x y kept = refl
kept_choice true true x y kept = refl
kept_choice true false x y kept = absurd (cc (kept refl))

-- whether the cell is protected where it is the one at the place
protected_here : (t : List (List Cell)) (p : Place) (r c : ℕ) (b : Bool)
    → (value_at blank_cell t p.row p.column).protected ≡ b
    → is_at p r c ≡ true → (value_at blank_cell t r c).protected ≡ b
protected_here t p r c b there here =
    let parts = and_parts (p.row == r) (p.column == c) here in
    let er = eqb-true p.row r parts.0 in
    let ec = eqb-true p.column c parts.1 in
    subst (λ (k : ℕ). (value_at blank_cell t r k).protected ≡ b) ec
    (subst (λ (q : ℕ). (value_at blank_cell t q p.column).protected ≡ b) er there)

-- `g` is the table as the code holds it, `now` as the contract sees it
pub cells_after-put : {g now : List (List Cell)} → IsTable g → g ≡ now
    → (p : Place) (cell : Cell) (i j : ℕ) (row e : List Cell) → OnScreen p.row p.column → i + 1 ≡ p.row → j + 1
    ≡ p.column → row ≡ get_or g i e → (value_at blank_cell now p.row p.column).protected ≡ false
    → set g i (set row j cell)
    ≡ cells_after now (strokes.Put p cell)
cells_after-put {g} {now} is same p cell i j row e on er ec read free =
    let free_in : (value_at blank_cell g p.row p.column).protected
    ≡ false = subst (λ (t : List (List Cell)). (value_at blank_cell t p.row p.column).protected
    ≡ false) (sym same) free in
    set_is g blank_cell cell i j p.row p.column row e is on er ec read ∙
    same_table (λ r c. cond (is_at p r c) cell (value_at blank_cell g r c))
    (cell_after (strokes.Put p cell) (value_at blank_cell g))
    (λ r c at_place. free_choice (is_at p r c) (value_at blank_cell g r c).protected cell (value_at blank_cell g r c)
    (protected_here g p r c false free_in)) ∙
    ap (λ (t : List (List Cell)). cells_after t (strokes.Put p cell)) same

pub cells_after-put_kept : {now : List (List Cell)} → IsTable now → (p : Place) (cell : Cell)
    → (value_at blank_cell now p.row p.column).protected ≡ true → now ≡ cells_after now (strokes.Put p cell)
cells_after-put_kept {now} is p cell kept =
    sym (table-value_at now blank_cell is)
    ∙ same_table (value_at blank_cell now) (cell_after (strokes.Put p cell) (value_at blank_cell now))
    (λ r c at_place. kept_choice (is_at p r c) (value_at blank_cell now r c).protected cell
    (value_at blank_cell now r c)
    (protected_here now p r c true kept))

-- a row of blank cells
pub blank_row : BLANK_ROW ≡ row_of (λ _. blank_cell)
unfolding row_of
blank_row = refl

-- rows that all are blank, in front of what is left of a list
pub cells_after-wipe : (rows rest old lent now : List (List Cell)) (n : ℕ) → IsTable old → lent ≡ old → length rows
    ≡ length lent → n ≡ length old → ((i : ℕ) (d : List Cell) → i < length lent → get_or rows i d ≡ BLANK_ROW)
    → take n (rows ++ rest) ≡ cells_after now strokes.Wipe
cells_after-wipe rows rest old lent now n is same long en all_blank =
    let whole : length lent ≡ 24 = ap length same ∙ is.rows in
    let f : ℕ → ℕ → Cell = λ _ _. blank_cell in
    take_at rows rest n (omega (arith, long, en, whole, is.rows)) ∙
    rows_are f rows (long ∙ whole) (λ i last. all_blank i [] (omega (arith, last, whole)) ∙ blank_row)

-- ---- an end of a row erased

-- what is erased of a row, by the cell in its own column
cell_after_erasing-here : (from c : ℕ) (x y : Cell) → x ≡ y
    → cond (leb from c && not x.protected) blank_cell x ≡ cond (leb from c && not y.protected) blank_cell y
cell_after_erasing-here from c x y e = ap (λ (z : Cell). cond (leb from c && not z.protected) blank_cell z) e

pub cells_after-erase : {g now : List (List Cell)} → IsTable g → g ≡ now
    → (row from i : ℕ) (old new e : List Cell) → 1 ≤ row → row ≤ 24 → i + 1 ≡ row → old ≡ get_or g i e
    → new ≡ list_by_index 1 40 (cell_after_erasing from (entry blank_cell 1 old))
    → set g i new ≡ cells_after now (strokes.Erase row from)
cells_after-erase {g} {now} is same row from i old new e top bottom er read made =
    let last : i < length g = omega (arith, is.rows) in
    let old_in : old ≡ get_or g i [] = read ∙ get_or_default g i e [] last in
    let long : length new ≡ 40 =
    ap length made ∙ length-list_by_index 1 40 (cell_after_erasing from (entry blank_cell 1 old)) in
    set_row_is g blank_cell i row new is (omega arith) er long ∙
    same_table (λ q c. cond (row == q) (entry blank_cell 1 new c) (value_at blank_cell g q c))
    (cell_after (strokes.Erase row from) (value_at blank_cell g))
    (λ q c on.
    elim (cases_eq row q) [
      | inl here ↦
          let yes : (row == q) ≡ true = grind (arith, nat_tests) in
          let too : (q == row) ≡ true = grind (arith, nat_tests) in
          let index : i ≡ q - 1 = omega arith in
          let cell : entry blank_cell 1 old c ≡ value_at blank_cell g q c =
          entry_from blank_cell 1 old c on.from_left
          ∙ ap (λ (l : List Cell). get_or l (c - 1) blank_cell) (old_in ∙ ap (λ k. get_or g k []) index) in
          ap (λ b. cond b (entry blank_cell 1 new c) (value_at blank_cell g q c)) yes
          ∙ ap (λ (l : List Cell). entry blank_cell 1 l c) made
          ∙ entry-list_by_index blank_cell 1 40 (cell_after_erasing from (entry blank_cell 1 old)) c on.from_left
          (omega (arith, on))
          ∙ cell_after_erasing-here from c (entry blank_cell 1 old c) (value_at blank_cell g q c) cell
          ∙ sym (ap (λ b. cond ((b && leb from c)
          && not (value_at blank_cell g q c).protected) blank_cell (value_at blank_cell g q c)) too)
      | inr other ↦
          let no : (row == q) ≡ false = grind (arith, nat_tests) in
          let neither : (q == row) ≡ false = grind (arith, nat_tests) in
          ap (λ b. cond b (entry blank_cell 1 new c) (value_at blank_cell g q c)) no
          ∙ sym (ap (λ b. cond ((b && leb from c)
          && not (value_at blank_cell g q c).protected) blank_cell (value_at blank_cell g q c)) neither)
    ]) ∙
    ap (λ (t : List (List Cell)). cells_after t (strokes.Erase row from)) same

-- the stroke changes cells
abbrev pub changes_cells : Stroke → Bool
changes_cells (strokes.Put p cell) = true
changes_cells (strokes.Erase r from) = true
changes_cells strokes.Wipe = true
changes_cells (strokes.Shift first last way) = true
changes_cells (strokes.Carry first last way) = true
changes_cells _ = false

-- what a stroke leaves that changes none
pub cells_after-unchanged : (t : List (List Cell)) (stroke : Stroke) → IsTable t → changes_cells stroke ≡ false
    → t ≡ cells_after t stroke
cells_after-unchanged t (strokes.Put p cell) is none = absurd (cc)
cells_after-unchanged t strokes.Wipe is none = absurd (cc)
cells_after-unchanged t (strokes.Erase r from) is none = absurd (cc)
cells_after-unchanged t (strokes.Shift first last way) is none = absurd (cc)
cells_after-unchanged t (strokes.Carry first last way) is none = absurd (cc)
cells_after-unchanged t (strokes.RowAttr r attr) is none = sym (table-value_at t blank_cell is)
cells_after-unchanged t (strokes.ScreenAttr attr) is none = sym (table-value_at t blank_cell is)
cells_after-unchanged t strokes.ScreenClear is none = sym (table-value_at t blank_cell is)
cells_after-unchanged t (strokes.Colour i paint) is none = sym (table-value_at t blank_cell is)
cells_after-unchanged t (strokes.Dclut i v) is none = sym (table-value_at t blank_cell is)
cells_after-unchanged t strokes.ColourDefaults is none = sym (table-value_at t blank_cell is)
cells_after-unchanged t strokes.DrcsClear is none = sym (table-value_at t blank_cell is)
cells_after-unchanged t (strokes.Drcs code pattern) is none = sym (table-value_at t blank_cell is)
cells_after-unchanged t (strokes.Format rows) is none = sym (table-value_at t blank_cell is)
