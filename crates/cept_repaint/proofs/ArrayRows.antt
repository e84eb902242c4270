-- Looks written in a row of an array of rows.
use Rattle.std.proofs.Common.{◌≡◌, ℕ, ◌+◌, ◌-◌, ◌<◌, ◌≤◌, Bool, List, [], false, length, cond, get_or, set, sym, ap}
use Rattle.std.proofs.Common.{◌∙◌, arith}
use Rattle.std.proofs.lemmas.List.{get_or_default}
use Rattle.cept_codes.specs.declared.look.Look.{Look}
use Rattle.cept_codes.specs.Look.{blank_look}
use Rattle.cept_codes.specs.Place.{Place, OnScreen}
use Rattle.cept_codes.specs.Table.{IsTable, entry, row_of, table}
use Rattle.cept_codes.proofs.Laws.{entry_from, rows_are, set_is}
use Rattle.cept_profile.specs.Changes.{grid_with_paint}
use Rattle.cept_profile.specs.RowsFromAbove.{blank_looks, looks_in}
use Rattle.cept_profile.specs.Tiling.{column_entry}

-- one look; `row` is the row as the code reads it, whose default is `e`
pub painted_in_row : (rows : List (List Look)) (p : Place) (looks : List Look) (i column : ℕ) (row new e : List Look)
    → IsTable rows → OnScreen p.row p.column → i + 1 ≡ p.row → 1 ≤ column → column ≡ p.column → row ≡ get_or rows i e
    → new ≡ set row (column - 1) (column_entry blank_look looks column)
    → set rows i new ≡ grid_with_paint rows p (column_entry blank_look looks p.column)
painted_in_row rows p looks i column row new e is on er low ec read made =
    ap (λ (l : List Look). set rows i l)
    (made ∙ ap (λ k. set row (column - 1) (column_entry blank_look looks k)) ec)
    ∙ set_is rows blank_look (column_entry blank_look looks p.column) i (column - 1) p.row p.column row e is on er
    (omega (arith, low, ec)) read

-- the row is the one that stands there
row_is : (rows : List (List Look)) (r i : ℕ) (row e : List Look) → IsTable rows → 1 ≤ r → r ≤ 24 → i ≡ r - 1
    → row ≡ get_or rows i e → row ≡ looks_in rows r
row_is rows r i row e is low high at read =
    read ∙ get_or_default rows i e blank_looks (omega (arith, is.rows, at)) ∙ ap (λ k. get_or rows k blank_looks) at
    ∙ sym (entry_from blank_looks 1 rows r low)

-- the looks of flagged columns
pub flagged_row_is : (rows : List (List Look)) (flags : List Bool) (r i : ℕ) (looks row new e : List Look) → IsTable rows
    → 1 ≤ r → r ≤ 24 → i ≡ r - 1 → row ≡ get_or rows i e
    → new ≡ row_of (λ c. cond (entry false 1 flags c) (column_entry blank_look looks c) (column_entry blank_look row c))
    → set rows i new ≡ set rows (r - 1) (row_of (λ c. cond (entry false 1 flags c) (column_entry blank_look looks c)
    (column_entry blank_look (looks_in rows r) c)))
flagged_row_is rows flags r i looks row new e is low high at read made =
    ap (λ k. set rows k new) at ∙ ap (λ (l : List Look). set rows (r - 1) l)
    (made ∙ ap (λ (l : List Look). row_of (λ c. cond (entry false 1 flags c) (column_entry blank_look looks c)
    (column_entry blank_look l c))) (row_is rows r i row e is low high at read))

-- rows that are all blank
pub blank_rows : (rows : List (List Look)) → length rows ≡ 24 → ((i : ℕ) → i < 24 → get_or rows i [] ≡ blank_looks)
    → rows ≡ table (λ _ _. blank_look)
blank_rows rows long each = rows_are (λ _ _. blank_look) rows long each
