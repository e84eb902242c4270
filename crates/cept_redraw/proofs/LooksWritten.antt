-- A look read and written at a place.
use Rattle.std.proofs.Common.{◌≡◌, ℕ, ◌+◌, ◌-◌, ◌<◌, ◌==◌, ◌++◌, List, [], cond, drop, get_or, length, set, take, sym, ap, subst, ◌∙◌, arith}
use Rattle.std.proofs.lemmas.List.{get_or_default, length-set, set-append_left, take-append-le, take_all}
use Rattle.cept_codes.specs.declared.look.Look.{Look}
use Rattle.cept_codes.specs.Look.{blank_look}
use Rattle.cept_codes.specs.Place.{Place, IsColumn, IsRow, OnScreen}
use Rattle.cept_codes.specs.Table.{entry, value_at, IsTable}
use Rattle.cept_codes.proofs.Laws.{IsTable-table, set_is, set_row_is}
use Rattle.cept_profile.specs.Changes.{grid_with_paint, look_at}
use Rattle.cept_profile.specs.Tiling.{column_entry}
use Rattle.cept_redraw.proofs.RowsOfLooks.{column_entry-at}

-- a place in a row and a column of the screen
pub OnScreen-parts : {row column : ℕ} → IsRow row → IsColumn column → OnScreen row column
OnScreen-parts in_row in_column =
    record { from_top = in_row.0; to_bottom = in_row.1; from_left = in_column.0; to_right = in_column.1 }

-- a look read in its row; `g` is the table as the code holds it, `now` as the contract sees it
pub read_is : {g now : List (List Look)} → IsTable g → g ≡ now → (p : Place) (i j : ℕ) (row e : List Look)
    → OnScreen p.row p.column → i + 1 ≡ p.row → j ≡ p.column → row ≡ get_or g i e
    → column_entry blank_look row j ≡ look_at now p
read_is {g} {now} is same p i j row e on er ec read =
    let index : i ≡ p.row - 1 = omega arith in
    column_entry-at blank_look row j (omega (arith, on)) ∙ ap (λ k. get_or row (k - 1) blank_look) ec
    ∙ ap (λ (l : List Look). get_or l (p.column - 1) blank_look)
    (read ∙ get_or_default g i e [] (omega (arith, on, is.rows)) ∙ ap (λ k. get_or g k []) index)
    ∙ ap (λ (t : List (List Look)). value_at blank_look t p.row p.column) same

-- a look replaced; `g` is the table as the code holds it, `now` as the contract sees it
pub painted_is : {g now : List (List Look)} → IsTable g → g ≡ now
    → (p : Place) (l : Look) (i j : ℕ) (row e : List Look) → OnScreen p.row p.column → i + 1 ≡ p.row → j + 1
    ≡ p.column → row ≡ get_or g i e → set g i (set row j l) ≡ grid_with_paint now p l
painted_is {g} {now} is same p l i j row e on er ec read =
    set_is g blank_look l i j p.row p.column row e is on er ec read
    ∙ ap (λ (t : List (List Look)). grid_with_paint t p l) same

-- a row replaced
pub IsTable-row_set : {t : List (List Look)} → IsTable t → (i : ℕ) (row : List Look) → i < 24 → length row ≡ 40
    → IsTable (set t i row)
IsTable-row_set {t} is i row below long =
    subst (λ (g : List (List Look)). IsTable g)
    (sym (set_row_is t blank_look i (i + 1) row is below (omega arith) long))
    (IsTable-table (λ q c. cond (i + 1 == q) (entry blank_look 1 row c) (value_at blank_look t q c)))

-- a list cut in two, one entry of whose front is replaced, and joined again
pub joined_set : {X : Type 0} (items front back : List X) (i len : ℕ) (x : X) → items ≡ front ++ back → i < length front
    → len ≡ length items
    → take len (set front i x ++ back ++ drop (length (set front i x ++ back)) items) ≡ set items i x
joined_set {X} items front back i len x cut below long =
    let whole : set items i x ≡ set front i x ++ back =
    ap (λ (l : List X). set l i x) cut ∙ set-append_left front back i x below in
    let same : length (set front i x ++ back) ≡ len = ap length (sym whole) ∙ length-set items i x ∙ sym long in
    take-append-le len (set front i x ++ back) (drop (length (set front i x ++ back)) items) (omega (arith, same))
    ∙ take_all len (set front i x ++ back) (omega (arith, same)) ∙ sym whole
