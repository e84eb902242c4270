-- Cells by looking back are cells by one stroke after the other.
use Rattle.std.proofs.Common.{◌≡◌, ℕ, ◌+◌, ◌-◌, Bool, true, false, not, ◌&&◌, cond, eqb, leb, List, [], ◌∷◌, ◌++◌, reverse}
use Rattle.std.proofs.Common.{refl, sym, ◌∙◌, ap, append_assoc, rules}
use Rattle.std.specs.List.{AllByRecursion}
use Rattle.std.proofs.lemmas.Bool.{and_parts, eqb-false, leb-true}
use Rattle.cept_codes.specs.declared.command.Up.{Up}
use Rattle.cept_codes.specs.declared.command.Up.TheVariants as ways
use Rattle.cept_codes.specs.Command.{IsArea}
use Rattle.cept_codes.specs.Stroke.{IsValidStroke}
use Rattle.std.proofs.lemmas.List.{reverse-append}
use Rattle.cept_codes.specs.declared.cell.Cell.{Cell}
use Rattle.cept_codes.specs.declared.stroke.Stroke.{Stroke}
use Rattle.cept_codes.specs.declared.stroke.Stroke.TheVariants as strokes
use Rattle.cept_codes.specs.Cell.{blank_cell}
use Rattle.cept_codes.specs.Place.{OnScreen}
use Rattle.cept_codes.specs.Table.{table, value_at}
use Rattle.cept_profile.specs.Cells.{is_at, cell_after, cells_after, cells_after_all}
use Rattle.cept_profile.specs.PageParts.{left_by}
use Rattle.cept_codes.proofs.Laws.{value_at-table, same_table}

-- by both cases of a test
pub by_bool : {X : Type 0} (t : Bool) → (t ≡ true → X) → (t ≡ false → X) → X
by_bool true held failed = held refl
by_bool false held failed = failed refl

-- what a shift moves
shifted-same : (a b : ℕ) (way : Up) (was other : ℕ → ℕ → Cell) → IsArea a b
    → ((r c : ℕ) → OnScreen r c → was r c ≡ other r c) → (r c : ℕ) → OnScreen r c
    → cell_after (strokes.Shift a b way) was r c ≡ cell_after (strokes.Shift a b way) other r c
shifted-same a b ways.Up was other area same r c on =
    by_bool (leb a r && leb r b) (λ inside.
    let parts = and_parts (leb a r) (leb r b) inside in
    let low = leb-true a r parts.0 in
    let high = leb-true r b parts.1 in
    ap (λ (t : Bool). cond t (cond (eqb r b) blank_cell (was (r + 1) c)) (was r c)) inside
    ∙ by_bool (eqb r b) (λ last. ap (λ (t : Bool). cond t blank_cell (was (r + 1) c)) last
    ∙ sym (ap (λ (t : Bool). cond t blank_cell (other (r + 1) c)) last))
    (λ more. let apart = eqb-false r b more in
    ap (cond (eqb r b) blank_cell) (same (r + 1) c (search rules)))
    ∙ sym (ap (λ (t : Bool). cond t (cond (eqb r b) blank_cell (other (r + 1) c)) (other r c)) inside))
    (λ outside. ap (cond (leb a r && leb r b) (cond (eqb r b) blank_cell (was (r + 1) c))) (same r c on)
    ∙ ap (λ (t : Bool). cond t (cond (eqb r b) blank_cell (was (r + 1) c)) (other r c)) outside
    ∙ sym (ap (λ (t : Bool). cond t (cond (eqb r b) blank_cell (other (r + 1) c)) (other r c)) outside))
shifted-same a b ways.Down was other area same r c on =
    by_bool (leb a r && leb r b) (λ inside.
    let parts = and_parts (leb a r) (leb r b) inside in
    let low = leb-true a r parts.0 in
    let high = leb-true r b parts.1 in
    ap (λ (t : Bool). cond t (cond (eqb r a) blank_cell (was (r - 1) c)) (was r c)) inside
    ∙ by_bool (eqb r a) (λ first. ap (λ (t : Bool). cond t blank_cell (was (r - 1) c)) first
    ∙ sym (ap (λ (t : Bool). cond t blank_cell (other (r - 1) c)) first))
    (λ more. let apart = eqb-false r a more in
    ap (cond (eqb r a) blank_cell) (same (r - 1) c (search rules)))
    ∙ sym (ap (λ (t : Bool). cond t (cond (eqb r a) blank_cell (other (r - 1) c)) (other r c)) inside))
    (λ outside. ap (cond (leb a r && leb r b) (cond (eqb r a) blank_cell (was (r - 1) c))) (same r c on)
    ∙ ap (λ (t : Bool). cond t (cond (eqb r a) blank_cell (was (r - 1) c)) (other r c)) outside
    ∙ sym (ap (λ (t : Bool). cond t (cond (eqb r a) blank_cell (other (r - 1) c)) (other r c)) outside))

-- what a stroke shows on the screen comes from the cells that stood on the screen
pub cell_after-same : (stroke : Stroke) (was other : ℕ → ℕ → Cell) → IsValidStroke stroke
    → ((r c : ℕ) → OnScreen r c → was r c ≡ other r c) → (r c : ℕ) → OnScreen r c → cell_after stroke was r c ≡ cell_after stroke other r c
cell_after-same (strokes.Put p cell) was other valid same r c on =
    ap (λ (here : Cell). cond (is_at p r c && not here.protected) cell here) (same r c on)
cell_after-same strokes.Wipe was other valid same r c on = refl
cell_after-same (strokes.Erase row from) was other valid same r c on =
    ap (λ (here : Cell). cond (eqb r row && leb from c && not here.protected) blank_cell here) (same r c on)
cell_after-same (strokes.Shift a b way) was other valid same r c on = shifted-same a b way was other valid same r c on
cell_after-same (strokes.Carry a b way) was other valid same r c on = shifted-same a b way was other valid same r c on
cell_after-same (strokes.RowAttr row attr) was other valid same r c on = same r c on
cell_after-same (strokes.ScreenAttr attr) was other valid same r c on = same r c on
cell_after-same strokes.ScreenClear was other valid same r c on = same r c on
cell_after-same (strokes.Colour i paint) was other valid same r c on = same r c on
cell_after-same (strokes.Dclut i v) was other valid same r c on = same r c on
cell_after-same strokes.ColourDefaults was other valid same r c on = same r c on
cell_after-same strokes.DrcsClear was other valid same r c on = same r c on
cell_after-same (strokes.Drcs code pattern) was other valid same r c on = same r c on
cell_after-same (strokes.Format rows) was other valid same r c on = same r c on

-- the cell at row r and column c after the strokes, the last first
abbrev pub cell_back : List Stroke → ℕ → ℕ → Cell
cell_back strokes = left_by cell_after (λ r c. blank_cell) strokes

-- one more stroke
pub cells_after-cell_back : (stroke : Stroke) (earlier : List Stroke) → IsValidStroke stroke
    → table (cell_back (stroke ∷ earlier)) ≡ cells_after (table (cell_back earlier)) stroke
cells_after-cell_back stroke earlier valid =
    same_table (cell_back (stroke ∷ earlier)) (cell_after stroke (value_at blank_cell (table (cell_back earlier))))
    (λ r c on. cell_after-same stroke (cell_back earlier) (value_at blank_cell (table (cell_back earlier))) valid
    (λ r' c' on'. sym (value_at-table (cell_back earlier) blank_cell r' c' on')) r c on)

-- several more strokes
pub cells_after_all-cell_back : (more earlier : List Stroke) → AllByRecursion IsValidStroke more
    → table (cell_back (reverse more ++ earlier)) ≡ cells_after_all (table (cell_back earlier)) more
unfolding cells_after_all
cells_after_all-cell_back [] earlier valid = refl
cells_after_all-cell_back (stroke ∷ more) earlier valid =
    ap (λ (all : List Stroke). table (cell_back (all ++ earlier))) (reverse-append (stroke ∷ []) more)
    ∙ ap (λ (all : List Stroke). table (cell_back all)) (append_assoc (reverse more) (stroke ∷ []) earlier)
    ∙ cells_after_all-cell_back more (stroke ∷ earlier) valid.1
    ∙ ap (λ (cells : List (List Cell)). cells_after_all cells more) (cells_after-cell_back stroke earlier valid.0)
