-- Rows followed back through strokes: cells of a row in which none of them writes are those of the row of which it came.
use Rattle.std.proofs.Common.{◌≡◌, ℕ, ◌+◌, ◌-◌, ◌≤◌, cond, ◌&&◌, ◌||◌, ◌==◌, not, eqb, leb, Bool, true, false, List, []}
use Rattle.std.proofs.Common.{◌∷◌, Option, Some, None, refl, sym, subst, ◌∙◌, ap, arith}
use Rattle.std.specs.Prelude.{option_and_then}
use Rattle.std.specs.List.{AllByRecursion, list_any}
use Rattle.std.proofs.lemmas.Bool.{and_left, cond-false, or_parts, true≢false}
use Rattle.std.proofs.lemmas.Bool.Decides.{nat_tests}
use Rattle.cept_codes.specs.declared.cell.Cell.{Cell}
use Rattle.cept_codes.specs.declared.command.Up.{Up}
use Rattle.cept_codes.specs.declared.command.Up.TheVariants as ways
use Rattle.cept_codes.specs.declared.stroke.Stroke.{Stroke}
use Rattle.cept_codes.specs.declared.stroke.Stroke.TheVariants as strokes
use Rattle.cept_codes.specs.Cell.{blank_cell}
use Rattle.cept_codes.specs.Command.{IsArea}
use Rattle.cept_codes.specs.Place.{OnScreen}
use Rattle.cept_codes.specs.Stroke.{IsRow, IsValidStroke}
use Rattle.cept_codes.specs.Table.{value_at}
use Rattle.cept_codes.proofs.Laws.{value_at-table}
use Rattle.cept_profile.specs.Cells.{cell_after, cells_after, cells_after_all, is_at, is_moved, moves, shifted}
use Rattle.cept_profile.specs.MovedRows.{MovedRows, moved_rows, row_before, row_before_move, row_within}
use Rattle.cept_profile.specs.Reach.{is_written, writes, writes_where}

-- ---- one stroke

-- of three values by two tests, the first of which is none: the one that is there
picked : {X : Type 0} (f : ℕ → X) (d : X) (b e : Bool) (x y q : ℕ) → cond b (cond e None (Some x)) (Some y) ≡ Some q
    → cond b (cond e d (f x)) (f y) ≡ f q
picked f d true true x y q is = absurd (cc)
picked f d true false x y q is = let same : x ≡ q = cc in ap f same
picked f d false e x y q is = let same : y ≡ q = cc in ap f same

-- and it meets what both meet
picked-meets : (P : ℕ → Type 0) (b e : Bool) (x y q : ℕ) → cond b (cond e None (Some x)) (Some y) ≡ Some q
    → (b ≡ true → e ≡ false → P x) → P y → P q
picked-meets P true true x y q is moved stays = absurd (cc)
picked-meets P true false x y q is moved stays = let same : x ≡ q = cc in subst P same (moved refl refl)
picked-meets P false e x y q is moved stays = let same : y ≡ q = cc in subst P same stays

shifted-from : {X : Type 0} (way : Up) (first last : ℕ) (d : X) (was : ℕ → X) (r q : ℕ)
    → row_before_move (Some (record { first = first; last = last; way = way })) r ≡ Some q
    → shifted way first last d was r ≡ was q
shifted-from ways.Up first last d was r q is = picked was d (leb first r && leb r last) (eqb r last) (r + 1) r q is
shifted-from ways.Down first last d was r q is = picked was d (leb first r && leb r last) (eqb r first) (r - 1) r q is

eqb-swap : (a b : ℕ) → eqb a b ≡ false → eqb b a ≡ false
eqb-swap a b other = grind (arith, nat_tests)

-- where the row stays
row_stays : {X : Type 0} (f : ℕ → X) (r q : ℕ) → Some r ≡ Some q → f r ≡ f q
row_stays f r q is = let same : r ≡ q = cc in ap f same

-- the cell after a stroke that doesn't write in its row is one of the row of which that came
cell_after-from : (stroke : Stroke) (was : ℕ → ℕ → Cell) (r q c : ℕ)
    → row_before_move (moved_rows stroke) r ≡ Some q → writes stroke r ≡ false
    → cell_after stroke was r c ≡ was q c
cell_after-from (strokes.Put p cell) was r q c is out =
    cond-false (is_at p r c && not (was r c).protected) cell (was r c)
    (and_left (is_at p r c) (not (was r c).protected) (and_left (p.row == r) (p.column == c) out))
    ∙ row_stays (λ k. was k c) r q is
cell_after-from (strokes.Erase row from) was r q c is out =
    let other : eqb r row ≡ false = eqb-swap row r out in
    cond-false (eqb r row && leb from c && not (was r c).protected) blank_cell (was r c)
    (and_left (eqb r row && leb from c) (not (was r c).protected) (and_left (eqb r row) (leb from c) other))
    ∙ row_stays (λ k. was k c) r q is
cell_after-from strokes.Wipe was r q c is out = absurd (true≢false out)
cell_after-from (strokes.Shift first last way) was r q c is out =
    shifted-from way first last blank_cell (λ k. was k c) r q is
cell_after-from (strokes.Carry first last way) was r q c is out =
    shifted-from way first last blank_cell (λ k. was k c) r q is
cell_after-from _ was r q c is out = row_stays (λ k. was k c) r q is

-- the row before a move of rows of the screen is on the screen
row_before_move-on : (way : Up) (first last r q : ℕ) → IsArea first last → 1 ≤ r → r ≤ 24
    → row_before_move (Some (record { first = first; last = last; way = way })) r ≡ Some q → IsRow q
row_before_move-on ways.Up first last r q area low high is =
    picked-meets IsRow (leb first r && leb r last) (eqb r last) (r + 1) r q is
    (λ within other. (grind (arith, nat_tests), grind (arith, nat_tests))) (low, high)
row_before_move-on ways.Down first last r q area low high is =
    picked-meets IsRow (leb first r && leb r last) (eqb r first) (r - 1) r q is
    (λ within other. (grind (arith, nat_tests), grind (arith, nat_tests))) (low, high)

-- and so is the row before a stroke
pub row_before_one-on : (stroke : Stroke) (r q : ℕ) → IsValidStroke stroke → 1 ≤ r → r ≤ 24
    → row_before_move (moved_rows stroke) r ≡ Some q → IsRow q
row_before_one-on (strokes.Shift first last way) r q valid low high is =
    row_before_move-on way first last r q valid low high is
row_before_one-on (strokes.Carry first last way) r q valid low high is =
    row_before_move-on way first last r q valid low high is
row_before_one-on _ r q valid low high is = subst IsRow (row_stays (λ k. k) r q is) (low, high)

-- ---- several strokes

-- what comes of two steps came of the first
two_steps : (f : ℕ → Option ℕ) (found : Option ℕ) (q : ℕ) → option_and_then f found ≡ Some q
    → (p : ℕ) × (found ≡ Some p) × (f p ≡ Some q)
two_steps f None q is = absurd (cc)
two_steps f (Some p) q is = (p, refl, is)

-- the row of which a row of the screen came is on the screen
pub row_before-on : (xs : List Stroke) (r q : ℕ) → AllByRecursion IsValidStroke xs → 1 ≤ r → r ≤ 24
    → row_before xs r ≡ Some q → IsRow q
unfolding row_before
row_before-on [] r q valid low high is = subst IsRow (row_stays (λ k. k) r q is) (low, high)
row_before-on (x ∷ xs) r q valid low high is =
    let steps = two_steps (row_before_move (moved_rows x)) (row_before xs r) q is in
    let between : IsRow steps.0 = row_before-on xs r steps.0 valid.1 low high steps.1 in
    row_before_one-on x steps.0 q valid.0 between.0 between.1 steps.2

-- the cells of a row in which no stroke writes are those of the row of which it came
pub cells_after_all-from : (cells : List (List Cell)) (xs : List Stroke) (r q c : ℕ) → AllByRecursion IsValidStroke xs
    → OnScreen r c → row_before xs r ≡ Some q → is_written xs r ≡ false
    → value_at blank_cell (cells_after_all cells xs) r c ≡ value_at blank_cell cells q c
unfolding cells_after_all row_before is_written
cells_after_all-from cells [] r q c valid on is out = row_stays (λ k. value_at blank_cell cells k c) r q is
cells_after_all-from cells (x ∷ xs) r q c valid on is out =
    let steps = two_steps (row_before_move (moved_rows x)) (row_before xs r) q is in
    let parts = or_parts (writes_where x (row_before xs r)) (is_written xs r) out in
    let between : IsRow steps.0 = row_before-on xs r steps.0 valid.1 on.from_top on.to_bottom steps.1 in
    cells_after_all-from (cells_after cells x) xs r steps.0 c valid.1 on steps.1 parts.1
    ∙ value_at-table (cell_after x (value_at blank_cell cells)) blank_cell steps.0 c (assumption)
    ∙ cell_after-from x (value_at blank_cell cells) steps.0 q c steps.2
    (sym (ap (writes_where x) steps.1) ∙ parts.0)

-- ---- rows that no stroke moves

-- a row that is none of those that move stays
pub moves_none : (moved : Option MovedRows) (r : ℕ) → is_moved moved r ≡ false → row_before_move moved r ≡ Some r
moves_none None r none = refl
moves_none (Some moved) r none =
    cond-false (leb moved.first r && leb r moved.last) (row_within moved.way moved.first moved.last r) (Some r) none

-- then it was where it is
pub row_before-still : (xs : List Stroke) (r : ℕ) → list_any (λ x. moves x r) xs ≡ false → row_before xs r ≡ Some r
unfolding row_before
row_before-still [] r none = refl
row_before-still (x ∷ xs) r none =
    let parts = or_parts (moves x r) (list_any (λ y. moves y r) xs) none in
    ap (option_and_then (row_before_move (moved_rows x))) (row_before-still xs r parts.1)
    ∙ moves_none (moved_rows x) r parts.0

-- and is written where a stroke names it
pub is_written-still : (xs : List Stroke) (r : ℕ) → list_any (λ x. moves x r) xs ≡ false
    → is_written xs r ≡ list_any (λ x. writes x r) xs
unfolding is_written
is_written-still [] r none = refl
is_written-still (x ∷ xs) r none =
    let parts = or_parts (moves x r) (list_any (λ y. moves y r) xs) none in
    ap (λ o. writes_where x o || is_written xs r) (row_before-still xs r parts.1)
    ∙ ap (λ b. writes x r || b) (is_written-still xs r parts.1)
