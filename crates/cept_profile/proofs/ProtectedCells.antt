-- Protected cells, and wiped ones.
use Rattle.std.proofs.Common.{◌≡◌, ◌≢◌, ℕ, ◌+◌, ◌-◌, ◌≤◌, ◌<◌, ◌⊎◌, Bool, cond, false, not, ◌&&◌, eqb, leb, List, [], ◌∷◌, ◌++◌, refl}
use Rattle.std.proofs.Common.{sym, ◌∙◌, subst, inl, inr, arith}
use Rattle.std.proofs.Common.{Option, None, Some}
use Rattle.std.proofs.Common.{ap}
use Rattle.std.specs.List.{Contains, list_any}
use Rattle.cept_codes.specs.declared.command.Up.TheVariants as ways
use Rattle.std.specs.Prelude.{IsTrue}
use Rattle.std.proofs.lemmas.Bool.{cond-false, cond-true, and_from, and_left, and_right, eq-eqb, eqb-true, le-leb}
use Rattle.std.proofs.lemmas.Bool.{or_parts, lt-leb, not_from_true, not_from_false, false_from_ne_true}
use Rattle.std.proofs.lemmas.List.Elements.{Contains-append_right}
use Rattle.cept_codes.specs.declared.cell.Cell.{Cell}
use Rattle.cept_codes.specs.declared.stroke.Stroke.{Stroke}
use Rattle.cept_codes.specs.declared.stroke.Stroke.TheVariants as strokes
use Rattle.cept_codes.specs.Cell.{blank_cell}
use Rattle.cept_codes.specs.Place.{Place, OnScreen}
use Rattle.cept_codes.specs.Table.{value_at}
use Rattle.cept_codes.proofs.Laws.{value_at-table}
use Rattle.cept_profile.specs.Cells.{is_at, cell_after, cells_after, cells_after_all, moves}
use Rattle.cept_profile.specs.Cells.{shifted}
use Rattle.cept_profile.proofs.PaintedPlaces.{place-is_at}
use Rattle.cept_profile.specs.MovedRows.{MovedRows, moved_rows}

pub cell_after-elsewhere : (p q : Place) (cell : Cell) (was : ℕ → ℕ → Cell) → p ≢ q
    → cell_after (strokes.Put p cell) was q.row q.column ≡ was q.row q.column
cell_after-elsewhere p q cell was other =
    let here : Bool = is_at p q.row q.column in
    cond-false (here && not (was q.row q.column).protected) cell (was q.row q.column)
    (and_left here (not (was q.row q.column).protected) (false_from_ne_true here (λ e. other (place-is_at p q e))))

pub cell_after-written : (p : Place) (cell : Cell) (was : ℕ → ℕ → Cell) → (was p.row p.column).protected ≡ false
    → cell_after (strokes.Put p cell) was p.row p.column ≡ cell
cell_after-written p cell was free =
    cond-true (is_at p p.row p.column && not (was p.row p.column).protected) cell (was p.row p.column)
    (and_from (is_at p p.row p.column) (not (was p.row p.column).protected)
    (and_from (eqb p.row p.row) (eqb p.column p.column) (eq-eqb p.row p.row refl) (eq-eqb p.column p.column refl))
    (not_from_false (was p.row p.column).protected free))

pub cell_after-erased : (row from : ℕ) (was : ℕ → ℕ → Cell) (c : ℕ) → from ≤ c → (was row c).protected ≡ false
    → cell_after (strokes.Erase row from) was row c ≡ blank_cell
cell_after-erased row from was c right free =
    cond-true (eqb row row && leb from c && not (was row c).protected) blank_cell (was row c)
    (and_from (eqb row row && leb from c) (not (was row c).protected)
    (and_from (eqb row row) (leb from c) (eq-eqb row row refl) (le-leb from c right))
    (not_from_false (was row c).protected free))

pub cell_after-not_erased : (row from : ℕ) (was : ℕ → ℕ → Cell) (r c : ℕ) → (r ≢ row) ⊎ (c < from)
    → cell_after (strokes.Erase row from) was r c ≡ was r c
cell_after-not_erased row from was r c out =
    cond-false (eqb r row && leb from c && not (was r c).protected) blank_cell (was r c)
    (and_left (eqb r row && leb from c) (not (was r c).protected) (elim out [
      | inl other ↦ and_left (eqb r row) (leb from c) (false_from_ne_true (eqb r row) (λ e. other (eqb-true r row e)))
      | inr left ↦ and_right (eqb r row) (leb from c) (lt-leb from c left)
    ]))

pub cell_after-protected : (stroke : Stroke) (was : ℕ → ℕ → Cell) (r c : ℕ) → IsTrue (was r c).protected
    → moves stroke r ≡ false → (stroke ≡ strokes.Wipe) ⊎ (cell_after stroke was r c ≡ was r c)
cell_after-protected (strokes.Put p cell) was r c protected out =
    inr (cond-false (is_at p r c && not (was r c).protected) cell (was r c)
    (and_right (is_at p r c) (not (was r c).protected) (not_from_true (was r c).protected protected)))
cell_after-protected strokes.Wipe was r c protected out = inl refl
cell_after-protected (strokes.Erase row from) was r c protected out =
    inr (cond-false (eqb r row && leb from c && not (was r c).protected) blank_cell (was r c)
    (and_right (eqb r row && leb from c) (not (was r c).protected) (not_from_true (was r c).protected protected)))
cell_after-protected (strokes.Shift a b ways.Up) was r c protected out =
    inr (cond-false (leb a r && leb r b) (cond (eqb r b) blank_cell (was (r + 1) c)) (was r c) out)
cell_after-protected (strokes.Shift a b ways.Down) was r c protected out =
    inr (cond-false (leb a r && leb r b) (cond (eqb r a) blank_cell (was (r - 1) c)) (was r c) out)
cell_after-protected (strokes.Carry a b ways.Up) was r c protected out =
    inr (cond-false (leb a r && leb r b) (cond (eqb r b) blank_cell (was (r + 1) c)) (was r c) out)
cell_after-protected (strokes.Carry a b ways.Down) was r c protected out =
    inr (cond-false (leb a r && leb r b) (cond (eqb r a) blank_cell (was (r - 1) c)) (was r c) out)
cell_after-protected (strokes.RowAttr row attr) was r c protected out = inr refl
cell_after-protected (strokes.ScreenAttr attr) was r c protected out = inr refl
cell_after-protected strokes.ScreenClear was r c protected out = inr refl
cell_after-protected (strokes.Colour i paint) was r c protected out = inr refl
cell_after-protected (strokes.Dclut i v) was r c protected out = inr refl
cell_after-protected strokes.ColourDefaults was r c protected out = inr refl
cell_after-protected strokes.DrcsClear was r c protected out = inr refl
cell_after-protected (strokes.Drcs code pattern) was r c protected out = inr refl
cell_after-protected (strokes.Format rows) was r c protected out = inr refl

pub cells_after_all-protected : (cells : List (List Cell)) (xs : List Stroke) (r c : ℕ) → OnScreen r c
    → IsTrue (value_at blank_cell cells r c).protected → list_any (λ x. moves x r) xs ≡ false → Contains xs strokes.Wipe
    ⊎ (value_at blank_cell (cells_after_all cells xs) r c ≡ value_at blank_cell cells r c)
unfolding cells_after_all
cells_after_all-protected cells [] r c on protected out = inr refl
cells_after_all-protected cells (x ∷ xs) r c on protected out =
    let parts = or_parts (moves x r) (list_any (λ y. moves y r) xs) out in
    elim (cell_after-protected x (value_at blank_cell cells) r c protected parts.0) [
      | inl wipe ↦ inl (0, omega arith, wipe)
      | inr stays ↦
          let same : value_at blank_cell (cells_after cells x) r c ≡ value_at blank_cell cells r c =
          value_at-table (cell_after x (value_at blank_cell cells)) blank_cell r c on ∙ stays in
          elim (cells_after_all-protected (cells_after cells x) xs r c on
          (subst (λ cell. IsTrue cell.protected) (sym same) protected) parts.1) [
            | inl wiped ↦ inl (Contains-append_right (x ∷ []) xs strokes.Wipe wiped)
            | inr kept ↦ inr (kept ∙ same)
          ]
    ]

-- ---- shifts

-- what is at row r after these rows moved, by what was at each row, with a blank one for the row that came free
abbrev value_after_move : {X : Type 0} → Option MovedRows → X → (ℕ → X) → ℕ → X
value_after_move None blank was r = was r
value_after_move (Some moved) blank was r = shifted moved.way moved.first moved.last blank was r

-- what a stroke that moves rows leaves at a place is told by the rows that it moves
cell_after-moved : (stroke : Stroke) (moved : MovedRows) (was : ℕ → ℕ → Cell) (r c : ℕ) → moved_rows stroke ≡ Some moved
    → cell_after stroke was r c ≡ shifted moved.way moved.first moved.last blank_cell (λ q. was q c) r
cell_after-moved (strokes.Shift a b way) moved was r c e =
    ap (λ (rows : Option MovedRows). value_after_move rows blank_cell (λ q. was q c) r) e
cell_after-moved (strokes.Carry a b way) moved was r c e =
    ap (λ (rows : Option MovedRows). value_after_move rows blank_cell (λ q. was q c) r) e
cell_after-moved (strokes.Put p cell) moved was r c e = cc
cell_after-moved strokes.Wipe moved was r c e = cc
cell_after-moved (strokes.Erase row from) moved was r c e = cc
cell_after-moved (strokes.RowAttr row attr) moved was r c e = cc
cell_after-moved (strokes.ScreenAttr attr) moved was r c e = cc
cell_after-moved strokes.ScreenClear moved was r c e = cc
cell_after-moved (strokes.Colour i paint) moved was r c e = cc
cell_after-moved (strokes.Dclut i v) moved was r c e = cc
cell_after-moved strokes.ColourDefaults moved was r c e = cc
cell_after-moved strokes.DrcsClear moved was r c e = cc
cell_after-moved (strokes.Drcs code pattern) moved was r c e = cc
cell_after-moved (strokes.Format rows) moved was r c e = cc

-- up: a row takes the place of the one above it, and the last is blank
pub cell_after-up : (stroke : Stroke) (a b : ℕ) (was : ℕ → ℕ → Cell) (r c : ℕ)
    → moved_rows stroke ≡ Some (record { first = a; last = b; way = ways.Up }) → a ≤ r → r < b
    → cell_after stroke was r c ≡ was (r + 1) c
cell_after-up stroke a b was r c moved low high =
    cell_after-moved stroke _ was r c moved ∙ cond-true (leb a r && leb r b) (cond (eqb r b) blank_cell (was (r + 1) c)) (was r c)
    (and_from (leb a r) (leb r b) (le-leb a r low) (le-leb r b (omega (arith, high))))
    ∙ cond-false (eqb r b) blank_cell (was (r + 1) c) (false_from_ne_true (eqb r b) (λ e. let same = eqb-true r b e in
    omega (arith, high, same)))

pub cell_after-up_last : (stroke : Stroke) (a b : ℕ) (was : ℕ → ℕ → Cell) (c : ℕ)
    → moved_rows stroke ≡ Some (record { first = a; last = b; way = ways.Up }) → a ≤ b
    → cell_after stroke was b c ≡ blank_cell
cell_after-up_last stroke a b was c moved low =
    cell_after-moved stroke _ was b c moved ∙ cond-true (leb a b && leb b b) (cond (eqb b b) blank_cell (was (b + 1) c)) (was b c)
    (and_from (leb a b) (leb b b) (le-leb a b low) (le-leb b b (omega arith)))
    ∙ cond-true (eqb b b) blank_cell (was (b + 1) c) (eq-eqb b b refl)

-- down: a row takes the place of the one below it, and the first is blank
pub cell_after-down : (stroke : Stroke) (a b : ℕ) (was : ℕ → ℕ → Cell) (r c : ℕ)
    → moved_rows stroke ≡ Some (record { first = a; last = b; way = ways.Down }) → a < r → r ≤ b
    → cell_after stroke was r c ≡ was (r - 1) c
cell_after-down stroke a b was r c moved low high =
    cell_after-moved stroke _ was r c moved ∙ cond-true (leb a r && leb r b) (cond (eqb r a) blank_cell (was (r - 1) c)) (was r c)
    (and_from (leb a r) (leb r b) (le-leb a r (omega (arith, low))) (le-leb r b high))
    ∙ cond-false (eqb r a) blank_cell (was (r - 1) c) (false_from_ne_true (eqb r a) (λ e. let same = eqb-true r a e in
    omega (arith, low, same)))

pub cell_after-down_first : (stroke : Stroke) (a b : ℕ) (was : ℕ → ℕ → Cell) (c : ℕ)
    → moved_rows stroke ≡ Some (record { first = a; last = b; way = ways.Down }) → a ≤ b
    → cell_after stroke was a c ≡ blank_cell
cell_after-down_first stroke a b was c moved low =
    cell_after-moved stroke _ was a c moved ∙ cond-true (leb a a && leb a b) (cond (eqb a a) blank_cell (was (a - 1) c)) (was a c)
    (and_from (leb a a) (leb a b) (le-leb a a (omega arith)) (le-leb a b low))
    ∙ cond-true (eqb a a) blank_cell (was (a - 1) c) (eq-eqb a a refl)

pub cell_after-wiped : (was : ℕ → ℕ → Cell) (r c : ℕ) → OnScreen r c → cell_after strokes.Wipe was r c ≡ blank_cell
cell_after-wiped was r c on = refl

-- after a wipe that is last
pub cells_after_all-wiped : (cells : List (List Cell)) (xs : List Stroke) (r c : ℕ) → OnScreen r c
    → value_at blank_cell (cells_after_all cells (xs ++ strokes.Wipe ∷ [])) r c ≡ blank_cell
unfolding cells_after_all
cells_after_all-wiped cells [] r c on = value_at-table (λ q k. blank_cell) blank_cell r c on
cells_after_all-wiped cells (x ∷ xs) r c on = cells_after_all-wiped (cells_after cells x) xs r c on
