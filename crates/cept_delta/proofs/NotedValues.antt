-- Old values noted in their places, one at a time and one after the other, and the flags beside them.
use Rattle.std.proofs.Common.{◌≡◌, ℕ, ◌+◌, ◌-◌, ◌≤◌, ◌<◌, ◌==◌, Bool, true, false, cond, Option}
use Rattle.std.proofs.Common.{None, List, [], get_or, set, length, refl, sym, ap, ◌∙◌, arith}
use Rattle.std.proofs.lemmas.Bool.{and_parts, eqb-true}
use Rattle.std.proofs.lemmas.List.{get_or_default}
use Rattle.cept_codes.specs.declared.attribute.Pen.{Pen}
use Rattle.cept_codes.specs.declared.cell.Cell.{Cell}
use Rattle.cept_codes.specs.declared.look.Paint.{Paint}
use Rattle.cept_codes.specs.declared.look.Pattern.{Pattern}
use Rattle.cept_codes.specs.Place.{OnScreen, Place}
use Rattle.cept_codes.specs.Table.{IsTable, entry, list_by_index, table, value_at}
use Rattle.cept_codes.proofs.Laws.{entry_from, same_indexed, same_table, set-entry, set_is}
use Rattle.cept_profile.specs.Cells.{is_at}
use Rattle.cept_profile.specs.OldValues.{OldValues, first_noted, noted_where, with_cells, with_dclut, with_paints}
use Rattle.cept_profile.specs.OldValues.{with_patterns, with_row_pens}
use Rattle.cept_delta.specs.Delta.{HasPlaces}

-- ---- one noted

-- where it is this one, what is noted there is what is noted of this one
noted_here : {X : Type 0} (here : Bool) (value : X) (there now : Option X) → (here ≡ true → there ≡ now)
    → cond here (first_noted there value) now ≡ noted_where here value now
noted_here true value there now same = ap (λ o. first_noted o value) (same refl)
noted_here false value there now same = refl

-- a cell noted at a place
pub cell_noted : {t : List (List (Option Cell))} → IsTable t → (p : Place) (cell : Cell) (i j : ℕ)
    (row e : List (Option Cell)) (x d new : Option Cell) → OnScreen p.row p.column → i + 1 ≡ p.row → j + 1 ≡ p.column
    → row ≡ get_or t i e → x ≡ get_or row j d → new ≡ first_noted x cell
    → set t i (set row j new) ≡ table (λ r c. noted_where (is_at p r c) cell (value_at None t r c))
cell_noted {t} is p cell i j row e x d new on er ec read at made =
    let last : i < length t = omega (arith, on, is.rows) in
    let read_in : row ≡ get_or t i [] = read ∙ get_or_default t i e [] last in
    let long : length row ≡ 40 = ap length read_in ∙ is.columns i [] (omega (arith, on)) in
    let index : i ≡ p.row - 1 = omega arith in
    let column : j ≡ p.column - 1 = omega arith in
    let there : x ≡ value_at None t p.row p.column =
    at ∙ get_or_default row j d None (omega (arith, on, long))
    ∙ ap (λ (l : List (Option Cell)). get_or l j None) (read_in ∙ ap (λ k. get_or t k []) index)
    ∙ ap (λ k. get_or (get_or t (p.row - 1) []) k None) column in
    ap (λ (o : Option Cell). set t i (set row j o)) (made ∙ ap (λ (o : Option Cell). first_noted o cell) there)
    ∙ set_is t None (first_noted (value_at None t p.row p.column) cell) i j p.row p.column row e is on er ec read
    ∙ same_table
    (λ r c. cond (is_at p r c) (first_noted (value_at None t p.row p.column) cell) (value_at None t r c))
    (λ r c. noted_where (is_at p r c) cell (value_at None t r c))
    (λ r c at_place. noted_here (is_at p r c) cell (value_at None t p.row p.column) (value_at None t r c) (λ here.
    let parts = and_parts (p.row == r) (p.column == c) here in
    ap (λ q. value_at None t q p.column) (eqb-true p.row r parts.0)
    ∙ ap (λ k. value_at None t r k) (eqb-true p.column c parts.1)))

-- an entry noted in a list
pub entry_noted : {X : Type 0} (from count i k : ℕ) (list : List (Option X)) (value : X) (x d new : Option X)
    → length list ≡ count → i < count → from + i ≡ k → x ≡ get_or list i d → new ≡ first_noted x value
    → set list i new ≡ list_by_index from count (λ j. noted_where (k == j) value (entry None from list j))
entry_noted {X} from count i k list value x d new long below e at made =
    let back : k - from ≡ i = omega arith in
    let there : x ≡ entry None from list k =
    at ∙ get_or_default list i d None (omega (arith, below, long)) ∙ ap (λ n. get_or list n None) (sym back)
    ∙ sym (entry_from None from list k (omega arith)) in
    ap (λ (o : Option X). set list i o) (made ∙ ap (λ (o : Option X). first_noted o value) there)
    ∙ set-entry None (first_noted (entry None from list k) value) from count i k list long below e
    ∙ same_indexed from count
    (λ j. cond (k == j) (first_noted (entry None from list k) value) (entry None from list j))
    (λ j. noted_where (k == j) value (entry None from list j))
    (λ j low high. noted_here (k == j) value (entry None from list k) (entry None from list j) (λ here.
    ap (λ n. entry None from list n) (eqb-true k j here)))

-- ---- one noted, part by part: `v` are the values as the code holds them, `now` as the contract sees them

pub cell_of_values : {v now : OldValues} → HasPlaces v → v ≡ now → (p : Place) (cell : Cell) (i j : ℕ)
    (row e : List (Option Cell)) (x d new : Option Cell) → OnScreen p.row p.column → i + 1 ≡ p.row → j + 1 ≡ p.column
    → row ≡ get_or v.cells i e → x ≡ get_or row j d → new ≡ first_noted x cell
    → record v { cells = set v.cells i (set row j new) } ≡ with_cells (is_at p) (λ _ _. cell) now
cell_of_values {v} {now} has view p cell i j row e x d new on er ec read at made =
    ap (λ (t : List (List (Option Cell))). record v { cells = t })
    (cell_noted has.cells p cell i j row e x d new on er ec read at made)
    ∙ ap (with_cells (is_at p) (λ _ _. cell)) view

pub row_pen_of_values : {v now : OldValues} → HasPlaces v → v ≡ now → (i k : ℕ) (pen : Pen) (x d new : Option Pen)
    → 1 ≤ k → k ≤ 24 → i + 1 ≡ k → x ≡ get_or v.row_pens i d → new ≡ first_noted x pen
    → record v { row_pens = set v.row_pens i new } ≡ with_row_pens (λ r. k == r) (λ _. pen) now
row_pen_of_values {v} {now} has view i k pen x d new low high e at made =
    ap (λ (l : List (Option Pen)). record v { row_pens = l })
    (entry_noted 1 24 i k v.row_pens pen x d new has.row_pens (omega (arith, high)) (omega arith) at made)
    ∙ ap (with_row_pens (λ r. k == r) (λ _. pen)) view

pub paint_of_values : {v now : OldValues} → HasPlaces v → v ≡ now → (i k : ℕ) (paint : Paint) (x d new : Option Paint)
    → k < 32 → i ≡ k → x ≡ get_or v.paints i d → new ≡ first_noted x paint
    → record v { paints = set v.paints i new } ≡ with_paints (λ j. k == j) (λ _. paint) now
paint_of_values {v} {now} has view i k paint x d new below e at made =
    ap (λ (l : List (Option Paint)). record v { paints = l })
    (entry_noted 0 32 i k v.paints paint x d new has.paints (omega (arith, below)) (omega arith) at made)
    ∙ ap (with_paints (λ j. k == j) (λ _. paint)) view

pub dclut_of_values : {v now : OldValues} → HasPlaces v → v ≡ now → (i k value : ℕ) (x d new : Option ℕ)
    → k < 4 → i ≡ k → x ≡ get_or v.dclut i d → new ≡ first_noted x value
    → record v { dclut = set v.dclut i new } ≡ with_dclut (λ j. k == j) (λ _. value) now
dclut_of_values {v} {now} has view i k value x d new below e at made =
    ap (λ (l : List (Option ℕ)). record v { dclut = l })
    (entry_noted 0 4 i k v.dclut value x d new has.dclut (omega (arith, below)) (omega arith) at made)
    ∙ ap (with_dclut (λ j. k == j) (λ _. value)) view

pub pattern_of_values : {v now : OldValues} → HasPlaces v → v ≡ now → (i k : ℕ) (pattern : Option Pattern)
    (x d new : Option (Option Pattern)) → 0x21 ≤ k → k ≤ 0x7E → i + 0x21 ≡ k → x ≡ get_or v.patterns i d
    → new ≡ first_noted x pattern
    → record v { patterns = set v.patterns i new } ≡ with_patterns (λ j. k == j) (λ _. pattern) now
pattern_of_values {v} {now} has view i k pattern x d new low high e at made =
    ap (λ (l : List (Option (Option Pattern))). record v { patterns = l })
    (entry_noted 0x21 94 i k v.patterns pattern x d new has.patterns (omega (arith, high)) (omega arith) at made)
    ∙ ap (with_patterns (λ j. k == j) (λ _. pattern)) view
