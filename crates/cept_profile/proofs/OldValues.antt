-- States unwound by old values: noting what stands there, and changing what is noted, leave the state to which the old
-- values unwind.
use Rattle.std.proofs.Common.{◌≡◌, ℕ, ◌+◌, ◌≤◌, ◌<◌, Bool, true, false, Option, Some, None, List, length}
use Rattle.std.proofs.Common.{unwrap_or, refl, ap, ◌∙◌, arith}
use Rattle.std.specs.Prelude.{is_some}
use Rattle.cept_codes.specs.declared.attribute.Pen.{Pen}
use Rattle.cept_codes.specs.declared.cell.Cell.{Cell}
use Rattle.cept_codes.specs.declared.look.Paint.{Paint}
use Rattle.cept_codes.specs.declared.look.Pattern.{Pattern}
use Rattle.cept_codes.specs.Attribute.{unset_pen}
use Rattle.cept_codes.specs.Cell.{blank_cell}
use Rattle.cept_codes.specs.Look.{black_paint}
use Rattle.cept_codes.specs.Place.{OnScreen}
use Rattle.cept_codes.specs.Table.{IsTable, entry, list_by_index, table, value_at}
use Rattle.cept_codes.proofs.Laws.{entry-list_by_index, list_by_index-entry, same_indexed, same_table, table-value_at}
use Rattle.cept_codes.proofs.Laws.{value_at-table}
use Rattle.cept_profile.specs.Control.{ControlState}
use Rattle.cept_profile.specs.OldValues.{DifferWhereNoted, OldValues, first_noted, no_old_values, noted_where, old_cell}
use Rattle.cept_profile.specs.OldValues.{page_unwound, unwound}
use Rattle.cept_profile.specs.OldValues.{with_cells, with_control, with_dclut, with_paints, with_patterns, with_row_pens}
use Rattle.cept_profile.specs.OldValues.{with_screen_pen}
use Rattle.cept_profile.specs.PageParts.{dclut_in, paint_in, pattern_in, row_pen_in}
use Rattle.cept_profile.specs.State.{Page, State}
use Rattle.cept_profile.specs.Valid.{IsValidPage, IsValidState}

-- ---- one location

-- noting what stands there leaves what comes back
noted_back : {X : Type 0} (old : Option X) (x : X) → unwrap_or (first_noted old x) x ≡ unwrap_or old x
noted_back None x = refl
noted_back (Some first) x = refl

noted_where_back : {X : Type 0} (here : Bool) (value x : X) (old : Option X) → (here ≡ true → value ≡ x)
    → unwrap_or (noted_where here value old) x ≡ unwrap_or old x
noted_where_back true value x old same = ap (λ v. unwrap_or (first_noted old v) x) (same refl) ∙ noted_back old x
noted_where_back false value x old same = refl

-- what comes back is the same of both, where they are the same or a value is noted
same_back : {X : Type 0} (old : Option X) (x y : X) → (is_some old ≡ false → x ≡ y) → unwrap_or old x ≡ unwrap_or old y
same_back None x y same = same refl
same_back (Some first) x y same = refl

-- a value that is noted stands
stands : {X : Type 0} (here : Bool) (value : X) (old : Option X) → (here ≡ true → is_some old ≡ true)
    → noted_where here value old ≡ old
stands false value old noted = refl
stands true value (Some first) noted = refl
stands true value None noted = absurd (cc (noted refl))

-- ---- a list of locations, by their index

list_noted_back : {X : Type 0} (d : X) (from count : ℕ) (these : ℕ → Bool) (value : ℕ → X) (olds : List (Option X))
    (xs : List X) → ((k : ℕ) → from ≤ k → k < from + count → these k ≡ true → value k ≡ entry d from xs k)
    → list_by_index from count (λ k. unwrap_or (entry None from
    (list_by_index from count (λ j. noted_where (these j) (value j) (entry None from olds j))) k) (entry d from xs k))
    ≡ list_by_index from count (λ k. unwrap_or (entry None from olds k) (entry d from xs k))
list_noted_back {X} d from count these value olds xs same =
    let noted : ℕ → Option X = λ j. noted_where (these j) (value j) (entry None from olds j) in
    same_indexed from count
    (λ k. unwrap_or (entry None from (list_by_index from count noted) k) (entry d from xs k))
    (λ k. unwrap_or (entry None from olds k) (entry d from xs k))
    (λ k low high.
    ap (λ (o : Option X). unwrap_or o (entry d from xs k)) (entry-list_by_index None from count noted k low high)
    ∙ noted_where_back (these k) (value k) (entry d from xs k) (entry None from olds k) (same k low high))

list_same_back : {X : Type 0} (d : X) (from count : ℕ) (olds : List (Option X)) (xs ys : List X)
    → ((k : ℕ) → from ≤ k → k < from + count → is_some (entry None from olds k) ≡ false
    → entry d from xs k ≡ entry d from ys k)
    → list_by_index from count (λ k. unwrap_or (entry None from olds k) (entry d from xs k))
    ≡ list_by_index from count (λ k. unwrap_or (entry None from olds k) (entry d from ys k))
list_same_back d from count olds xs ys same =
    same_indexed from count (λ k. unwrap_or (entry None from olds k) (entry d from xs k))
    (λ k. unwrap_or (entry None from olds k) (entry d from ys k))
    (λ k low high. same_back (entry None from olds k) (entry d from xs k) (entry d from ys k) (same k low high))

list_none_back : {X : Type 0} (d : X) (from count : ℕ) (xs : List X) → length xs ≡ count
    → list_by_index from count (λ k. unwrap_or (entry None from (list_by_index {X = Option X} from count (λ _. None)) k)
    (entry d from xs k)) ≡ xs
list_none_back {X} d from count xs long =
    same_indexed from count
    (λ k. unwrap_or (entry None from (list_by_index {X = Option X} from count (λ _. None)) k) (entry d from xs k))
    (entry d from xs)
    (λ k low high.
    ap (λ (o : Option X). unwrap_or o (entry d from xs k)) (entry-list_by_index None from count (λ _. None) k low high))
    ∙ list_by_index-entry d from count xs long

-- ---- noting what stands there

pub page_unwound-with_cells : (p : Page) (old : OldValues) (these : ℕ → ℕ → Bool) (cell : ℕ → ℕ → Cell)
    → ((r c : ℕ) → OnScreen r c → these r c ≡ true → cell r c ≡ value_at blank_cell p.cells r c)
    → page_unwound p (with_cells these cell old) ≡ page_unwound p old
page_unwound-with_cells p old these cell same =
    let noted : ℕ → ℕ → Option Cell = λ r c. noted_where (these r c) (cell r c) (old_cell old r c) in
    ap (λ (t : List (List Cell)). record (page_unwound p old) { cells = t })
    (same_table (λ r c. unwrap_or (value_at None (table noted) r c) (value_at blank_cell p.cells r c))
    (λ r c. unwrap_or (old_cell old r c) (value_at blank_cell p.cells r c))
    (λ r c on.
    ap (λ (o : Option Cell). unwrap_or o (value_at blank_cell p.cells r c)) (value_at-table noted None r c on)
    ∙ noted_where_back (these r c) (cell r c) (value_at blank_cell p.cells r c) (old_cell old r c) (same r c on)))

pub page_unwound-with_row_pens : (p : Page) (old : OldValues) (these : ℕ → Bool) (pen : ℕ → Pen)
    → ((r : ℕ) → 1 ≤ r → r ≤ 24 → these r ≡ true → pen r ≡ row_pen_in p.row_pens r)
    → page_unwound p (with_row_pens these pen old) ≡ page_unwound p old
page_unwound-with_row_pens p old these pen same =
    ap (λ (l : List Pen). record (page_unwound p old) { row_pens = l })
    (list_noted_back unset_pen 1 24 these pen old.row_pens p.row_pens
    (λ r low high. same r low (omega arith)))

pub page_unwound-with_screen_pen : (p : Page) (old : OldValues)
    → page_unwound p (with_screen_pen p.screen_pen old) ≡ page_unwound p old
page_unwound-with_screen_pen p old =
    ap (λ (pen : Pen). record (page_unwound p old) { screen_pen = pen }) (noted_back old.screen_pen p.screen_pen)

pub page_unwound-with_paints : (p : Page) (old : OldValues) (these : ℕ → Bool) (paint : ℕ → Paint)
    → ((i : ℕ) → i < 32 → these i ≡ true → paint i ≡ paint_in p.paints i)
    → page_unwound p (with_paints these paint old) ≡ page_unwound p old
page_unwound-with_paints p old these paint same =
    ap (λ (l : List Paint). record (page_unwound p old) { paints = l })
    (list_noted_back black_paint 0 32 these paint old.paints p.paints (λ i low high. same i (omega arith)))

pub page_unwound-with_dclut : (p : Page) (old : OldValues) (these : ℕ → Bool) (colour : ℕ → ℕ)
    → ((i : ℕ) → i < 4 → these i ≡ true → colour i ≡ dclut_in p.dclut i)
    → page_unwound p (with_dclut these colour old) ≡ page_unwound p old
page_unwound-with_dclut p old these colour same =
    ap (λ (l : List ℕ). record (page_unwound p old) { dclut = l })
    (list_noted_back 0 0 4 these colour old.dclut p.dclut (λ i low high. same i (omega arith)))

pub page_unwound-with_patterns : (p : Page) (old : OldValues) (these : ℕ → Bool) (pattern : ℕ → Option Pattern)
    → ((d : ℕ) → 0x21 ≤ d → d ≤ 0x7E → these d ≡ true → pattern d ≡ pattern_in p.patterns d)
    → page_unwound p (with_patterns these pattern old) ≡ page_unwound p old
page_unwound-with_patterns p old these pattern same =
    ap (λ (l : List (Option Pattern)). record (page_unwound p old) { patterns = l })
    (list_noted_back None 0x21 94 these pattern old.patterns p.patterns
    (λ d low high. same d low (omega arith)))

pub unwound-with_control : (s : State) (old : OldValues) → unwound s (with_control s.control old) ≡ unwound s old
unwound-with_control s old =
    ap (λ (c : ControlState). record (unwound s old) { control = c }) (noted_back old.control s.control)

-- ---- changing what is noted

pub page_unwound-differ : (old : OldValues) (p q : Page) → DifferWhereNoted old p q
    → page_unwound p old ≡ page_unwound q old
page_unwound-differ old p q d =
    let a : Page = page_unwound p old in
    let b : Page = page_unwound q old in
    let cells : a.cells ≡ b.cells =
    same_table (λ r c. unwrap_or (old_cell old r c) (value_at blank_cell p.cells r c))
    (λ r c. unwrap_or (old_cell old r c) (value_at blank_cell q.cells r c))
    (λ r c on. same_back (old_cell old r c) (value_at blank_cell p.cells r c) (value_at blank_cell q.cells r c)
    (d.cells r c on)) in
    let row_pens : a.row_pens ≡ b.row_pens =
    list_same_back unset_pen 1 24 old.row_pens p.row_pens q.row_pens
    (λ r low high. d.row_pens r low (omega arith)) in
    let screen_pen : a.screen_pen ≡ b.screen_pen =
    same_back old.screen_pen p.screen_pen q.screen_pen d.screen_pen in
    let paints : a.paints ≡ b.paints =
    list_same_back black_paint 0 32 old.paints p.paints q.paints (λ i low high. d.paints i (omega arith)) in
    let dclut : a.dclut ≡ b.dclut =
    list_same_back 0 0 4 old.dclut p.dclut q.dclut (λ i low high. d.dclut i (omega arith)) in
    let patterns : a.patterns ≡ b.patterns =
    list_same_back None 0x21 94 old.patterns p.patterns q.patterns
    (λ k low high. d.patterns k low (omega arith)) in
    ap (λ (x : List (List Cell)). record a { cells = x }) cells
    ∙ ap (λ (x : List Pen). record a { cells = b.cells; row_pens = x }) row_pens
    ∙ ap (λ (x : Pen). record a { cells = b.cells; row_pens = b.row_pens; screen_pen = x }) screen_pen
    ∙ ap (λ (x : List Paint). record b { paints = x; dclut = a.dclut; patterns = a.patterns }) paints
    ∙ ap (λ (x : List ℕ). record b { dclut = x; patterns = a.patterns }) dclut
    ∙ ap (λ (x : List (Option Pattern)). record b { patterns = x }) patterns

-- ---- nothing noted

pub page_unwound-none : (p : Page) → IsValidPage p → page_unwound p no_old_values ≡ p
page_unwound-none p is =
    let a : Page = page_unwound p no_old_values in
    let cells : a.cells ≡ p.cells =
    same_table (λ r c. unwrap_or (value_at None (table (λ _ _. None)) r c) (value_at blank_cell p.cells r c))
    (value_at blank_cell p.cells)
    (λ r c on. ap (λ (o : Option Cell). unwrap_or o (value_at blank_cell p.cells r c))
    (value_at-table (λ _ _. None) None r c on))
    ∙ table-value_at p.cells blank_cell is.table in
    let row_pens : a.row_pens ≡ p.row_pens = list_none_back unset_pen 1 24 p.row_pens is.rows in
    let paints : a.paints ≡ p.paints = list_none_back black_paint 0 32 p.paints is.colours in
    let dclut : a.dclut ≡ p.dclut = list_none_back 0 0 4 p.dclut is.names in
    let patterns : a.patterns ≡ p.patterns = list_none_back None 0x21 94 p.patterns is.codes in
    ap (λ (x : List (List Cell)). record a { cells = x }) cells
    ∙ ap (λ (x : List Pen). record a { cells = p.cells; row_pens = x }) row_pens
    ∙ ap (λ (x : List Paint). record p { paints = x; dclut = a.dclut; patterns = a.patterns }) paints
    ∙ ap (λ (x : List ℕ). record p { dclut = x; patterns = a.patterns }) dclut
    ∙ ap (λ (x : List (Option Pattern)). record p { patterns = x }) patterns

pub unwound-none : (s : State) → IsValidState s → unwound s no_old_values ≡ s
unwound-none s is = ap (λ (p : Page). record s { page = p }) (page_unwound-none s.page is.page)

-- control alone noted
pub unwound-begun : (s : State) → IsValidState s → unwound s (with_control s.control no_old_values) ≡ s
unwound-begun s is = unwound-with_control s no_old_values ∙ unwound-none s is

-- ---- noting again

pub with_cells-again : (old : OldValues) (these : ℕ → ℕ → Bool) (cell : ℕ → ℕ → Cell) → IsTable old.cells
    → ((r c : ℕ) → OnScreen r c → these r c ≡ true → is_some (old_cell old r c) ≡ true)
    → with_cells these cell old ≡ old
with_cells-again old these cell is noted =
    ap (λ (t : List (List (Option Cell))). record old { cells = t })
    (same_table (λ r c. noted_where (these r c) (cell r c) (old_cell old r c)) (value_at None old.cells)
    (λ r c on. stands (these r c) (cell r c) (old_cell old r c) (noted r c on))
    ∙ table-value_at old.cells None is)
