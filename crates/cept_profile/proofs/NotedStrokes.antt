-- The old values noted before a stroke: after it they unwind to the page to which they unwound before.
use Rattle.std.proofs.Common.{◌≡◌, ℕ, ◌+◌, ◌-◌, ◌≤◌, ◌<◌, ◌&&◌, ◌==◌, Bool, true, false, not, cond, nat_le, Option, Some, None, List}
use Rattle.std.proofs.Common.{[], ◌∷◌, unwrap_or, refl, sym, ap, ◌∙◌, arith}
use Rattle.std.specs.Prelude.{is_some}
use Rattle.std.proofs.lemmas.Bool.Decides.{nat_tests}
use Rattle.cept_codes.specs.declared.attribute.Pen.{Pen}
use Rattle.cept_codes.specs.declared.cell.Cell.{Cell}
use Rattle.cept_codes.specs.declared.command.Up.{Up}
use Rattle.cept_codes.specs.declared.command.Up.TheVariants as ways
use Rattle.cept_codes.specs.declared.command.Command.{Command}
use Rattle.cept_codes.specs.declared.look.Paint.{Paint}
use Rattle.cept_codes.specs.declared.look.Pattern.{Pattern}
use Rattle.cept_codes.specs.declared.stroke.Stroke.{Stroke}
use Rattle.cept_codes.specs.declared.stroke.Stroke.TheVariants as strokes
use Rattle.cept_codes.specs.Attribute.{unset_pen}
use Rattle.cept_codes.specs.Cell.{blank_cell}
use Rattle.cept_codes.specs.Look.{black_paint}
use Rattle.cept_codes.specs.Place.{OnScreen}
use Rattle.cept_codes.specs.Table.{entry, list_by_index, table, value_at}
use Rattle.cept_codes.proofs.Laws.{entry-list_by_index, value_at-table}
use Rattle.cept_profile.specs.Cells.{cell_after, cells_after, cells_after_all, is_at, moves, shifted}
use Rattle.cept_profile.specs.Control.{ControlState, control_after}
use Rattle.cept_profile.specs.NotedStrokes.{with_cells_of, with_dclut_of, with_paints_of, with_patterns_of, with_row_pens_of}
use Rattle.cept_profile.specs.NotedStrokes.{with_command, with_stroke, with_strokes}
use Rattle.cept_profile.specs.OldValues.{DifferWhereNoted, OldValues, first_noted, noted_where, old_cell}
use Rattle.cept_profile.specs.OldValues.{old_dclut, old_paint, old_pattern, old_row_pen, page_unwound, unwound, with_control}
use Rattle.cept_profile.specs.PageParts.{dclut_after, dclut_in, dclut_list_after, paint_after, paint_in, paints_after}
use Rattle.cept_profile.specs.PageParts.{pattern_after, pattern_in, patterns_after, row_pen_after, row_pen_in}
use Rattle.cept_profile.specs.PageParts.{part_after_all, row_pens_after, screen_pen_after}
use Rattle.cept_profile.proofs.CarriedRows.{pen_of_row, row_pen_after-from}
use Rattle.cept_profile.specs.Pens.{pen_with}
use Rattle.cept_profile.specs.MovedRows.{moved_rows}
use Rattle.cept_profile.proofs.RowsMoved.{moves_none}
use Rattle.cept_profile.specs.State.{Page, State, page_after, state_after}
use Rattle.cept_profile.specs.Strokes.{strokes_of}
use Rattle.cept_profile.proofs.OldValues.{page_unwound-differ, page_unwound-with_cells, page_unwound-with_dclut}
use Rattle.cept_profile.proofs.OldValues.{page_unwound-with_paints, page_unwound-with_patterns}
use Rattle.cept_profile.proofs.OldValues.{page_unwound-with_row_pens, page_unwound-with_screen_pen}

-- ---- noting leaves the page to which they unwind

pub page_unwound-with_cells_of : (p : Page) (these : ℕ → ℕ → Bool) (old : OldValues)
    → page_unwound p (with_cells_of p these old) ≡ page_unwound p old
page_unwound-with_cells_of p these old =
    page_unwound-with_cells p old these (value_at blank_cell p.cells) (λ r c on is. refl)

pub page_unwound-with_row_pens_of : (p : Page) (these : ℕ → Bool) (old : OldValues)
    → page_unwound p (with_row_pens_of p these old) ≡ page_unwound p old
page_unwound-with_row_pens_of p these old =
    page_unwound-with_row_pens p old these (row_pen_in p.row_pens) (λ r low high is. refl)

pub page_unwound-with_paints_of : (p : Page) (these : ℕ → Bool) (old : OldValues)
    → page_unwound p (with_paints_of p these old) ≡ page_unwound p old
page_unwound-with_paints_of p these old =
    page_unwound-with_paints p old these (paint_in p.paints) (λ i below is. refl)

pub page_unwound-with_dclut_of : (p : Page) (these : ℕ → Bool) (old : OldValues)
    → page_unwound p (with_dclut_of p these old) ≡ page_unwound p old
page_unwound-with_dclut_of p these old =
    page_unwound-with_dclut p old these (dclut_in p.dclut) (λ i below is. refl)

pub page_unwound-with_patterns_of : (p : Page) (these : ℕ → Bool) (old : OldValues)
    → page_unwound p (with_patterns_of p these old) ≡ page_unwound p old
page_unwound-with_patterns_of p these old =
    page_unwound-with_patterns p old these (pattern_in p.patterns) (λ d low high is. refl)

pub page_unwound-with_stroke : (p : Page) (stroke : Stroke) (old : OldValues)
    → page_unwound p (with_stroke p stroke old) ≡ page_unwound p old
page_unwound-with_stroke p (strokes.Put place cell) old = page_unwound-with_cells_of p (is_at place) old
page_unwound-with_stroke p (strokes.Erase row from) old =
    page_unwound-with_cells_of p (λ r c. row == r && nat_le from c) old
page_unwound-with_stroke p strokes.Wipe old =
    page_unwound-with_row_pens_of p (λ r. true) (with_cells_of p (λ r c. true) old)
    ∙ page_unwound-with_cells_of p (λ r c. true) old
page_unwound-with_stroke p (strokes.Shift first last way) old =
    page_unwound-with_cells_of p (λ r c. moves (strokes.Shift first last way) r) old
page_unwound-with_stroke p (strokes.Carry first last way) old =
    page_unwound-with_row_pens_of p (moves (strokes.Carry first last way))
    (with_cells_of p (λ r c. moves (strokes.Carry first last way) r) old)
    ∙ page_unwound-with_cells_of p (λ r c. moves (strokes.Carry first last way) r) old
page_unwound-with_stroke p (strokes.RowAttr row attr) old = page_unwound-with_row_pens_of p (λ r. row == r) old
page_unwound-with_stroke p (strokes.ScreenAttr attr) old = page_unwound-with_screen_pen p old
page_unwound-with_stroke p strokes.ScreenClear old = page_unwound-with_screen_pen p old
page_unwound-with_stroke p (strokes.Colour i paint) old = page_unwound-with_paints_of p (λ j. i == j) old
page_unwound-with_stroke p (strokes.Dclut i v) old = page_unwound-with_dclut_of p (λ j. i == j) old
page_unwound-with_stroke p strokes.ColourDefaults old =
    page_unwound-with_dclut_of p (λ i. true) (with_paints_of p (λ i. true) old)
    ∙ page_unwound-with_paints_of p (λ i. true) old
page_unwound-with_stroke p strokes.DrcsClear old = page_unwound-with_patterns_of p (λ d. true) old
page_unwound-with_stroke p (strokes.Drcs code pattern) old = page_unwound-with_patterns_of p (λ d. code == d) old
page_unwound-with_stroke p (strokes.Format rows) old = refl

-- ---- what isn't noted isn't changed

-- a location of which none is noted afterwards isn't one of those
not_here : {X : Type 0} (here : Bool) (value : X) (old : Option X) → is_some (noted_where here value old) ≡ false
    → here ≡ false
not_here false value old none = refl
not_here true value None none = absurd (cc none)
not_here true value (Some first) none = absurd (cc none)

-- a cell isn't noted by this
cell_not_noted : (here : ℕ → ℕ → Bool) (value : ℕ → ℕ → Cell) (old : OldValues) (r c : ℕ) → OnScreen r c
    → is_some (value_at None (table (λ q k. noted_where (here q k) (value q k) (old_cell old q k))) r c) ≡ false
    → here r c ≡ false
cell_not_noted here value old r c on none =
    not_here (here r c) (value r c) (old_cell old r c)
    (ap (λ (o : Option Cell). is_some o)
    (sym (value_at-table (λ q k. noted_where (here q k) (value q k) (old_cell old q k)) None r c on)) ∙ none)

-- an entry of a list isn't
entry_not_noted : {X : Type 0} (from count : ℕ) (here : ℕ → Bool) (value : ℕ → X) (old : ℕ → Option X) (k : ℕ)
    → from ≤ k → k < from + count
    → is_some (entry None from (list_by_index from count (λ j. noted_where (here j) (value j) (old j))) k) ≡ false
    → here k ≡ false
entry_not_noted {X} from count here value old k low high none =
    not_here (here k) (value k) (old k)
    (ap (λ (o : Option X). is_some o)
    (sym (entry-list_by_index None from count (λ j. noted_where (here j) (value j) (old j)) k low high)) ∙ none)

-- where these rows don't move
unshifted : {X : Type 0} (way : Up) (first last : ℕ) (blank : X) (was : ℕ → X) (r : ℕ)
    → (nat_le first r && nat_le r last) ≡ false → shifted way first last blank was r ≡ was r
unshifted ways.Up first last blank was r still =
    ap (λ b. cond b (cond (r == last) blank (was (r + 1))) (was r)) still
unshifted ways.Down first last blank was r still =
    ap (λ b. cond b (cond (r == first) blank (was (r - 1))) (was r)) still

-- ---- a cell

-- a condition that doesn't hold
not_so : {X : Type 0} (b : Bool) (x y : X) → b ≡ false → cond b x y ≡ y
not_so b x y unset = ap (λ k. cond k x y) unset

not_both : (a b : Bool) → a ≡ false → (a && b) ≡ false
not_both false b unset = refl
not_both true b unset = absurd (cc unset)

cell_stays : (p : Page) (stroke : Stroke) (old : OldValues) (r c : ℕ) → OnScreen r c
    → is_some (old_cell (with_stroke p stroke old) r c) ≡ false
    → cell_after stroke (value_at blank_cell p.cells) r c ≡ value_at blank_cell p.cells r c
cell_stays p (strokes.Put place cell) old r c on none =
    let was : ℕ → ℕ → Cell = value_at blank_cell p.cells in
    not_so (is_at place r c && not (was r c).protected) cell (was r c)
    (not_both (is_at place r c) (not (was r c).protected)
    (cell_not_noted (is_at place) was old r c on none))
cell_stays p (strokes.Erase row from) old r c on none =
    let was : ℕ → ℕ → Cell = value_at blank_cell p.cells in
    let here : Bool = r == row && nat_le from c in
    let away : (row == r && nat_le from c) ≡ false =
    cell_not_noted (λ q k. row == q && nat_le from k) was old r c on none in
    not_so (here && not (was r c).protected) blank_cell (was r c)
    (not_both here (not (was r c).protected) (grind (arith, nat_tests)))
cell_stays p strokes.Wipe old r c on none =
    absurd (cc (cell_not_noted (λ _ _. true) (value_at blank_cell p.cells) old r c on none))
cell_stays p (strokes.Shift first last way) old r c on none =
    unshifted way first last blank_cell (λ q. value_at blank_cell p.cells q c) r
    (cell_not_noted (λ q k. moves (strokes.Shift first last way) q) (value_at blank_cell p.cells) old r c on none)
cell_stays p (strokes.Carry first last way) old r c on none =
    unshifted way first last blank_cell (λ q. value_at blank_cell p.cells q c) r
    (cell_not_noted (λ q k. moves (strokes.Carry first last way) q) (value_at blank_cell p.cells) old r c on none)
cell_stays p (strokes.RowAttr row attr) old r c on none = refl
cell_stays p (strokes.ScreenAttr attr) old r c on none = refl
cell_stays p strokes.ScreenClear old r c on none = refl
cell_stays p (strokes.Colour i paint) old r c on none = refl
cell_stays p (strokes.Dclut i v) old r c on none = refl
cell_stays p strokes.ColourDefaults old r c on none = refl
cell_stays p strokes.DrcsClear old r c on none = refl
cell_stays p (strokes.Drcs code pattern) old r c on none = refl
cell_stays p (strokes.Format rows) old r c on none = refl

-- ---- the other parts

row_pen_stays : (p : Page) (stroke : Stroke) (old : OldValues) (r : ℕ) → 1 ≤ r → r ≤ 24
    → is_some (old_row_pen (with_stroke p stroke old) r) ≡ false
    → row_pen_after stroke (row_pen_in p.row_pens) r ≡ row_pen_in p.row_pens r
row_pen_stays p (strokes.RowAttr row attr) old r low high none =
    not_so (row == r) (pen_with attr (row_pen_in p.row_pens r)) (row_pen_in p.row_pens r)
    (entry_not_noted 1 24 (λ q. row == q) (row_pen_in p.row_pens) (old_row_pen old) r low (omega (arith, high)) none)
row_pen_stays p strokes.Wipe old r low high none =
    absurd (cc (entry_not_noted 1 24 (λ q. true) (row_pen_in p.row_pens) (old_row_pen old) r low (omega (arith, high))
    none))
row_pen_stays p (strokes.Carry first last way) old r low high none =
    row_pen_after-from first last r way (row_pen_in p.row_pens)
    ∙ ap (λ (row : Option ℕ). pen_of_row row (row_pen_in p.row_pens))
    (moves_none (moved_rows (strokes.Carry first last way)) r
    (entry_not_noted 1 24 (moves (strokes.Carry first last way)) (row_pen_in p.row_pens) (old_row_pen old) r low
    (omega (arith, high)) none))
row_pen_stays p (strokes.Put place cell) old r low high none = refl
row_pen_stays p (strokes.Erase row from) old r low high none = refl
row_pen_stays p (strokes.Shift first last way) old r low high none = refl
row_pen_stays p (strokes.ScreenAttr attr) old r low high none = refl
row_pen_stays p strokes.ScreenClear old r low high none = refl
row_pen_stays p (strokes.Colour i paint) old r low high none = refl
row_pen_stays p (strokes.Dclut i v) old r low high none = refl
row_pen_stays p strokes.ColourDefaults old r low high none = refl
row_pen_stays p strokes.DrcsClear old r low high none = refl
row_pen_stays p (strokes.Drcs code pattern) old r low high none = refl
row_pen_stays p (strokes.Format rows) old r low high none = refl

-- one that was noted isn't unnoted
first_is_some : {X : Type 0} (old : Option X) (x : X) → is_some (first_noted old x) ≡ true
first_is_some None x = refl
first_is_some (Some first) x = refl

screen_pen_stays : (p : Page) (stroke : Stroke) (old : OldValues)
    → is_some (with_stroke p stroke old).screen_pen ≡ false
    → screen_pen_after p.screen_pen stroke ≡ p.screen_pen
screen_pen_stays p (strokes.ScreenAttr attr) old none =
    absurd (cc (sym (first_is_some old.screen_pen p.screen_pen) ∙ none))
screen_pen_stays p strokes.ScreenClear old none =
    absurd (cc (sym (first_is_some old.screen_pen p.screen_pen) ∙ none))
screen_pen_stays p _ old none = refl

paint_stays : (p : Page) (stroke : Stroke) (old : OldValues) (i : ℕ) → i < 32
    → is_some (old_paint (with_stroke p stroke old) i) ≡ false
    → paint_after stroke (paint_in p.paints) i ≡ paint_in p.paints i
paint_stays p (strokes.Colour j paint) old i below none =
    not_so (j == i) paint (paint_in p.paints i)
    (entry_not_noted 0 32 (λ k. j == k) (paint_in p.paints) (old_paint old) i (omega arith) (omega (arith, below)) none)
paint_stays p strokes.ColourDefaults old i below none =
    absurd (cc (entry_not_noted 0 32 (λ k. true) (paint_in p.paints) (old_paint old) i (omega arith)
    (omega (arith, below)) none))
paint_stays p _ old i below none = refl

dclut_stays : (p : Page) (stroke : Stroke) (old : OldValues) (i : ℕ) → i < 4
    → is_some (old_dclut (with_stroke p stroke old) i) ≡ false
    → dclut_after stroke (dclut_in p.dclut) i ≡ dclut_in p.dclut i
dclut_stays p (strokes.Dclut j v) old i below none =
    not_so (j == i) v (dclut_in p.dclut i)
    (entry_not_noted 0 4 (λ k. j == k) (dclut_in p.dclut) (old_dclut old) i (omega arith) (omega (arith, below)) none)
dclut_stays p strokes.ColourDefaults old i below none =
    absurd (cc (entry_not_noted 0 4 (λ k. true) (dclut_in p.dclut) (old_dclut old) i (omega arith)
    (omega (arith, below)) none))
dclut_stays p _ old i below none = refl

pattern_stays : (p : Page) (stroke : Stroke) (old : OldValues) (d : ℕ) → 0x21 ≤ d → d ≤ 0x7E
    → is_some (old_pattern (with_stroke p stroke old) d) ≡ false
    → pattern_after stroke (pattern_in p.patterns) d ≡ pattern_in p.patterns d
pattern_stays p (strokes.Drcs code pattern) old d low high none =
    not_so (code == d) (Some pattern) (pattern_in p.patterns d)
    (entry_not_noted 0x21 94 (λ k. code == k) (pattern_in p.patterns) (old_pattern old) d low (omega (arith, high))
    none)
pattern_stays p strokes.DrcsClear old d low high none =
    absurd (cc (entry_not_noted 0x21 94 (λ k. true) (pattern_in p.patterns) (old_pattern old) d low
    (omega (arith, high)) none))
pattern_stays p _ old d low high none = refl

-- ---- a page before and after a stroke

-- a page of which each part is as a stroke leaves it
pub record IsAfter (p : Page) (stroke : Stroke) (q : Page) : Type 0 where
  pub cells : q.cells ≡ cells_after p.cells stroke
  pub row_pens : q.row_pens ≡ row_pens_after p.row_pens stroke
  pub screen_pen : q.screen_pen ≡ screen_pen_after p.screen_pen stroke
  pub paints : q.paints ≡ paints_after p.paints stroke
  pub dclut : q.dclut ≡ dclut_list_after p.dclut stroke
  pub patterns : q.patterns ≡ patterns_after p.patterns stroke

DifferWhereNoted-stroke : (p : Page) (stroke : Stroke) (q : Page) (old : OldValues) → IsAfter p stroke q
    → DifferWhereNoted (with_stroke p stroke old) q p
DifferWhereNoted-stroke p stroke q old is = record {
  cells = λ r c on none.
      ap (λ (t : List (List Cell)). value_at blank_cell t r c) is.cells
      ∙ value_at-table (cell_after stroke (value_at blank_cell p.cells)) blank_cell r c on
      ∙ cell_stays p stroke old r c on none;
  row_pens = λ r low high none.
      ap (λ (l : List Pen). row_pen_in l r) is.row_pens
      ∙ entry-list_by_index unset_pen 1 24 (row_pen_after stroke (row_pen_in p.row_pens)) r low (omega (arith, high))
      ∙ row_pen_stays p stroke old r low high none;
  screen_pen = λ none. is.screen_pen ∙ screen_pen_stays p stroke old none;
  paints = λ i below none.
      ap (λ (l : List Paint). paint_in l i) is.paints
      ∙ entry-list_by_index black_paint 0 32 (paint_after stroke (paint_in p.paints)) i (omega arith)
      (omega (arith, below))
      ∙ paint_stays p stroke old i below none;
  dclut = λ i below none.
      ap (λ (l : List ℕ). dclut_in l i) is.dclut
      ∙ entry-list_by_index 0 0 4 (dclut_after stroke (dclut_in p.dclut)) i (omega arith) (omega (arith, below))
      ∙ dclut_stays p stroke old i below none;
  patterns = λ d low high none.
      ap (λ (l : List (Option Pattern)). pattern_in l d) is.patterns
      ∙ entry-list_by_index None 0x21 94 (pattern_after stroke (pattern_in p.patterns)) d low (omega (arith, high))
      ∙ pattern_stays p stroke old d low high none;
}

-- after a stroke the values noted before it unwind to the page to which the others unwound
pub page_unwound-stroke : (p : Page) (stroke : Stroke) (q : Page) (old : OldValues) → IsAfter p stroke q
    → page_unwound q (with_stroke p stroke old) ≡ page_unwound p old
page_unwound-stroke p stroke q old is =
    page_unwound-differ (with_stroke p stroke old) q p (DifferWhereNoted-stroke p stroke q old is)
    ∙ page_unwound-with_stroke p stroke old

-- ---- several strokes

IsAfter-one : (p : Page) (stroke : Stroke) → IsAfter p stroke (page_after p (stroke ∷ []))
unfolding cells_after_all part_after_all
IsAfter-one p stroke = assumption

page_after-first : (p : Page) (stroke : Stroke) (more : List Stroke)
    → page_after (page_after p (stroke ∷ [])) more ≡ page_after p (stroke ∷ more)
unfolding cells_after_all part_after_all
page_after-first p stroke more = refl

page_after-none : (p : Page) → page_after p [] ≡ p
unfolding cells_after_all part_after_all
page_after-none p = refl

pub page_unwound-with_one : (p : Page) (stroke : Stroke) (old : OldValues)
    → page_unwound (page_after p (stroke ∷ [])) (with_stroke p stroke old) ≡ page_unwound p old
page_unwound-with_one p stroke old =
    page_unwound-stroke p stroke (page_after p (stroke ∷ [])) old (IsAfter-one p stroke)

pub page_unwound-with_strokes : (strokes : List Stroke) (p : Page) (old : OldValues)
    → page_unwound (page_after p strokes) (with_strokes p strokes old) ≡ page_unwound p old
unfolding with_strokes
page_unwound-with_strokes [] p old = ap (λ (q : Page). page_unwound q old) (page_after-none p)
page_unwound-with_strokes (stroke ∷ more) p old =
    ap (λ (q : Page). page_unwound q (with_strokes p (stroke ∷ more) old)) (sym (page_after-first p stroke more))
    ∙ page_unwound-with_strokes more (page_after p (stroke ∷ [])) (with_stroke p stroke old)
    ∙ page_unwound-with_one p stroke old

-- ---- a command

control-with_stroke : (p : Page) (stroke : Stroke) (old : OldValues)
    → (with_stroke p stroke old).control ≡ old.control
control-with_stroke p (strokes.Put place cell) old = refl
control-with_stroke p (strokes.Erase row from) old = refl
control-with_stroke p strokes.Wipe old = refl
control-with_stroke p (strokes.Shift first last way) old = refl
control-with_stroke p (strokes.Carry first last way) old = refl
control-with_stroke p (strokes.RowAttr row attr) old = refl
control-with_stroke p (strokes.ScreenAttr attr) old = refl
control-with_stroke p strokes.ScreenClear old = refl
control-with_stroke p (strokes.Colour i paint) old = refl
control-with_stroke p (strokes.Dclut i v) old = refl
control-with_stroke p strokes.ColourDefaults old = refl
control-with_stroke p strokes.DrcsClear old = refl
control-with_stroke p (strokes.Drcs code pattern) old = refl
control-with_stroke p (strokes.Format rows) old = refl

control-with_strokes : (strokes : List Stroke) (p : Page) (old : OldValues)
    → (with_strokes p strokes old).control ≡ old.control
unfolding with_strokes
control-with_strokes [] p old = refl
control-with_strokes (stroke ∷ more) p old =
    control-with_strokes more (page_after p (stroke ∷ [])) (with_stroke p stroke old)
    ∙ control-with_stroke p stroke old

-- what is noted comes back, whatever stands there
first_back : {X : Type 0} (old : Option X) (x y : X) → unwrap_or (first_noted old x) y ≡ unwrap_or old x
first_back None x y = refl
first_back (Some first) x y = refl

pub unwound-with_command : (s : State) (command : Command) (old : OldValues)
    → unwound (state_after s command) (with_command s command old) ≡ unwound s old
unwound-with_command s command old =
    let strokes : List Stroke = strokes_of s.control command in
    let noted : OldValues = with_control s.control old in
    ap (λ (p : Page). record (unwound s old) {
      page = p;
      control = unwrap_or (with_command s command old).control
          (control_after s.control command);
    }) (page_unwound-with_strokes strokes s.page noted)
    ∙ ap (λ (c : ControlState). record (unwound s old) { control = c })
    (ap (λ (o : Option ControlState). unwrap_or o (control_after s.control command))
    (control-with_strokes strokes s.page noted)
    ∙ first_back old.control s.control (control_after s.control command))
