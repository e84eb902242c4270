-- Strokes that all define something: cells, attributes and names stay, and the rows are due that name what is defined.
use Rattle.std.proofs.Common.{◌≡◌, ℕ, ◌-◌, ◌≤◌, ◌||◌, not, Bool, true, false, List, [], ◌∷◌, Some, length}
use Rattle.std.proofs.Common.{inl, inr, refl, sym, ap, ◌∙◌, arith}
use Rattle.std.specs.List.{AllByRecursion, list_any}
use Rattle.std.proofs.lemmas.Bool.{cases_Bool, not-false, or_from, or_left, or_parts, or_right, true≢false}
use Rattle.cept_codes.specs.declared.attribute.Pen.{Pen}
use Rattle.cept_codes.specs.declared.cell.Cell.{Cell}
use Rattle.cept_codes.specs.declared.look.Look.{Look}
use Rattle.cept_codes.specs.declared.stroke.Stroke.{Stroke}
use Rattle.cept_codes.specs.declared.stroke.Stroke.TheVariants as strokes
use Rattle.cept_codes.specs.Cell.{blank_cell}
use Rattle.cept_codes.specs.Look.{blank_look}
use Rattle.cept_codes.specs.Same.{same_pen}
use Rattle.cept_codes.specs.Stroke.{IsValidStroke}
use Rattle.cept_codes.specs.Table.{entry, list_by_index, value_at, IsTable}
use Rattle.cept_codes.proofs.Laws.{entry-list_by_index, list_by_index-entry, table-value_at, value_at-table}
use Rattle.cept_codes.specs.Attribute.{unset_pen}
use Rattle.cept_profile.specs.Cells.{cells_after, cells_after_all, moves}
use Rattle.cept_profile.specs.Edges.{Edges, edges_of_core, is_last}
use Rattle.cept_codes.specs.declared.look.Part.{Part}
use Rattle.cept_profile.specs.Look.{contents_of_row, look, looks_of, own_size}
use Rattle.cept_profile.specs.MovedRows.{row_before}
use Rattle.cept_profile.specs.Names.{at_origin, contents_at_origin, full_attributes, names_at, names_with, own_attributes_in}
use Rattle.cept_profile.specs.NamesFromAbove.{names_from_above, own_names}
use Rattle.cept_profile.specs.Tiling.{part_at, tiled_table}
use Rattle.cept_profile.specs.PageParts.{part_after_all, row_pen_in, row_pens_after, screen_pen_after}
use Rattle.cept_profile.specs.Reach.{LeadsTo, has_other_attributes, is_reached, is_reached_from, is_redefined, is_written}
use Rattle.cept_profile.specs.Reach.{just_one, writes}
use Rattle.cept_profile.specs.RowsFromAbove.{is_covered_otherwise}
use Rattle.cept_profile.specs.State.{Core, Page, page_after}
use Rattle.cept_profile.specs.Valid.{IsValidPage}
use Rattle.cept_profile.proofs.Laws.{is_reached-by, is_redefined-unreached, is_written-still, look-unreached}
use Rattle.cept_profile.proofs.Laws.{row_before-still}
use Rattle.cept_redraw.specs.inside.Due.{at_rest, is_due, rows_due, OtherRowsStay}
use Rattle.cept_redraw.specs.Kept.{AreLooksOn, core_on}
use Rattle.cept_redraw.specs.Named.{AreNamed, AreNamedOn, NamesOfRows, names_beneath, row_named}
use Rattle.cept_redraw.specs.Resolved.{defines, may_resolve, one_else, rows_resolved_by}
use Rattle.cept_redraw.proofs.AlteredRows.{none_under_one, same_pen-refl}
use Rattle.cept_redraw.proofs.RestingRows.{due-rest, row_from-rest}
use Rattle.cept_redraw.proofs.RowsDue.{rows_due-fewer}
use Rattle.cept_rows.specs.declared.naming.RowNames.{RowNames}
use Rattle.cept_rows.specs.KeptNames.{names_kept}

-- ---- one stroke that defines something

cells_stay : (cells : List (List Cell)) → IsTable cells → (x : Stroke) → defines x ≡ true → cells_after cells x ≡ cells
cells_stay cells is (strokes.Colour i paint) so = table-value_at cells blank_cell is
cells_stay cells is (strokes.Dclut j v) so = table-value_at cells blank_cell is
cells_stay cells is strokes.ColourDefaults so = table-value_at cells blank_cell is
cells_stay cells is (strokes.Drcs code pattern) so = table-value_at cells blank_cell is
cells_stay cells is strokes.DrcsClear so = table-value_at cells blank_cell is
cells_stay cells is (strokes.Put p cell) so = absurd (true≢false (sym so))
cells_stay cells is (strokes.Erase row from) so = absurd (true≢false (sym so))
cells_stay cells is strokes.Wipe so = absurd (true≢false (sym so))
cells_stay cells is (strokes.Shift first last way) so = absurd (true≢false (sym so))
cells_stay cells is (strokes.Carry first last way) so = absurd (true≢false (sym so))
cells_stay cells is (strokes.RowAttr row attr) so = absurd (true≢false (sym so))
cells_stay cells is (strokes.ScreenAttr attr) so = absurd (true≢false (sym so))
cells_stay cells is strokes.ScreenClear so = absurd (true≢false (sym so))
cells_stay cells is (strokes.Format rows) so = absurd (true≢false (sym so))

pens_stay : (pens : List Pen) → length pens ≡ 24 → (x : Stroke) → defines x ≡ true → row_pens_after pens x ≡ pens
pens_stay pens long (strokes.Colour i paint) so = list_by_index-entry unset_pen 1 24 pens long
pens_stay pens long (strokes.Dclut j v) so = list_by_index-entry unset_pen 1 24 pens long
pens_stay pens long strokes.ColourDefaults so = list_by_index-entry unset_pen 1 24 pens long
pens_stay pens long (strokes.Drcs code pattern) so = list_by_index-entry unset_pen 1 24 pens long
pens_stay pens long strokes.DrcsClear so = list_by_index-entry unset_pen 1 24 pens long
pens_stay pens long (strokes.Put p cell) so = absurd (true≢false (sym so))
pens_stay pens long (strokes.Erase row from) so = absurd (true≢false (sym so))
pens_stay pens long strokes.Wipe so = absurd (true≢false (sym so))
pens_stay pens long (strokes.Shift first last way) so = absurd (true≢false (sym so))
pens_stay pens long (strokes.Carry first last way) so = absurd (true≢false (sym so))
pens_stay pens long (strokes.RowAttr row attr) so = absurd (true≢false (sym so))
pens_stay pens long (strokes.ScreenAttr attr) so = absurd (true≢false (sym so))
pens_stay pens long strokes.ScreenClear so = absurd (true≢false (sym so))
pens_stay pens long (strokes.Format rows) so = absurd (true≢false (sym so))

screen_stays : (pen : Pen) (x : Stroke) → defines x ≡ true → screen_pen_after pen x ≡ pen
screen_stays pen (strokes.Colour i paint) so = refl
screen_stays pen (strokes.Dclut j v) so = refl
screen_stays pen strokes.ColourDefaults so = refl
screen_stays pen (strokes.Drcs code pattern) so = refl
screen_stays pen strokes.DrcsClear so = refl
screen_stays pen (strokes.Put p cell) so = refl
screen_stays pen (strokes.Erase row from) so = refl
screen_stays pen strokes.Wipe so = refl
screen_stays pen (strokes.Shift first last way) so = refl
screen_stays pen (strokes.Carry first last way) so = refl
screen_stays pen (strokes.RowAttr row attr) so = refl
screen_stays pen (strokes.ScreenAttr attr) so = absurd (true≢false (sym so))
screen_stays pen strokes.ScreenClear so = absurd (true≢false (sym so))
screen_stays pen (strokes.Format rows) so = refl

-- it neither moves a row nor writes in one
stays_put : (x : Stroke) (r : ℕ) → defines x ≡ true → (moves x r ≡ false) × (writes x r ≡ false)
stays_put (strokes.Colour i paint) r so = (refl, refl)
stays_put (strokes.Dclut j v) r so = (refl, refl)
stays_put strokes.ColourDefaults r so = (refl, refl)
stays_put (strokes.Drcs code pattern) r so = (refl, refl)
stays_put strokes.DrcsClear r so = (refl, refl)
stays_put (strokes.Put p cell) r so = absurd (true≢false (sym so))
stays_put (strokes.Erase row from) r so = absurd (true≢false (sym so))
stays_put strokes.Wipe r so = absurd (true≢false (sym so))
stays_put (strokes.Shift first last way) r so = absurd (true≢false (sym so))
stays_put (strokes.Carry first last way) r so = absurd (true≢false (sym so))
stays_put (strokes.RowAttr row attr) r so = absurd (true≢false (sym so))
stays_put (strokes.ScreenAttr attr) r so = absurd (true≢false (sym so))
stays_put strokes.ScreenClear r so = absurd (true≢false (sym so))
stays_put (strokes.Format rows) r so = absurd (true≢false (sym so))

-- ---- several

pub all_cells_stay : (cells : List (List Cell)) (xs : List Stroke) → IsTable cells → one_else xs ≡ false
    → cells_after_all cells xs ≡ cells
unfolding cells_after_all one_else
all_cells_stay cells [] is all = refl
all_cells_stay cells (x ∷ xs) is all =
    let parts = or_parts (not (defines x)) (one_else xs) all in
    ap (λ (t : List (List Cell)). cells_after_all t xs) (cells_stay cells is x (not-false (defines x) parts.0))
    ∙ all_cells_stay cells xs is parts.1

all_pens_stay : (pens : List Pen) (xs : List Stroke) → length pens ≡ 24 → one_else xs ≡ false
    → part_after_all row_pens_after pens xs ≡ pens
unfolding part_after_all one_else
all_pens_stay pens [] long all = refl
all_pens_stay pens (x ∷ xs) long all =
    let parts = or_parts (not (defines x)) (one_else xs) all in
    ap (λ (t : List Pen). part_after_all row_pens_after t xs) (pens_stay pens long x (not-false (defines x) parts.0))
    ∙ all_pens_stay pens xs long parts.1

screen_stays_all : (pen : Pen) (xs : List Stroke) → one_else xs ≡ false → part_after_all screen_pen_after pen xs ≡ pen
unfolding part_after_all one_else
screen_stays_all pen [] all = refl
screen_stays_all pen (x ∷ xs) all =
    let parts = or_parts (not (defines x)) (one_else xs) all in
    ap (λ (t : Pen). part_after_all screen_pen_after t xs) (screen_stays pen x (not-false (defines x) parts.0))
    ∙ screen_stays_all pen xs parts.1

none_moves : (xs : List Stroke) (r : ℕ) → one_else xs ≡ false → list_any (λ x. moves x r) xs ≡ false
unfolding one_else
none_moves [] r all = refl
none_moves (x ∷ xs) r all =
    let parts = or_parts (not (defines x)) (one_else xs) all in
    or_from (moves x r) (list_any (λ y. moves y r) xs) (stays_put x r (not-false (defines x) parts.0)).0
    (none_moves xs r parts.1)

none_writes : (xs : List Stroke) (r : ℕ) → one_else xs ≡ false → list_any (λ x. writes x r) xs ≡ false
unfolding one_else
none_writes [] r all = refl
none_writes (x ∷ xs) r all =
    let parts = or_parts (not (defines x)) (one_else xs) all in
    or_from (writes x r) (list_any (λ y. writes y r) xs) (stays_put x r (not-false (defines x) parts.0)).1
    (none_writes xs r parts.1)

-- ---- names

-- two cores with the same cells, attributes and edges name the same
names_at-kept : (before after : Core) → after.page.cells ≡ before.page.cells
    → after.page.row_pens ≡ before.page.row_pens → after.page.screen_pen ≡ before.page.screen_pen
    → edges_of_core after ≡ edges_of_core before → (r c : ℕ) → names_at after r c ≡ names_at before r c
unfolding full_attributes contents_at_origin
names_at-kept before after ec ep es ee r c = λ i.
    let k : Core =
    record after { page = record after.page { cells = ec i; row_pens = ep i; screen_pen = es i } } in
    let part : Part = part_at (tiled_table (own_size k) (is_last (ee i))) r c in
    names_with (at_origin (own_attributes_in k) r c part) (at_origin (contents_of_row k) r c part)

-- strokes that all define something lead from one core to another with the same edges
pub record AreDefined (before after : Core) (xs : List Stroke) : Type 0 where
  pub leads : LeadsTo before after xs
  pub all : one_else xs ≡ false
  pub edges : edges_of_core after ≡ edges_of_core before

pub cells_same : {before after : Core} {xs : List Stroke} → AreDefined before after xs
    → after.page.cells ≡ before.page.cells
cells_same {before} {after} {xs} is =
    ap (λ (p : Page). p.cells) is.leads.page ∙ all_cells_stay before.page.cells xs is.leads.valid.table is.all

pub pens_same : {before after : Core} {xs : List Stroke} → AreDefined before after xs
    → after.page.row_pens ≡ before.page.row_pens
pens_same {before} {after} {xs} is =
    ap (λ (p : Page). p.row_pens) is.leads.page ∙ all_pens_stay before.page.row_pens xs is.leads.valid.rows is.all

screen_same : {before after : Core} {xs : List Stroke} → AreDefined before after xs
    → after.page.screen_pen ≡ before.page.screen_pen
screen_same {before} {after} {xs} is =
    ap (λ (p : Page). p.screen_pen) is.leads.page ∙ screen_stays_all before.page.screen_pen xs is.all

pub came_defined : {before after : Core} {xs : List Stroke} → AreDefined before after xs → (r : ℕ)
    → row_before xs r ≡ Some r
came_defined {before} {after} {xs} is r = row_before-still xs r (none_moves xs r is.all)

written_defined : {before after : Core} {xs : List Stroke} → AreDefined before after xs → (r : ℕ)
    → is_written xs r ≡ false
written_defined {before} {after} {xs} is r =
    is_written-still xs r (none_moves xs r is.all) ∙ none_writes xs r is.all

others_defined : {before after : Core} {xs : List Stroke} → AreDefined before after xs → (r : ℕ)
    → has_other_attributes before r after r ≡ false
unfolding has_other_attributes
others_defined {before} {after} {xs} is r =
    let pen : not (same_pen (row_pen_in before.page.row_pens r) (row_pen_in after.page.row_pens r)) ≡ false =
    same_pen-refl (row_pen_in before.page.row_pens r) (row_pen_in after.page.row_pens r)
    (ap (λ (l : List Pen). row_pen_in l r) (sym (pens_same is))) in
    let screen : not (same_pen before.page.screen_pen after.page.screen_pen) ≡ false =
    same_pen-refl before.page.screen_pen after.page.screen_pen (sym (screen_same is)) in
    let last : just_one (is_last (edges_of_core before) r) (is_last (edges_of_core after) r) ≡ false =
    ap (λ (e : Edges). just_one (is_last (edges_of_core before) r) (is_last e r)) is.edges
    ∙ none_under_one (edges_of_core before) r in
    λ i. pen i || screen i || last i

-- and what a row names beneath another
beneath-kept : (above : RowNames) (before after : Core) → after.page.cells ≡ before.page.cells
    → after.page.row_pens ≡ before.page.row_pens → after.page.screen_pen ≡ before.page.screen_pen
    → edges_of_core after ≡ edges_of_core before → (r c : ℕ)
    → names_beneath above after r c ≡ names_beneath above before r c
beneath-kept above before after ec ep es ee r c = λ i.
    let k : Core =
    record after { page = record after.page { cells = ec i; row_pens = ep i; screen_pen = es i } } in
    names_from_above (names_kept above) (part_at (tiled_table (own_size k) (is_last (ee i))) r) (own_names k r) c

-- so the names that are known of one are known of the other
pub AreNamed-alike : (names : NamesOfRows) (before after : Core) → after.page.cells ≡ before.page.cells
    → after.page.row_pens ≡ before.page.row_pens → after.page.screen_pen ≡ before.page.screen_pen
    → edges_of_core after ≡ edges_of_core before → AreNamed names before → AreNamed names after
AreNamed-alike names before after ec ep es ee are = record {
  rows = are.rows;
  flags = are.flags;
  known = λ r c on so. are.known r c on so ∙ sym (beneath-kept (row_named names (r - 1)) before after ec ep es ee r c);
}

-- a row that isn't covered otherwise names after them what it named before
redefined_same : {before after : Core} {xs : List Stroke} → AreDefined before after xs → (r : ℕ) → 1 ≤ r → r ≤ 24
    → is_covered_otherwise (looks_of before) r (looks_of after) r ≡ false
    → is_redefined after xs r ≡ is_redefined before xs r
redefined_same {before} {after} {xs} is r low high covered =
    is_redefined-unreached before after xs r r is.leads low high (came_defined is r) (written_defined is r)
    (others_defined is r) covered
    (λ c l h covers. names_at-kept before after (cells_same is) (pens_same is) (screen_same is) is.edges (r - 1) c)

-- so it is reached where it is redefined or covered otherwise
pub reached_defined : {before after : Core} {xs : List Stroke} → AreDefined before after xs → (r : ℕ) → 1 ≤ r → r ≤ 24
    → is_reached before after xs r
    ≡ (is_redefined before xs r || is_covered_otherwise (looks_of before) r (looks_of after) r)
reached_defined {before} {after} {xs} is r low high =
    let covered : Bool = is_covered_otherwise (looks_of before) r (looks_of after) r in
    is_reached-by before after xs r ∙ ap (λ found. is_reached_from before after xs found r) (came_defined is r)
    ∙ (λ i. (written_defined is r i || others_defined is r i || is_redefined after xs r) || covered)
    ∙ elim (cases_Bool covered) [
      | inl so ↦ or_right (is_redefined after xs r) covered so ∙ sym (or_right (is_redefined before xs r) covered so)
      | inr none ↦ ap (λ b. b || covered) (redefined_same is r low high none)
    ]

-- ---- the walk

-- whether a row is due
due_defined : {before after : Core} {xs : List Stroke} → AreDefined before after xs → (flags : List Bool)
    → flags ≡ list_by_index 1 24 (is_redefined before xs) → (r : ℕ) → 1 ≤ r → r ≤ 24
    → is_due flags at_rest (looks_of before) (looks_of after) r ≡ is_reached before after xs r
due_defined {before} {after} {xs} is flags ef r low high =
    let flag : entry false 1 flags r ≡ is_redefined before xs r =
    ap (λ (l : List Bool). entry false 1 l r) ef
    ∙ entry-list_by_index false 1 24 (is_redefined before xs) r low (omega (arith, high)) in
    due-rest flags (looks_of before) (looks_of after) r low high
    ∙ ap (λ b. b || is_covered_otherwise (looks_of before) r (looks_of after) r) flag ∙ sym (reached_defined is r low high)

pub defined_cores : (p q : Page) (xs : List Stroke) (k m : Core) (edges : Edges) → IsValidPage p
    → AllByRecursion IsValidStroke xs → q ≡ page_after p xs → one_else xs ≡ false → edges_of_core k ≡ edges
    → edges_of_core m ≡ edges → AreDefined (core_on k p) (core_on m q) xs
defined_cores p q xs k m edges valid each drawn all ek em = record {
  leads = record { valid = valid; each = each; page = drawn };
  all = all;
  edges = em ∙ sym ek;
}

pub OtherRowsStay-defined : (p q : Page) (xs : List Stroke) (edges : Edges) (was : List (List Look)) (flags : List Bool)
    → IsValidPage p → AllByRecursion IsValidStroke xs → AreLooksOn was p edges
    → q ≡ page_after p xs → one_else xs ≡ false
    → ((k : Core) → edges_of_core k ≡ edges → flags ≡ list_by_index 1 24 (is_redefined (core_on k p) xs))
    → (k : Core) → edges_of_core k ≡ edges → OtherRowsStay flags at_rest was (core_on k q)
OtherRowsStay-defined p q xs edges was flags valid each looks drawn all redefined k same r n c on none came =
    let old : Core = core_on k p in
    let new : Core = core_on k q in
    let e : was ≡ looks_of old = looks k same in
    let is : AreDefined old new xs = defined_cores p q xs k k edges valid each drawn all same same in
    let stays : Some n ≡ Some r = sym came ∙ row_from-rest r on.from_top on.to_bottom in
    let here : n ≡ r = cc in
    let out : is_reached old new xs r ≡ false =
    sym (due_defined is flags (redefined k same) r on.from_top on.to_bottom)
    ∙ ap (λ (g : List (List Look)). is_due flags at_rest g (looks_of new) r) (sym e) ∙ none in
    ap (λ m. value_at blank_look was m c) here
    ∙ ap (λ (t : List (List Look)). value_at blank_look t r c) e ∙ value_at-table (look old) blank_look r c on
    ∙ sym (look-unreached old new xs r r c is.leads on (came_defined is r) out)

pub rows_due-defined : (p q : Page) (xs : List Stroke) (edges : Edges) (was now : List (List Look)) (flags : List Bool)
    → IsValidPage p → AllByRecursion IsValidStroke xs → AreLooksOn was p edges
    → AreLooksOn now q edges → q ≡ page_after p xs → one_else xs ≡ false
    → ((k : Core) → edges_of_core k ≡ edges → flags ≡ list_by_index 1 24 (is_redefined (core_on k p) xs))
    → (k m : Core) → edges_of_core k ≡ edges → edges_of_core m ≡ edges
    → rows_due flags at_rest was now ≤ rows_resolved_by (core_on k p) (core_on m q) xs
unfolding may_resolve
rows_due-defined p q xs edges was now flags valid each looks after drawn all redefined k m ek em =
    let old : Core = core_on k p in
    let new : Core = core_on m q in
    let is : AreDefined old new xs = defined_cores p q xs k m edges valid each drawn all ek em in
    let same : rows_due flags at_rest was now ≡ rows_due flags at_rest (looks_of old) (looks_of new) =
    (λ i. rows_due flags at_rest (looks k ek i) (after m em i)) in
    omega (
      arith,
      same,
      rows_due-fewer old new xs flags at_rest (λ r low high due.
          or_left (is_reached old new xs r) _ (sym (due_defined is flags (redefined k ek) r low high) ∙ due)),
    )

-- the names stay
pub AreNamedOn-defined : (p q : Page) (xs : List Stroke) (edges : Edges) (names : NamesOfRows) → IsValidPage p
    → AllByRecursion IsValidStroke xs → q ≡ page_after p xs → one_else xs ≡ false → AreNamedOn names p edges
    → AreNamedOn names q edges
AreNamedOn-defined p q xs edges names valid each drawn all named k same =
    let is : AreDefined (core_on k p) (core_on k q) xs = defined_cores p q xs k k edges valid each drawn all same same in
    AreNamed-alike names (core_on k p) (core_on k q) (cells_same is) (pens_same is) (screen_same is) is.edges (named k same)
