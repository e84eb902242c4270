-- Places that strokes define anew: in a row that stands alone each other place looks as before. It looks as it does on a
-- page of which every cell is the same, whose rows name no more than it does itself.
use Rattle.std.proofs.Common.{◌≡◌, ℕ, ◌+◌, ◌-◌, ◌<◌, ◌≤◌, ◌==◌, ◌||◌, Bool, true, false, List, [], ◌∷◌}
use Rattle.std.proofs.Common.{Option, Some, None, zero, suc, refl, sym, ap, subst, ◌∙◌, arith}
use Rattle.std.specs.Prelude.{is_some, nat_lt}
use Rattle.std.specs.List.{AllByRecursion, list_any, range_with_len}
use Rattle.std.proofs.lemmas.Bool.{and_right, cond-true, not-false, or_from, or_parts, true≢false}
use Rattle.std.proofs.lemmas.Bool.Decides.{nat_tests}
use Rattle.std.proofs.lemmas.List.Elements.{All-from_get_or}
use Rattle.std.proofs.lemmas.List.Folds.{list_any_none}
use Rattle.std.proofs.lemmas.List.FromFn.{get_or-range_with_len, length-range_with_len}
use Rattle.cept_codes.specs.declared.attribute.Full.{Full}
use Rattle.cept_codes.specs.declared.attribute.Pen.{Pen}
use Rattle.cept_codes.specs.declared.cell.Cell.{Cell}
use Rattle.cept_codes.specs.declared.cell.What.{What}
use Rattle.cept_codes.specs.declared.cell.What.TheVariants as whats
use Rattle.cept_codes.specs.declared.look.Look.{Look}
use Rattle.cept_codes.specs.declared.look.Pattern.{Pattern}
use Rattle.cept_codes.specs.declared.stroke.Stroke.{Stroke}
use Rattle.cept_codes.specs.declared.stroke.Stroke.TheVariants as strokes
use Rattle.cept_codes.specs.Attribute.{unset_pen}
use Rattle.cept_codes.specs.Cell.{IsValidCell, blank_cell}
use Rattle.cept_codes.specs.Look.{blank_look}
use Rattle.cept_codes.specs.Place.{OnScreen, Place}
use Rattle.cept_codes.specs.Stroke.{IsValidStroke}
use Rattle.cept_codes.specs.Table.{table, value_at}
use Rattle.cept_codes.proofs.Laws.{IsTable-table, value_at-table}
use Rattle.cept_profile.specs.Attributes.{cascade}
use Rattle.cept_profile.specs.Definitions.{Definitions}
use Rattle.cept_profile.specs.Edges.{Edges, edges_of_core}
use Rattle.cept_profile.specs.Look.{attributes_of, contents_of_row, is_double_set, look, look_of, looks_of, part_of, parts_of}
use Rattle.cept_profile.specs.Look.{sets_double_size}
use Rattle.cept_profile.specs.Names.{Names, is_code, names_at, names_dclut, names_entry, names_pattern, names_some_pattern}
use Rattle.cept_profile.specs.Names.{names_with, pattern_shown, shows_ink_of, shows_two_planes, some_place}
use Rattle.cept_profile.specs.NamesFromAbove.{names_in_row}
use Rattle.cept_profile.specs.PageParts.{row_pen_in}
use Rattle.cept_profile.specs.Reach.{is_redefined, redefines}
use Rattle.cept_profile.specs.RowsFromAbove.{is_covered_otherwise, look_seen, looks_in}
use Rattle.cept_profile.specs.Serial.{is_marker, own_attributes_of}
use Rattle.cept_profile.specs.State.{Core, Page, definitions_of, page_after}
use Rattle.cept_profile.specs.Tiling.{covers_below, part_at}
use Rattle.cept_profile.specs.Valid.{IsValidPage}
use Rattle.cept_profile.proofs.Laws.{in_plain, look-unreached, names_at-itself, part_of-seen, serial_attributes-suc, unmarked}
use Rattle.cept_page.specs.Parts.{cell_at}
use Rattle.cept_page.specs.MarkedRows.{HasNone, IsSingleRow, StandsAlone}
use Rattle.cept_redraw.specs.Kept.{AreEdges, AreLooksOn, core_on}
use Rattle.cept_redraw.specs.inside.Kept.{look_alone}
use Rattle.cept_redraw.specs.Named.{AreNamedOn, NamesOfRows, row_named}
use Rattle.cept_redraw.specs.inside.Named.{AreAllKnown}
use Rattle.cept_redraw.specs.inside.Redefined.{OtherPlacesStay, redefines_place}
use Rattle.cept_redraw.specs.Resolved.{one_else}
use Rattle.cept_redraw.proofs.AloneRows.{covers_nothing-in, look-alone}
use Rattle.cept_redraw.proofs.NamesKept.{all_named}
use Rattle.cept_redraw.proofs.MarkedDifferences.{uncovered}
use Rattle.cept_redraw.proofs.RedefinedRows.{AreDefined, all_cells_stay, cells_same, came_defined, pens_same, reached_defined}
use Rattle.cept_redraw.proofs.RedefinedRows.{defined_cores}
use Rattle.cept_redraw.proofs.RowsOfLooks.{covered_otherwise-above, look_seen-at}
use Rattle.cept_rows.specs.KeptNames.{names_kept}
use Rattle.cept_rows.specs.Planes.{has_inks}

-- ---- the names of a place in a row that stands alone

own-plain : (pen screen : Pen) (w : What)
    → own_attributes_of w pen screen (cascade unset_pen pen screen) ≡ attributes_of pen screen w
own-plain pen screen (whats.Parallel g p) = refl
own-plain pen screen w = refl

-- the names of what stands in a cell by itself
abbrev names_alone : Pen → Pen → What → Names
names_alone pen screen w = names_with (attributes_of pen screen w) w

names_in_row-unmarked : (row : ℕ → What) (pen screen : Pen) (c : ℕ) → 1 ≤ c
    → ((d : ℕ) → 1 ≤ d → d ≤ c → is_marker (row d) ≡ false)
    → names_in_row row pen screen c ≡ names_alone pen screen (row c)
unfolding names_in_row
names_in_row-unmarked row pen screen zero low plain = absurd (omega arith)
names_in_row-unmarked row pen screen (suc c) low plain =
    ap (λ (f : Full). names_with (own_attributes_of (row (suc c)) pen screen f) (row (suc c)))
    (serial_attributes-suc row pen screen c
    ∙ in_plain (row (suc c)) _ (plain (suc c) low (omega arith))
    ∙ unmarked row pen screen c (λ d from to. plain d from (omega arith)))
    ∙ ap (λ (f : Full). names_with f (row (suc c))) (own-plain pen screen (row (suc c)))

-- a look of a cell by itself shows the whole of it
whole_alone : (p : Page) (r c : ℕ) → ((part_of (look_alone p (record { row = r; column = c }))).dy ≡ 0)
    × ((part_of (look_alone p (record { row = r; column = c }))).dx ≡ 0)
unfolding look_of
whole_alone p r c = (refl, refl)

names_at-alone : (p : Page) (k : Core) (r c : ℕ) → IsValidPage p → OnScreen r c → StandsAlone p r
    → names_at (core_on k p) r c
    ≡ names_alone (row_pen_in p.row_pens r) p.screen_pen (cell_at p (record { row = r; column = c })).what
names_at-alone p k r c valid on alone =
    let g : List (List Look) = looks_of (core_on k p) in
    let part : part_at (parts_of (core_on k p)) r c ≡ part_of (look_alone p (record { row = r; column = c })) =
    sym (part_of-seen (core_on k p) r c on.to_bottom)
    ∙ ap (λ l. part_of l) (look_seen-at g r c (IsTable-table (look (core_on k p))) on
    ∙ value_at-table (look (core_on k p)) blank_look r c on ∙ look-alone p k r c valid on alone) in
    names_at-itself (core_on k p) r c on (ap (λ q. q.dy) part ∙ (whole_alone p r c).0)
    (ap (λ q. q.dx) part ∙ (whole_alone p r c).1)
    ∙ names_in_row-unmarked (contents_of_row (core_on k p) r) (row_pen_in p.row_pens r) p.screen_pen c on.from_left
    (λ d low high.
    let there : OnScreen r d =
    record { from_top = on.from_top; to_bottom = on.to_bottom; from_left = low; to_right = omega (arith, on, high) } in
    alone.unmarked d there)

-- ---- a page of which every cell is the same

abbrev of_one : Page → Cell → Page
of_one p cell = record p { cells = table (λ _ _. cell) }

everywhere : (cell : Cell) (r c : ℕ) → OnScreen r c → value_at blank_cell (table (λ _ _. cell)) r c ≡ cell
everywhere cell r c on = value_at-table (λ _ _. cell) blank_cell r c on

IsValidPage-of_one : (p : Page) (r c : ℕ) → IsValidPage p → OnScreen r c
    → IsValidPage (of_one p (cell_at p (record { row = r; column = c })))
IsValidPage-of_one p r c v on =
    let cell : Cell = cell_at p (record { row = r; column = c }) in
    record {
      rows = v.rows;
      row_pens = v.row_pens;
      screen_pen = v.screen_pen;
      colours = v.colours;
      paints = v.paints;
      names = v.names;
      dclut = v.dclut;
      codes = v.codes;
      patterns = v.patterns;
      table = IsTable-table (λ _ _. cell);
      cells = λ q d there. subst (λ (x : Cell). IsValidCell x) (sym (everywhere cell q d there)) (v.cells r c on);
      free = λ q d there blank. ap (λ (x : Cell). x.protected) (everywhere cell q d there)
          ∙ v.free r c on (sym (ap (λ (x : Cell). x.what) (everywhere cell q d there)) ∙ blank);
    }

HasNone-of_one : (is_such : What → Bool) (p : Page) (r c q : ℕ) → OnScreen r c → HasNone is_such p.cells r
    → HasNone is_such (table (λ _ _. cell_at p (record { row = r; column = c }))) q
HasNone-of_one is_such p r c q on none d there =
    ap (λ (x : Cell). is_such x.what) (everywhere (cell_at p (record { row = r; column = c })) q d there) ∙ none c on

StandsAlone-of_one : (p : Page) (r c : ℕ) → OnScreen r c → StandsAlone p r
    → StandsAlone (of_one p (cell_at p (record { row = r; column = c }))) r
StandsAlone-of_one p r c on alone = record {
  unmarked = HasNone-of_one is_marker p r c r on alone.unmarked;
  single = record {
    cells = HasNone-of_one sets_double_size p r c r on alone.single.cells;
    pen = alone.single.pen;
  };
  single_above = λ low. record {
    cells = HasNone-of_one sets_double_size p r c (r - 1) on alone.single.cells;
    pen = (alone.single_above low).pen;
  };
}

-- each of its places looks as that cell does by itself
look-of_one : (p : Page) (k : Core) (r c d : ℕ) → IsValidPage p → OnScreen r c → OnScreen r d → StandsAlone p r
    → look (core_on k (of_one p (cell_at p (record { row = r; column = c })))) r d
    ≡ look_alone p (record { row = r; column = c })
look-of_one p k r c d valid on there alone =
    let cell : Cell = cell_at p (record { row = r; column = c }) in
    look-alone (of_one p cell) k r d (IsValidPage-of_one p r c valid on) there (StandsAlone-of_one p r c on alone)
    ∙ ap (λ (x : Cell). look_of (definitions_of p) (row_pen_in p.row_pens r) p.screen_pen x.what) (everywhere cell r d there)

-- and names what that cell does
names-of_one : (p : Page) (k : Core) (r c d : ℕ) → IsValidPage p → OnScreen r c → OnScreen r d → StandsAlone p r
    → names_at (core_on k (of_one p (cell_at p (record { row = r; column = c })))) r d
    ≡ names_alone (row_pen_in p.row_pens r) p.screen_pen (cell_at p (record { row = r; column = c })).what
names-of_one p k r c d valid on there alone =
    let cell : Cell = cell_at p (record { row = r; column = c }) in
    names_at-alone (of_one p cell) k r d (IsValidPage-of_one p r c valid on) there (StandsAlone-of_one p r c on alone)
    ∙ ap (λ (x : Cell). names_alone (row_pen_in p.row_pens r) p.screen_pen x.what) (everywhere cell r d there)

-- ---- what its rows name is defined anew by no more strokes than what the place names

nowhere : (f : ℕ → Bool) → ((c : ℕ) → 1 ≤ c → c ≤ 40 → f c ≡ false) → some_place f ≡ false
nowhere f none =
    list_any_none f (range_with_len 1 40) (All-from_get_or (λ c. f c ≡ false) (range_with_len 1 40) 0 (λ i below.
    let within : i < 40 = omega (arith, length-range_with_len 1 40) in
    ap f (get_or-range_with_len 1 40 i 0 within) ∙ none (1 + i) (omega arith) (omega arith)))

no_ink : (defined : Definitions) (shown : Option Pattern) (i : ℕ) → has_inks shown ≡ false
    → shows_ink_of defined shown i ≡ false
no_ink defined None i none = refl
no_ink defined (Some pattern) i none = cond-true (pattern.planes == 1) _ _ (not-false (pattern.planes == 1) none)

not_two : (shown : Option Pattern) → has_inks shown ≡ false → shows_two_planes shown ≡ false
not_two None none = refl
not_two (Some pattern) none =
    let one : (pattern.planes == 1) ≡ true = not-false (pattern.planes == 1) none in
    let two : (pattern.planes == 2) ≡ false = grind (arith, nat_tests) in two

-- each place of row r of a core has these names and shows this pattern or none
record IsAlike (k : Core) (r : ℕ) (names : Names) (shown : Option Pattern) : Type 0 where
  named : (d : ℕ) → 1 ≤ d → d ≤ 40 → names_at k r d ≡ names
  shows : (d : ℕ) → 1 ≤ d → d ≤ 40 → pattern_shown (look k r d).shape ≡ shown

redefines-none : {k : Core} {r : ℕ} {names : Names} {shown : Option Pattern} → IsAlike k r names shown → (x : Stroke)
    → redefines_place names shown x ≡ false → redefines k r x ≡ false
unfolding names_entry names_dclut names_pattern names_some_pattern
redefines-none {k} {r} {names} {shown} is (strokes.Colour i paint) out =
    let parts = or_parts (names.fore == i || names.back == i) (has_inks shown) out in
    nowhere _ (λ d low high.
    (λ j. ((is.named d low high j).fore == i || (is.named d low high j).back == i)
    || shows_ink_of (definitions_of k.page) (is.shows d low high j) i)
    ∙ or_from (names.fore == i || names.back == i) (shows_ink_of (definitions_of k.page) shown i) parts.0
    (no_ink (definitions_of k.page) shown i parts.1))
redefines-none {k} {r} {names} {shown} is (strokes.Dclut j entry) out =
    and_right (nat_lt j 4) (some_place (λ c. shows_two_planes (pattern_shown (look k r c).shape))) (nowhere _ (λ d low high.
    ap (λ o. shows_two_planes o) (is.shows d low high) ∙ not_two shown out))
redefines-none {k} {r} {names} {shown} is strokes.ColourDefaults out = absurd (true≢false out)
redefines-none {k} {r} {names} {shown} is (strokes.Drcs code pattern) out =
    nowhere _ (λ d low high. ap (λ (n : Names). is_code n.code code) (is.named d low high) ∙ out)
redefines-none {k} {r} {names} {shown} is strokes.DrcsClear out =
    nowhere _ (λ d low high. ap (λ (n : Names). is_some n.code) (is.named d low high) ∙ out)
redefines-none {k} {r} {names} {shown} is (strokes.Put p cell) out = refl
redefines-none {k} {r} {names} {shown} is (strokes.Erase row from) out = refl
redefines-none {k} {r} {names} {shown} is strokes.Wipe out = refl
redefines-none {k} {r} {names} {shown} is (strokes.Shift first last way) out = refl
redefines-none {k} {r} {names} {shown} is (strokes.Carry first last way) out = refl
redefines-none {k} {r} {names} {shown} is (strokes.RowAttr row attr) out = refl
redefines-none {k} {r} {names} {shown} is (strokes.ScreenAttr attr) out = refl
redefines-none {k} {r} {names} {shown} is strokes.ScreenClear out = refl
redefines-none {k} {r} {names} {shown} is (strokes.Format rows) out = refl

is_redefined-none : {k : Core} {r : ℕ} {names : Names} {shown : Option Pattern} → IsAlike k r names shown
    → (xs : List Stroke) → list_any (redefines_place names shown) xs ≡ false → is_redefined k xs r ≡ false
unfolding is_redefined
is_redefined-none {k} {r} {names} {shown} is [] out = refl
is_redefined-none {k} {r} {names} {shown} is (x ∷ xs) out =
    let parts = or_parts (redefines_place names shown x) (list_any (redefines_place names shown) xs) out in
    or_from (redefines k r x) (list_any (redefines k r) xs) (redefines-none is x parts.0)
    (is_redefined-none is xs parts.1)

-- ---- strokes drawn

IsSingleRow-alike : (p q : Page) (r : ℕ) → q.cells ≡ p.cells → q.row_pens ≡ p.row_pens → IsSingleRow q r → IsSingleRow p r
IsSingleRow-alike p q r ec ep is = record {
  cells = subst (λ (t : List (List Cell)). HasNone sets_double_size t r) ec is.cells;
  pen = subst (λ (l : List Pen). is_double_set (row_pen_in l r).size ≡ false) ep is.pen;
}

StandsAlone-alike : (p q : Page) (r : ℕ) → q.cells ≡ p.cells → q.row_pens ≡ p.row_pens → StandsAlone q r → StandsAlone p r
StandsAlone-alike p q r ec ep is = record {
  unmarked = subst (λ (t : List (List Cell)). HasNone is_marker t r) ec is.unmarked;
  single = IsSingleRow-alike p q r ec ep is.single;
  single_above = λ low. IsSingleRow-alike p q (r - 1) ec ep (is.single_above low);
}

-- a page before and after strokes that all define something, in a row that stands alone
record IsDefinedAlone (p q : Page) (xs : List Stroke) (k : Core) (r : ℕ) : Type 0 where
  was_valid : IsValidPage p
  valid : IsValidPage q
  each : AllByRecursion IsValidStroke xs
  drawn : q ≡ page_after p xs
  all : one_else xs ≡ false
  before : StandsAlone p r
  after : StandsAlone q r
  cells : q.cells ≡ p.cells

-- the page of one cell after the strokes
drawn_of_one : {p q : Page} {xs : List Stroke} {k : Core} {r : ℕ} → IsDefinedAlone p q xs k r → (cell : Cell)
    → of_one q cell ≡ page_after (of_one p cell) xs
drawn_of_one {p} {q} {xs} {k} {r} is cell = λ i.
    record (is.drawn i) { cells = sym (all_cells_stay (table (λ _ _. cell)) xs (IsTable-table (λ _ _. cell)) is.all) i }

-- each row of it that isn't redefined isn't reached
unreached : {p q : Page} {xs : List Stroke} {k : Core} {r : ℕ} → IsDefinedAlone p q xs k r → (c : ℕ) → OnScreen r c
    → (let cell : Cell = cell_at p (record { row = r; column = c }) in
    is_redefined (core_on k (of_one p cell)) xs r ≡ false
    → look (core_on k (of_one q cell)) r c ≡ look (core_on k (of_one p cell)) r c)
unreached {p} {q} {xs} {k} {r} is c on out =
    let place : Place = record { row = r; column = c } in
    let cell : Cell = cell_at p place in
    let old : Page = of_one p cell in
    let new : Page = of_one q cell in
    let same : cell_at q place ≡ cell = ap (λ (t : List (List Cell)). value_at blank_cell t r c) is.cells in
    let valid_old : IsValidPage old = IsValidPage-of_one p r c is.was_valid on in
    let valid_new : IsValidPage new =
    subst (λ (x : Cell). IsValidPage (of_one q x)) same (IsValidPage-of_one q r c is.valid on) in
    let alone_old : StandsAlone old r = StandsAlone-of_one p r c on is.before in
    let alone_new : StandsAlone new r =
    subst (λ (x : Cell). StandsAlone (of_one q x) r) same (StandsAlone-of_one q r c on is.after) in
    let cores : AreDefined (core_on k old) (core_on k new) xs =
    defined_cores old new xs k k (edges_of_core k) valid_old is.each (drawn_of_one is cell) is.all refl refl in
    let free : is_covered_otherwise (looks_of (core_on k old)) r (looks_of (core_on k new)) r ≡ false =
    covered_otherwise-above (looks_of (core_on k old)) (looks_of (core_on k new)) r r
    ∙ uncovered (looks_in (looks_of (core_on k old)) (r - 1)) (looks_in (looks_of (core_on k new)) (r - 1))
    (covers_nothing-in old k (r - 1) valid_old (omega (arith, on)) (λ low. alone_old.single_above (omega arith)))
    (covers_nothing-in new k (r - 1) valid_new (omega (arith, on)) (λ low. alone_new.single_above (omega arith))) in
    look-unreached (core_on k old) (core_on k new) xs r r c cores.leads on (came_defined cores r)
    (reached_defined cores r on.from_top on.to_bottom
    ∙ or_from (is_redefined (core_on k old) xs r) _ out free)

-- so a place that isn't redefined looks by itself as before
look_alone-kept : {p q : Page} {xs : List Stroke} {k : Core} {r : ℕ} → IsDefinedAlone p q xs k r → (c : ℕ) → OnScreen r c
    → list_any (redefines_place (names_alone (row_pen_in p.row_pens r) p.screen_pen
    (cell_at p (record { row = r; column = c })).what)
    (pattern_shown (look_alone p (record { row = r; column = c })).shape)) xs ≡ false
    → look_alone q (record { row = r; column = c }) ≡ look_alone p (record { row = r; column = c })
look_alone-kept {p} {q} {xs} {k} {r} is c on out =
    let place : Place = record { row = r; column = c } in
    let cell : Cell = cell_at p place in
    let same : cell_at q place ≡ cell = ap (λ (t : List (List Cell)). value_at blank_cell t r c) is.cells in
    let there : (d : ℕ) → 1 ≤ d → d ≤ 40 → OnScreen r d =
    λ d low high. record { from_top = on.from_top; to_bottom = on.to_bottom; from_left = low; to_right = high } in
    let alike : IsAlike (core_on k (of_one p cell)) r (names_alone (row_pen_in p.row_pens r) p.screen_pen cell.what)
    (pattern_shown (look_alone p place).shape) = record {
      named = λ d low high. names-of_one p k r c d is.was_valid on (there d low high) is.before;
      shows = λ d low high.
          ap (λ (l : Look). pattern_shown l.shape) (look-of_one p k r c d is.was_valid on (there d low high) is.before);
    } in
    sym (look-of_one q k r c c is.valid on on is.after)
    ∙ ap (λ (x : Cell). look (core_on k (of_one q x)) r c) same
    ∙ unreached is c on (is_redefined-none alike xs out)
    ∙ look-of_one p k r c c is.was_valid on on is.before

-- ---- what is kept

pub OtherPlacesStay-defined : (p q : Page) (xs : List Stroke) (edges : Edges) (was : List (List Look))
    (names : NamesOfRows) → IsValidPage p → IsValidPage q → AllByRecursion IsValidStroke xs → AreEdges edges
    → AreLooksOn was p edges → q ≡ page_after p xs → one_else xs ≡ false → AreAllKnown names → AreNamedOn names p edges
    → OtherPlacesStay xs names was q
OtherPlacesStay-defined p q xs edges was names valid after each (k, ek) looks drawn all known named =
    let cores : AreDefined (core_on k p) (core_on k q) xs = defined_cores p q xs k k edges valid each drawn all ek ek in
    let was_alone : (r : ℕ) → StandsAlone q r → StandsAlone p r =
    λ r alone. StandsAlone-alike p q r (cells_same cores) (pens_same cores) alone in
    let e : was ≡ looks_of (core_on k p) = looks k ek in
    record {
      stay = λ r c on alone out.
          let place : Place = record { row = r; column = c } in
          let is : IsDefinedAlone p q xs k r = record {
            was_valid = valid;
            valid = after;
            each = each;
            drawn = drawn;
            all = all;
            before = was_alone r alone;
            after = alone;
            cells = cells_same cores;
          } in
          let seen : look_seen was r c ≡ look_alone p place =
          ap (λ (t : List (List Look)). look_seen t r c) e
          ∙ look_seen-at (looks_of (core_on k p)) r c (IsTable-table (look (core_on k p))) on
          ∙ value_at-table (look (core_on k p)) blank_look r c on ∙ look-alone p k r c valid on (was_alone r alone) in
          let own : names_kept (row_named names r) c
          ≡ names_alone (row_pen_in p.row_pens r) p.screen_pen (cell_at p place).what =
          all_named names (core_on k p) (named k ek) known r c on
          ∙ names_at-alone p k r c valid on (was_alone r alone) in
          let none : list_any (redefines_place (names_alone (row_pen_in p.row_pens r) p.screen_pen (cell_at p place).what)
          (pattern_shown (look_alone p place).shape)) xs ≡ false =
          sym (λ i. list_any (redefines_place (own i) (pattern_shown (seen i).shape)) xs) ∙ out in
          ap (λ (t : List (List Look)). value_at blank_look t r c) e
          ∙ value_at-table (look (core_on k p)) blank_look r c on ∙ look-alone p k r c valid on (was_alone r alone)
          ∙ sym (look_alone-kept is c on none);
      low = λ r c top bottom alone.
          ap (λ (t : List (List Look)). covers_below (part_of (look_seen t r c))) e
          ∙ covers_nothing-in p k r valid bottom (λ low. (was_alone r alone).single) c;
    }
