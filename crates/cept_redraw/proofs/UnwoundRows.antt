-- Rows of a page that is unwound: one of which nothing is noted, and that is covered as before, looks as before.
use Rattle.std.proofs.Common.{◌≡◌, ℕ, ◌≤◌, ◌||◌, Bool, true, false}
use Rattle.std.proofs.Common.{Option, Some, None, List, length, unwrap_or, is_some, refl, sym, ap, ◌∙◌, arith}
use Rattle.std.specs.List.{list_any}
use Rattle.std.proofs.lemmas.Bool.{or_parts, true≢false}
use Rattle.cept_codes.specs.declared.attribute.Pen.{Pen}
use Rattle.cept_codes.specs.declared.cell.Cell.{Cell}
use Rattle.cept_codes.specs.declared.look.Look.{Look}
use Rattle.cept_codes.specs.Cell.{blank_cell}
use Rattle.cept_codes.specs.Look.{black_paint, blank_look}
use Rattle.cept_codes.specs.Place.{OnScreen}
use Rattle.cept_codes.specs.Table.{entry, list_by_index, value_at}
use Rattle.cept_codes.proofs.Laws.{IsTable-table, entry-list_by_index, list_by_index-entry, same_indexed}
use Rattle.cept_codes.proofs.Laws.{value_at-table}
use Rattle.cept_profile.specs.Edges.{Edges, edges_of_core, is_last}
use Rattle.cept_profile.specs.Look.{contents_of_row, look, look_in_row, looks_of, own_look, own_size, size_in_row}
use Rattle.cept_profile.specs.OldValues.{OldValues, page_unwound}
use Rattle.cept_profile.specs.PageParts.{row_pen_in}
use Rattle.cept_profile.specs.Reach.{just_one}
use Rattle.cept_profile.specs.RowsFromAbove.{is_covered_otherwise, looks_in}
use Rattle.cept_profile.specs.State.{Core, Page, definitions_of}
use Rattle.cept_profile.specs.Tiling.{column_entry}
use Rattle.cept_profile.specs.Valid.{IsValidPage}
use Rattle.cept_profile.proofs.Laws.{covering-same, look_in_row-alike, looks_in-same, size_in_row-alike}
use Rattle.cept_delta.specs.Noted.{IsRowUnnoted, notes_row, notes_screen}
use Rattle.cept_delta.proofs.Laws.{cell_stays, pen_stays, entry_none, unnoted}
use Rattle.cept_redraw.specs.inside.Due.{at_rest, is_due, rows_due, OtherRowsStay}
use Rattle.cept_redraw.specs.Kept.{AreEdges, AreLooksOn, core_on}
use Rattle.cept_redraw.specs.Restored.{is_unwound, rows_unwound}
use Rattle.cept_redraw.proofs.RestingRows.{due-rest, row_from-rest}
use Rattle.cept_redraw.proofs.RowsDue.{same_count}
use Rattle.cept_redraw.proofs.RowsOfLooks.{look_seen-at}

-- ---- where none is noted

-- a list stays
list_stays : {X : Type 0} (d : X) (from count : ℕ) (olds : List (Option X)) (list : List X) → length list ≡ count
    → list_any is_some olds ≡ false
    → list_by_index from count (λ k. unwrap_or (entry None from olds k) (entry d from list k)) ≡ list
list_stays {X} d from count olds list long none =
    same_indexed from count (λ k. unwrap_or (entry None from olds k) (entry d from list k)) (entry d from list)
    (λ k low high. ap (λ (o : Option X). unwrap_or o (entry d from list k)) (entry_none from olds k low none))
    ∙ list_by_index-entry d from count list long

-- and so do the definitions of a page, and its screen's attributes
pub record IsScreenStill (p q : Page) : Type 0 where
  pub definitions : definitions_of q ≡ definitions_of p
  pub screen : q.screen_pen ≡ p.screen_pen

screen_stays : (p q : Page) (old : OldValues) → IsValidPage p → q ≡ page_unwound p old → notes_screen old ≡ false
    → IsScreenStill p q
unfolding notes_screen
screen_stays p q old valid is none =
    let most = or_parts (is_some old.screen_pen || list_any is_some old.paints || list_any is_some old.dclut)
    (list_any is_some old.patterns) none in
    let more = or_parts (is_some old.screen_pen || list_any is_some old.paints) (list_any is_some old.dclut) most.0 in
    let two = or_parts (is_some old.screen_pen) (list_any is_some old.paints) more.0 in
    record {
      definitions = ap (λ (x : Page). definitions_of x) is ∙ (λ i. record {
        paints = list_stays black_paint 0 32 old.paints p.paints valid.colours two.1 i;
        dclut = list_stays 0 0 4 old.dclut p.dclut valid.names more.1 i;
        patterns = list_stays None 0x21 94 old.patterns p.patterns valid.codes most.1 i;
      });
      screen = ap (λ (x : Page). x.screen_pen) is
          ∙ ap (λ (o : Option Pen). unwrap_or o p.screen_pen) (no_value old.screen_pen two.0);
    }
  where
    no_value : (o : Option Pen) → is_some o ≡ false → o ≡ None
    no_value None none = refl
    no_value (Some x) none = absurd (true≢false none)

-- ---- a row by itself

-- the cells of a row and its attributes stay
cells_stay : (p q : Page) (old : OldValues) (r : ℕ) → q ≡ page_unwound p old → IsRowUnnoted old r → (c : ℕ) → OnScreen r c
    → value_at blank_cell q.cells r c ≡ value_at blank_cell p.cells r c
cells_stay p q old r is none c on = ap (λ (x : Page). value_at blank_cell x.cells r c) is ∙ cell_stays p old r c on none

row_pen_stays : (p q : Page) (old : OldValues) (r : ℕ) → 1 ≤ r → r ≤ 24 → q ≡ page_unwound p old → IsRowUnnoted old r
    → row_pen_in q.row_pens r ≡ row_pen_in p.row_pens r
row_pen_stays p q old r low high is none =
    ap (λ (x : Page). row_pen_in x.row_pens r) is ∙ pen_stays p old r low high none

own_looks_stay : (before after : Core) (r : ℕ) → IsScreenStill before.page after.page
    → row_pen_in after.page.row_pens r ≡ row_pen_in before.page.row_pens r
    → ((c : ℕ) → OnScreen r c
    → value_at blank_cell after.page.cells r c ≡ value_at blank_cell before.page.cells r c)
    → 1 ≤ r → r ≤ 24 → (c : ℕ) → 1 ≤ c → c ≤ 40 → own_look before r c ≡ own_look after r c
own_looks_stay before after r still pen cells low high c left right =
    sym ((λ i. look_in_row (still.definitions i) (contents_of_row after r) (pen i) (still.screen i) c)
    ∙ look_in_row-alike (definitions_of before.page) (contents_of_row after r) (contents_of_row before r)
    (row_pen_in before.page.row_pens r) before.page.screen_pen c left (λ d from to.
    ap (λ (x : Cell). x.what) (cells d (record {
      from_top = low;
      to_bottom = high;
      from_left = from;
      to_right = omega (arith, to, right);
    }))))

own_sizes_stay : (before after : Core) (r : ℕ) → IsScreenStill before.page after.page
    → row_pen_in after.page.row_pens r ≡ row_pen_in before.page.row_pens r
    → ((c : ℕ) → OnScreen r c
    → value_at blank_cell after.page.cells r c ≡ value_at blank_cell before.page.cells r c)
    → 1 ≤ r → r ≤ 24 → (c : ℕ) → 1 ≤ c → c ≤ 40 → own_size before r c ≡ own_size after r c
own_sizes_stay before after r still pen cells low high c left right =
    sym ((λ i. size_in_row (contents_of_row after r) (pen i) (still.screen i) c)
    ∙ size_in_row-alike (contents_of_row after r) (contents_of_row before r) (row_pen_in before.page.row_pens r)
    before.page.screen_pen c left (λ d from to.
    ap (λ (x : Cell). x.what) (cells d (record {
      from_top = low;
      to_bottom = high;
      from_left = from;
      to_right = omega (arith, to, right);
    }))))

-- ---- a row beneath what covers it

same_last : (a b : Bool) → just_one a b ≡ false → a ≡ b
same_last true true none = refl
same_last true false none = absurd (true≢false none)
same_last false true none = absurd (true≢false none)
same_last false false none = refl

look-unwound : (before after : Core) (old : OldValues) (r c : ℕ) → IsValidPage before.page
    → after.page ≡ page_unwound before.page old → OnScreen r c
    → is_unwound old (edges_of_core before) (edges_of_core after) r ≡ false
    → is_covered_otherwise (looks_of before) r (looks_of after) r ≡ false → look before r c ≡ look after r c
unfolding is_unwound
look-unwound before after old r c valid is on none covered =
    let most = or_parts (notes_row old r || notes_screen old)
    (just_one (is_last (edges_of_core before) r) (is_last (edges_of_core after) r)) none in
    let parts = or_parts (notes_row old r) (notes_screen old) most.0 in
    let free : IsRowUnnoted old r = unnoted old r on.from_top parts.0 in
    let still : IsScreenStill before.page after.page = screen_stays before.page after.page old valid is parts.1 in
    let pen = row_pen_stays before.page after.page old r on.from_top on.to_bottom is free in
    let cells = cells_stay before.page after.page old r is free in
    let same : looks_in (looks_of before) r ≡ looks_in (looks_of after) r =
    looks_in-same before after r r on.from_top on.to_bottom on.from_top on.to_bottom
    (covering-same (looks_of before) (looks_of after) r r (IsTable-table (look before)) (IsTable-table (look after))
    on.from_top on.to_bottom on.from_top on.to_bottom covered)
    (own_looks_stay before after r still pen cells on.from_top on.to_bottom)
    (own_sizes_stay before after r still pen cells on.from_top on.to_bottom)
    (same_last (is_last (edges_of_core before) r) (is_last (edges_of_core after) r) most.1) in
    sym (value_at-table (look before) blank_look r c on) ∙ sym (look_seen-at (looks_of before) r c (IsTable-table (look before)) on)
    ∙ ap (λ (l : List Look). column_entry blank_look l c) same
    ∙ look_seen-at (looks_of after) r c (IsTable-table (look after)) on ∙ value_at-table (look after) blank_look r c on

-- ---- rows that are due

-- where the rows that may look otherwise of themselves are flagged, each that isn't due stays
pub OtherRowsStay-unwound : (p q : Page) (old : OldValues) (before after : Edges) (was : List (List Look))
    (flags : List Bool) → IsValidPage p → AreEdges before → AreLooksOn was p before → q ≡ page_unwound p old
    → flags ≡ list_by_index 1 24 (is_unwound old before after) → (k : Core) → edges_of_core k ≡ after
    → OtherRowsStay flags at_rest was (core_on k q)
OtherRowsStay-unwound p q old before after was flags valid (core, is) looks drawn es k same r n c on none came =
    let first : Core = core_on core p in
    let next : Core = core_on k q in
    let e : was ≡ looks_of first = looks core is in
    let there : Some n ≡ Some r = sym came ∙ row_from-rest r on.from_top on.to_bottom in
    let here : n ≡ r = cc in
    let parts = or_parts (entry false 1 flags r) (is_covered_otherwise was r (looks_of next) r)
    (sym (due-rest flags was (looks_of next) r on.from_top on.to_bottom) ∙ none) in
    let out : is_unwound old before after r ≡ false =
    sym (entry-list_by_index false 1 24 (is_unwound old before after) r on.from_top (omega (arith, on)))
    ∙ ap (λ (l : List Bool). entry false 1 l r) (sym es) ∙ parts.0 in
    ap (λ m. value_at blank_look was m c) here ∙ ap (λ (t : List (List Look)). value_at blank_look t r c) e
    ∙ value_at-table (look first) blank_look r c on
    ∙ look-unwound first next old r c valid drawn on ((λ i. is_unwound old (is i) (same i) r) ∙ out)
    (ap (λ (g : List (List Look)). is_covered_otherwise g r (looks_of next) r) (sym e) ∙ parts.1)

-- and as many are due as the old values tell
pub rows_due-unwound : (old : OldValues) (before after : Edges) (was now : List (List Look)) (flags : List Bool)
    → flags ≡ list_by_index 1 24 (is_unwound old before after)
    → rows_due flags at_rest was now ≡ rows_unwound old before after was now
unfolding rows_due rows_unwound
rows_due-unwound old before after was now flags es =
    same_count (is_due flags at_rest was now)
    (λ r. is_unwound old before after r || is_covered_otherwise was r now r) (λ r low high.
    due-rest flags was now r low high
    ∙ ap (λ b. b || is_covered_otherwise was r now r) (ap (λ (l : List Bool). entry false 1 l r) es
    ∙ entry-list_by_index false 1 24 (is_unwound old before after) r low (omega (arith, high))))
