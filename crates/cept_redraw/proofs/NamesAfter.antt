-- Names that are kept after strokes: a row in which nothing changes that names come from is known still.
use Rattle.std.proofs.Common.{◌≡◌, ◌≢◌, ℕ, ◌≤◌, ◌==◌, ◌||◌, ◌&&◌, not, Bool, true, false, List, [], ◌∷◌}
use Rattle.std.proofs.Common.{Some, sym, ap, ◌∙◌, arith}
use Rattle.std.specs.List.{AllByRecursion, list_any}
use Rattle.std.proofs.lemmas.Bool.{not-false, or_parts}
use Rattle.std.proofs.lemmas.Bool.Decides.{nat_tests}
use Rattle.std.proofs.lemmas.List.FromFn.{get_or-map-range_with_len}
use Rattle.cept_codes.specs.declared.cell.Cell.{Cell}
use Rattle.cept_codes.specs.declared.look.Look.{Look}
use Rattle.cept_codes.specs.declared.stroke.Stroke.{Stroke}
use Rattle.cept_codes.specs.declared.stroke.Stroke.TheVariants as strokes
use Rattle.cept_codes.specs.Cell.{blank_cell}
use Rattle.cept_codes.specs.Look.{blank_look}
use Rattle.cept_codes.specs.Place.{Place, OnScreen, number, place_of}
use Rattle.cept_codes.specs.Same.{same_look, same_pen}
use Rattle.cept_codes.specs.Stroke.{IsValidStroke}
use Rattle.cept_codes.specs.Table.{entry, list_by_index, value_at}
use Rattle.cept_codes.proofs.Laws.{IsTable-table, entry-list_by_index, look_decides, number-lt, place_of-number, value_at-table}
use Rattle.cept_profile.specs.Changes.{differences, look_at}
use Rattle.cept_profile.specs.Edges.{Edges, edges_of_core}
use Rattle.cept_profile.specs.Look.{look, looks_of}
use Rattle.cept_profile.specs.MovedRows.{row_before}
use Rattle.cept_profile.specs.PageParts.{row_pen_in}
use Rattle.cept_profile.specs.Reach.{is_written, just_one}
use Rattle.cept_profile.specs.RowsFromAbove.{looks_in}
use Rattle.cept_profile.specs.State.{Core, Page, page_after}
use Rattle.cept_profile.specs.Edges.{is_last}
use Rattle.cept_profile.specs.Valid.{IsValidPage}
use Rattle.cept_profile.proofs.Laws.{cell-from}
use Rattle.cept_page.specs.Parts.{pens_of}
use Rattle.cept_redraw.specs.declared.followed_rows.Followed.{Followed}
use Rattle.cept_redraw.specs.inside.Due.{followed, has_others, is_altered, is_altered_from}
use Rattle.cept_redraw.specs.Kept.{AreEdges, AreLooksOn, core_on}
use Rattle.cept_redraw.specs.inside.Kept.{OthersStay}
use Rattle.cept_redraw.specs.Marks.{is_marked}
use Rattle.cept_redraw.specs.Named.{AreNamedOn, NamesOfRows, names_beneath}
use Rattle.cept_redraw.specs.inside.Named.{AreRemembered, IsStill}
use Rattle.cept_redraw.specs.Resolved.{defines}
use Rattle.cept_redraw.proofs.AlteredRows.{is_altered-put, pen-same}
use Rattle.cept_redraw.proofs.FollowedRows.{row_from-followed}
use Rattle.cept_redraw.proofs.NamesKept.{AreNamed-remembered, beneath-same, cells-same}
use Rattle.cept_redraw.proofs.RowsOfLooks.{looks_in-same}
use Rattle.cept_rows.specs.declared.naming.RowNames.{RowNames}

-- ---- a place that isn't marked looks the same

unmarked-same : (g h : List (List Look)) (marks : List Bool) → marks ≡ differences g h → (r c : ℕ) → OnScreen r c
    → is_marked marks (number r c) ≡ false → value_at blank_look g r c ≡ value_at blank_look h r c
unfolding differences
unmarked-same g h marks e r c on none =
    let at : place_of (number r c) ≡ (let p : Place = record { row = r; column = c } in p) = place_of-number (record { row = r; column = c }) on in
    let found : is_marked marks (number r c) ≡ not (same_look (look_at g (place_of (number r c))) (look_at h (place_of (number r c)))) =
    ap (λ (l : List Bool). is_marked l (number r c)) e
    ∙ get_or-map-range_with_len (λ n. not (same_look (look_at g (place_of n)) (look_at h (place_of n)))) 0 960 (number r c)
    (number r c) false (number-lt r c on) (omega arith) in
    let same : same_look (value_at blank_look g r c) (value_at blank_look h r c) ≡ true =
    ap (λ (p : Place). same_look (look_at g p) (look_at h p)) (sym at)
    ∙ not-false (same_look (look_at g (place_of (number r c))) (look_at h (place_of (number r c)))) (sym found ∙ none) in
    (look_decides (value_at blank_look g r c) (value_at blank_look h r c)).0 same

-- ---- a row that isn't altered and looks the same

pub row-still : (p q : Page) (xs : List Stroke) (before after : Edges) (k m : Core) → IsValidPage p → IsValidPage q
    → AllByRecursion IsValidStroke xs → q ≡ page_after p xs → (r : ℕ) → 1 ≤ r → r ≤ 24 → row_before xs r ≡ Some r
    → is_altered xs (pens_of p) before (pens_of q) after r ≡ false
    → looks_in (looks_of (core_on k p)) r ≡ looks_in (looks_of (core_on m q)) r → (above : RowNames) (c : ℕ)
    → names_beneath above (core_on k p) r c ≡ names_beneath above (core_on m q) r c
unfolding is_altered has_others
row-still p q xs before after k m vp vq each drawn r low high came out looks above c =
    let others : Bool = has_others (pens_of p) before r (pens_of q) after r in
    let none : (is_written xs r || list_any defines xs || others) ≡ false =
    ap (λ found. is_altered_from (is_written xs r) (list_any defines xs) (pens_of p) before (pens_of q) after found r)
    (sym came) ∙ out in
    let parts = or_parts (is_written xs r || list_any defines xs) others none in
    let written = (or_parts (is_written xs r) (list_any defines xs) parts.0).0 in
    let pens : Bool = not (same_pen (row_pen_in p.row_pens r) (row_pen_in q.row_pens r)) in
    let screens : Bool = not (same_pen p.screen_pen q.screen_pen) in
    let last : Bool = just_one (is_last before r) (is_last after r) in
    let first = or_parts (pens || screens) last parts.1 in
    let both = or_parts pens screens first.0 in
    beneath-same above (core_on k p) (core_on m q) r c high
    (cells-same p.cells q.cells r r vp.table vq.table low high low high (λ d left right.
    sym (ap (λ (page : Page). value_at blank_cell page.cells r d) drawn
    ∙ cell-from p xs r r d each
    (record { from_top = low; to_bottom = high; from_left = left; to_right = right }) came written)))
    (pen-same (row_pen_in p.row_pens r) (row_pen_in q.row_pens r) both.0) (pen-same p.screen_pen q.screen_pen both.1) looks

-- ---- rows forgotten after strokes

-- the names of the rows that stay and aren't marked
pub AreNamedOn-drawn : (p q : Page) (xs : List Stroke) (before after : Edges) (was now : List (List Look))
    (names next : NamesOfRows) (flags : List Bool) (rows : List Followed) (marks : List Bool) → IsValidPage p
    → IsValidPage q → AllByRecursion IsValidStroke xs → AreEdges before → AreNamedOn names p before
    → AreLooksOn was p before → AreLooksOn now q after → q ≡ page_after p xs
    → flags ≡ list_by_index 1 24 (is_altered xs (pens_of p) before (pens_of q) after)
    → rows ≡ list_by_index 1 24 (followed xs) → marks ≡ differences was now
    → AreRemembered names next (λ r. IsStill flags rows marks r) → AreNamedOn next q after
AreNamedOn-drawn p q xs before after was now names next flags rows marks vp vq each (core, is) named looks fresh drawn ef
    er em left m same =
    let old : Core = core_on core p in
    let new : Core = core_on m q in
    let ew : was ≡ looks_of old = looks core is in
    let en : now ≡ looks_of new = fresh m same in
    AreNamed-remembered names next (λ r. IsStill flags rows marks r) old new (named core is) left (λ above r c on still.
    row-still p q xs before after core m vp vq each drawn r on.from_top on.to_bottom
    (sym (row_from-followed rows xs er r on.from_top on.to_bottom) ∙ still.1)
    (sym (entry-list_by_index false 1 24 (is_altered xs (pens_of p) before (pens_of q) after) r on.from_top
    (omega (arith, on)))
    ∙ ap (λ (l : List Bool). entry false 1 l r) (sym ef) ∙ still.0)
    (looks_in-same (looks_of old) (looks_of new) r (IsTable-table (look old)) (IsTable-table (look new)) on.from_top
    on.to_bottom (λ d there.
    ap (λ (g : List (List Look)). value_at blank_look g r d) (sym ew)
    ∙ unmarked-same was now marks em r d there (still.2 d there)
    ∙ ap (λ (g : List (List Look)). value_at blank_look g r d) en))
    above c)

-- the names of all rows but that of a cell that is put, where all other places look as they did
pub AreNamedOn-put : (p q : Page) (xs : List Stroke) (place : Place) (cell : Cell) (edges : Edges)
    (was : List (List Look)) (names next : NamesOfRows) → IsValidPage p → IsValidPage q → AllByRecursion IsValidStroke xs
    → AreEdges edges → AreNamedOn names p edges → AreLooksOn was p edges → xs ≡ strokes.Put place cell ∷ []
    → q ≡ page_after p xs → ((k : Core) → edges_of_core k ≡ edges → OthersStay was (core_on k q) place)
    → AreRemembered names next (λ r. r ≢ place.row) → AreNamedOn next q edges
unfolding row_before
AreNamedOn-put p q xs place cell edges was names next vp vq each (core, is) named looks only drawn others left m same =
    let old : Core = core_on core p in
    let new : Core = core_on m q in
    let ew : was ≡ looks_of old = looks core is in
    AreNamed-remembered names next (λ r. r ≢ place.row) old new (named core is) left (λ above r c on away.
    let no : (place.row == r) ≡ false = grind (arith, nat_tests, away) in
    row-still p q xs edges edges core m vp vq each drawn r on.from_top on.to_bottom
    (ap (λ (l : List Stroke). row_before l r) only)
    ((λ i. is_altered (only i) (pens_of p) edges (pens_of (drawn i)) edges r)
    ∙ ap (λ (l : List Stroke). is_altered (strokes.Put place cell ∷ []) (pens_of p) edges (pens_of (page_after p l)) edges r) only
    ∙ is_altered-put p place cell edges r on.from_top on.to_bottom ∙ no)
    (looks_in-same (looks_of old) (looks_of new) r (IsTable-table (look old)) (IsTable-table (look new)) on.from_top
    on.to_bottom (λ d there.
    ap (λ (g : List (List Look)). value_at blank_look g r d) (sym ew)
    ∙ others m same r d there (ap (λ b. b && (place.column == d)) no)
    ∙ sym (value_at-table (look new) blank_look r d there)))
    above c)
