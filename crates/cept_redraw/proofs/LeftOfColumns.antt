-- Looks to the left of a column: of a row beneath another, of one that a walk comes to, and of one in which a cell is put.
use Rattle.std.proofs.Common.{◌≡◌, ℕ, zero, suc, ◌+◌, ◌-◌, ◌<◌, ◌≤◌, ◌&&◌, not, Bool, false, List}
use Rattle.std.proofs.Common.{[], ◌∷◌, inl, inr, refl, sym, ap, ◌∙◌, arith}
use Rattle.std.proofs.lemmas.Bool.{and_left, cases_lt, cond-false}
use Rattle.std.proofs.lemmas.Bool.Decides.{nat_tests}
use Rattle.std.proofs.lemmas.List.{get_or_past}
use Rattle.cept_codes.specs.declared.attribute.Pen.{Pen}
use Rattle.cept_codes.specs.declared.cell.Cell.{Cell}
use Rattle.cept_codes.specs.declared.cell.What.{What}
use Rattle.cept_codes.specs.declared.stroke.Stroke.TheVariants as strokes
use Rattle.cept_codes.specs.Cell.{blank_cell}
use Rattle.cept_codes.specs.declared.look.Look.{Look}
use Rattle.cept_codes.specs.Look.{blank_look}
use Rattle.cept_codes.specs.Place.{Place, OnScreen}
use Rattle.cept_codes.specs.Table.{entry, row_of, table, value_at}
use Rattle.cept_codes.proofs.Laws.{entry-list_by_index, entry_from, row_of-list_by_index, IsTable-table, value_at-table}
use Rattle.cept_profile.specs.Cells.{cell_after, cells_after, is_at}
use Rattle.cept_profile.specs.Definitions.{Definitions}
use Rattle.cept_profile.specs.Edges.{edges_of_core, is_last}
use Rattle.cept_profile.specs.Look.{look, look_in_row, looks_of, size_in_row}
use Rattle.cept_profile.specs.PageParts.{row_pen_in}
use Rattle.cept_profile.specs.RowsFromAbove.{look_from, looks_in, row_from_above}
use Rattle.cept_profile.specs.Serial.{row_in}
use Rattle.cept_profile.specs.State.{Core, Page, definitions_of, page_after}
use Rattle.cept_profile.specs.Tiling.{column_entry}
use Rattle.cept_page.proofs.Laws.{page_after-put}
use Rattle.cept_profile.specs.Valid.{IsValidPage}
use Rattle.cept_redraw.specs.declared.followed_rows.Followed.{Followed}
use Rattle.cept_redraw.specs.inside.Due.{LeftStays}
use Rattle.cept_rows.specs.Source.{Source, place_made, row_made}
use Rattle.cept_redraw.specs.Kept.{core_on}
use Rattle.cept_redraw.specs.inside.Kept.{row_beneath, source_of, IsLeftOf}
use Rattle.cept_redraw.proofs.RowsOfLooks.{column_entry-at, length-looks_in, look_seen-at}
use Rattle.cept_redraw.proofs.WalkedRows.{WalkedTo, above_is, beneath_is}

-- what stands in each column of row r of a page
abbrev pub contents_in : Page → ℕ → ℕ → What
contents_in p r = row_in (source_of p r false).cells

-- a row that is made of a function of the column
pub column_of : (f : ℕ → Look) (c : ℕ) → 1 ≤ c → c ≤ 40 → column_entry blank_look (row_of f) c ≡ f c
column_of f c low high =
    column_entry-at blank_look (row_of f) c low ∙ sym (entry_from blank_look 1 (row_of f) c low)
    ∙ ap (λ (l : List Look). entry blank_look 1 l c) (row_of-list_by_index f)
    ∙ entry-list_by_index blank_look 1 40 f c low (omega (arith, high))

-- a look of a row that is made beneath others
pub row_made-at : (source : Source) (above : List Look) (c : ℕ) → 1 ≤ c → c ≤ 40
    → column_entry blank_look (row_made source above) c ≡ place_made source above c
unfolding row_from_above
row_made-at source above c low high = column_of (place_made source above) c low high

-- and left of the first column
pub row_made-from : (source : Source) (above : List Look) (c : ℕ) → c ≤ 40
    → column_entry blank_look (row_made source above) c ≡ place_made source above c
unfolding look_from
row_made-from source above zero high = refl
row_made-from source above (suc c) high = row_made-at source above (suc c) (omega arith) high

-- a look of a row of a page beneath others
pub row_beneath-at : (above : List Look) (p : Page) (r : ℕ) (last : Bool) (c : ℕ) → 1 ≤ c → c ≤ 40
    → column_entry blank_look (row_beneath above p r last) c
    ≡ look_from (column_entry blank_look above)
    (look_in_row (definitions_of p) (contents_in p r) (row_pen_in p.row_pens r) p.screen_pen)
    (size_in_row (contents_in p r) (row_pen_in p.row_pens r) p.screen_pen) last c
row_beneath-at above p r last c low high = row_made-at (source_of p r last) above c low high

-- and left of the first column
pub row_beneath-from : (above : List Look) (p : Page) (r : ℕ) (last : Bool) (c : ℕ) → c ≤ 40
    → column_entry blank_look (row_beneath above p r last) c
    ≡ look_from (column_entry blank_look above)
    (look_in_row (definitions_of p) (contents_in p r) (row_pen_in p.row_pens r) p.screen_pen)
    (size_in_row (contents_in p r) (row_pen_in p.row_pens r) p.screen_pen) last c
row_beneath-from above p r last c high = row_made-from (source_of p r last) above c high

-- so where a walk comes to the row, it looks so already
pub left_is : {flags : List Bool} {rows : List Followed} {k : Core} {was now : List (List Look)} {former marks : List Bool}
    {covered : Bool} {start steps row : ℕ} → WalkedTo flags rows k was now former marks covered start steps row
    → 1 ≤ row → row ≤ 24 → (from : ℕ) → ((c : ℕ) → 1 ≤ c → c < from → c ≤ 40)
    → ((c : ℕ) → OnScreen row c → c < from → value_at blank_look was row c ≡ look k row c) → (last : Bool)
    → last ≡ is_last (edges_of_core k) row
    → IsLeftOf from (looks_in now row) (row_beneath (looks_in now (row - 1)) k.page row last)
left_is {k = k} {was = was} {now = now} {former = former} {marks = marks} {row = row} m top bottom from within stays last
    el c low below =
    let on : OnScreen row c = record {
      from_top = top;
      to_bottom = bottom;
      from_left = low;
      to_right = within c low below;
    } in
    look_seen-at now row c m.refreshed.is on ∙ m.refreshed.below row c on (omega (arith, on)) ∙ stays c on below
    ∙ sym (column_of (look k row) c low on.to_right)
    ∙ ap (λ (l : List Look). column_entry blank_look l c)
    (sym (beneath_is k (looks_in now (row - 1)) row last top bottom
    (above_is k was now former marks row top bottom m.refreshed) el))

-- ---- a cell that is put

-- rows that agree up to a column show the same there, beneath looks that agree up to the next one
abbrev pub ShowsLeft : Type 0
ShowsLeft =
    (defined : Definitions) (above beside : ℕ → Look) (f g : ℕ → What) (pen screen : Pen) (last : Bool) (c : ℕ)
    → ((d : ℕ) → d ≤ c + 1 → above d ≡ beside d) → ((d : ℕ) → 1 ≤ d → d ≤ c → f d ≡ g d)
    → look_from above (look_in_row defined f pen screen) (size_in_row f pen screen) last c
    ≡ look_from beside (look_in_row defined g pen screen) (size_in_row g pen screen) last c

-- a look of a row of a core, beneath these
pub look_is : (k : Core) (above : List Look) (r c : ℕ) → OnScreen r c → above ≡ looks_in (looks_of k) (r - 1)
    → look k r c
    ≡ look_from (column_entry blank_look above)
    (look_in_row (definitions_of k.page) (contents_in k.page r) (row_pen_in k.page.row_pens r) k.page.screen_pen)
    (size_in_row (contents_in k.page r) (row_pen_in k.page.row_pens r) k.page.screen_pen) (is_last (edges_of_core k) r) c
look_is k above r c on e =
    sym (column_of (look k r) c on.from_left on.to_right)
    ∙ ap (λ (l : List Look). column_entry blank_look l c)
    (sym (beneath_is k above r (is_last (edges_of_core k) r) on.from_top on.to_bottom e refl))
    ∙ row_beneath-at above k.page r (is_last (edges_of_core k) r) c on.from_left on.to_right

-- a cell that is put changes nothing to its left, and nothing in other rows
left_contents : (p : Page) (place : Place) (cell : Cell) (r c : ℕ) → OnScreen r c → c + r < place.column + place.row
    → contents_in p r c ≡ (value_at blank_cell (cells_after p.cells (strokes.Put place cell)) r c).what
left_contents p place cell r c on left =
    let was : Cell = value_at blank_cell p.cells r c in
    let other : is_at place r c ≡ false = grind (arith, nat_tests) in
    ap (λ (x : Cell). x.what)
    (sym (value_at-table (cell_after (strokes.Put place cell) (value_at blank_cell p.cells)) blank_cell r c on
    ∙ cond-false (is_at place r c && not was.protected) cell was (and_left (is_at place r c) (not was.protected) other)))

-- what is seen in a row of a table that another one agrees with up to a column
seen_alike : (f g : ℕ → ℕ → Look) (r c : ℕ) → r ≤ 24 → ((d : ℕ) → OnScreen r d → d ≤ c → f r d ≡ g r d) → (d : ℕ)
    → d ≤ c → column_entry blank_look (looks_in (table f) r) d ≡ column_entry blank_look (looks_in (table g) r) d
seen_alike f g r c bottom same zero high = refl
seen_alike f g zero c bottom same (suc d) high = refl
seen_alike f g (suc r) c bottom same (suc d) high =
    elim (cases_lt 40 (suc d)) [
      | inl past ↦ past_row f (suc r) (suc d) (omega arith) bottom past
          ∙ sym (past_row g (suc r) (suc d) (omega arith) bottom past)
      | inr not_past ↦
          let on : OnScreen (suc r) (suc d) = record {
            from_top = omega arith;
            to_bottom = bottom;
            from_left = omega arith;
            to_right = omega (arith, not_past);
          } in
          look_seen-at (table f) (suc r) (suc d) (IsTable-table f) on ∙ value_at-table f blank_look (suc r) (suc d) on
          ∙ same (suc d) on high ∙ sym (value_at-table g blank_look (suc r) (suc d) on)
          ∙ sym (look_seen-at (table g) (suc r) (suc d) (IsTable-table g) on)
    ]
  where
    past_row : (h : ℕ → ℕ → Look) (r d : ℕ) → 1 ≤ r → r ≤ 24 → 40 < d
        → column_entry blank_look (looks_in (table h) r) d ≡ blank_look
    past_row h r d low high past =
        column_entry-at blank_look (looks_in (table h) r) d (omega (arith, past))
        ∙ get_or_past (looks_in (table h) r) (d - 1) blank_look
        (omega (arith, past, length-looks_in (table h) r (IsTable-table h) low high))

-- so rows look as they did to the left of the cell that is put, and each further down to the left of one column less
put_left : ShowsLeft → (p : Page) (m : Core) (place : Place) (cell : Cell) (r c : ℕ) → OnScreen r c
    → c + r < place.column + place.row
    → look (core_on m p) r c
    ≡ look (core_on m (record p { cells = cells_after p.cells (strokes.Put place cell) })) r c
put_left law p m place cell zero c on left = absurd (omega (arith, on.from_top))
put_left law p m place cell (suc n) c on left =
    let put : Page = record p { cells = cells_after p.cells (strokes.Put place cell) } in
    let k : Core = core_on m p in
    let l : Core = core_on m put in
    let back : suc n - 1 ≡ n = omega arith in
    look_is k (looks_in (looks_of k) (suc n - 1)) (suc n) c on refl
    ∙ law (definitions_of p) (column_entry blank_look (looks_in (looks_of k) (suc n - 1)))
    (column_entry blank_look (looks_in (looks_of l) (suc n - 1))) (contents_in p (suc n)) (contents_in put (suc n))
    (row_pen_in p.row_pens (suc n)) p.screen_pen (is_last (edges_of_core m) (suc n)) c
    (rw back (seen_alike (look k) (look l) n (c + 1) (omega (arith, on.to_bottom)) (λ d within high.
    put_left law p m place cell n d within (omega (arith, left, high)))))
    (λ d low high. left_contents p place cell (suc n) d
    (record {
      from_top = on.from_top;
      to_bottom = on.to_bottom;
      from_left = low;
      to_right = omega (arith, on.to_right, high);
    }) (omega (arith, high, left)))
    ∙ sym (look_is l (looks_in (looks_of l) (suc n - 1)) (suc n) c on refl)

pub LeftStays-put : ShowsLeft → (p : Page) → IsValidPage p → (m : Core) (place : Place) (cell : Cell)
    (was : List (List Look)) → was ≡ looks_of (core_on m p)
    → LeftStays place.row place.column was (core_on m (page_after p (strokes.Put place cell ∷ [])))
LeftStays-put law p valid m place cell was e r c on left =
    ap (λ (t : List (List Look)). value_at blank_look t r c) e
    ∙ value_at-table (look (core_on m p)) blank_look r c on
    ∙ put_left law p m place cell r c on left
    ∙ ap (λ (q : Page). look (core_on m q) r c) (sym (page_after-put p valid place cell))
