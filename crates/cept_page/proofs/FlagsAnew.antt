-- Flags of rows after old values were put back.
use Rattle.std.proofs.Common.{◌≡◌, ◌≢◌, ℕ, ◌+◌, ◌≤◌, Bool, false, inl, inr, Option, List}
use Rattle.std.proofs.Common.{length, is_some, None, Some, refl, sym, ap, subst, ◌∙◌, arith}
use Rattle.std.proofs.lemmas.Bool.{cases_eq, true≢false}
use Rattle.cept_codes.specs.declared.attribute.Pen.{Pen}
use Rattle.cept_codes.specs.declared.cell.Cell.{Cell}
use Rattle.cept_codes.specs.declared.cell.What.{What}
use Rattle.cept_codes.specs.Cell.{blank_cell}
use Rattle.cept_codes.specs.Table.{entry}
use Rattle.cept_codes.proofs.Laws.{entry_from, length-list_by_index}
use Rattle.cept_profile.specs.Look.{is_double_set, sets_double_size}
use Rattle.cept_profile.specs.OldValues.{OldValues, old_cell, old_row_pen, page_unwound}
use Rattle.cept_profile.specs.PageParts.{row_pen_in}
use Rattle.cept_profile.specs.Serial.{is_marker}
use Rattle.cept_profile.specs.State.{Page}
use Rattle.cept_delta.specs.Exchanged.{HasSameLocations}
use Rattle.cept_delta.specs.Noted.{IsRowUnnoted}
use Rattle.cept_delta.proofs.Laws.{cell_stays, pen_stays}
use Rattle.cept_page.specs.inside.FlagsAnew.{AreFlagsMade, IsFlagMade, IsSingle, IsSingleRowAnew, IsSoOrStays}
use Rattle.cept_page.specs.inside.FlagsAnew.{IsUnmarkedRow, RowHasNone, row_in_table}
use Rattle.cept_page.specs.MarkedRows.{HasNone, IsKeptPage, IsSingleRow}

-- ---- one row after the other

pub AreFlagsMade-none : (IsSo : ℕ → Type 0) (was : List Bool) → length was ≡ 24 → AreFlagsMade IsSo 1 was was
AreFlagsMade-none IsSo was long =
    record { rows = long; made = λ r low high before unset. absurd (omega arith); left = λ r low high from. refl }

-- what is so, or is as it was just before, is so or as it was at first
stays_longer : (IsSo : Type 0) (old : OldValues) (was then : List Bool) (r : ℕ)
    → entry false 1 then r ≡ entry false 1 was r → IsSoOrStays IsSo old then r → IsSoOrStays IsSo old was r
stays_longer IsSo old was then r same (inl so) = inl so
stays_longer IsSo old was then r same (inr stays) = inr (sym same ∙ stays.0, stays.1)

pub AreFlagsMade-more : (IsSo : ℕ → Type 0) (old : OldValues) (was then now : List Bool) (k m : ℕ)
    → AreFlagsMade (λ r. IsSoOrStays (IsSo r) old was r) k was then
    → IsFlagMade (IsSoOrStays (IsSo k) old then k) k then now → m ≡ k + 1 → 1 ≤ k → k ≤ 24
    → AreFlagsMade (λ r. IsSoOrStays (IsSo r) old was r) m was now
AreFlagsMade-more IsSo old was then now k m before one next low high = record {
  rows = one.rows;
  made = λ r from to below unset.
      elim (cases_eq k r) [
        | inl e ↦
            let at : entry false 1 now k ≡ false = subst (λ n. entry false 1 now n ≡ false) (sym e) unset in
            subst (λ n. IsSoOrStays (IsSo n) old was n) e
            (stays_longer (IsSo k) old was then k (before.left k low high (omega arith)) (one.here at))
        | inr ne ↦ before.made r from to (omega (arith, ne, below, next)) (sym (one.others r from to ne) ∙ unset)
      ];
  left = λ r from to past.
      let ne : k ≢ r = λ e. omega arith in
      one.others r from to ne ∙ before.left r from to (omega arith);
}

-- flags that stay, where the row isn't noted
pub IsFlagMade-stays : (IsSo : Type 0) (old : OldValues) (k : ℕ) (was : List Bool) → length was ≡ 24
    → IsRowUnnoted old k → IsFlagMade (IsSoOrStays IsSo old was k) k was was
IsFlagMade-stays IsSo old k was long none =
    record { rows = long; others = λ r low high ne. refl; here = λ unset. inr (unset, none) }

-- ---- the page afterwards

-- nothing such stands in a row of the page
row_none : (is_such : What → Bool) (cells : List (List Cell)) (r : ℕ) → RowHasNone is_such (row_in_table cells r)
    → HasNone is_such cells r
row_none is_such cells r none c on =
    ap (λ (x : Cell). is_such x.what) (sym (entry_from blank_cell 1 (row_in_table cells r) c on.from_left))
    ∙ none c on.from_left on.to_right

unmarked : (p : Page) (old : OldValues) (was : List Bool) (r : ℕ) → 1 ≤ r → r ≤ 24
    → (entry false 1 was r ≡ false → HasNone is_marker p.cells r)
    → IsUnmarkedRow (page_unwound p old).cells old was r → HasNone is_marker (page_unwound p old).cells r
unmarked p old was r low high before (inl none) = row_none is_marker (page_unwound p old).cells r none
unmarked p old was r low high before (inr stays) = λ c on.
    ap (λ (x : Cell). is_marker x.what) (cell_stays p old r c on stays.1) ∙ before stays.0 c on

single : (p : Page) (old : OldValues) (was : List Bool) (r : ℕ) → 1 ≤ r → r ≤ 24
    → (entry false 1 was r ≡ false → IsSingleRow p r)
    → IsSingleRowAnew (page_unwound p old).cells (page_unwound p old).row_pens old was r
    → IsSingleRow (page_unwound p old) r
single p old was r low high before (inl so) =
    record { cells = row_none sets_double_size (page_unwound p old).cells r so.0; pen = so.1 }
single p old was r low high before (inr stays) = record {
  cells = λ c on. ap (λ (x : Cell). sets_double_size x.what) (cell_stays p old r c on stays.1)
      ∙ (before stays.0).cells c on;
  pen = ap (λ (x : Pen). is_double_set x.size) (pen_stays p old r low high stays.1) ∙ (before stays.0).pen;
}

-- nothing is noted of a row where nothing is of the same locations
none_there : (o : Option Cell) → is_some o ≡ false → o ≡ None
none_there None none = refl
none_there (Some x) none = absurd (true≢false none)

no_pen_there : (o : Option Pen) → is_some o ≡ false → o ≡ None
no_pen_there None none = refl
no_pen_there (Some x) none = absurd (true≢false none)

unnoted_before : (old noted : OldValues) (r : ℕ) → HasSameLocations old noted → 1 ≤ r → r ≤ 24
    → IsRowUnnoted noted r → IsRowUnnoted old r
unnoted_before old noted r same low high none = record {
  cells = λ c on.
      none_there (old_cell old r c) (sym (same.cells r c on) ∙ ap (λ (o : Option Cell). is_some o) (none.cells c on));
  pen = no_pen_there (old_row_pen old r)
      (sym (same.row_pens r low high) ∙ ap (λ (o : Option Pen). is_some o) none.pen);
}

-- what is so, or is as it was where nothing is noted, by other values of the same locations
so_or_stays : (IsSo : Type 0) (old noted : OldValues) (was : List Bool) (r : ℕ) → HasSameLocations old noted → 1 ≤ r
    → r ≤ 24 → IsSoOrStays IsSo noted was r → IsSoOrStays IsSo old was r
so_or_stays IsSo old noted was r same low high (inl so) = inl so
so_or_stays IsSo old noted was r same low high (inr stays) =
    inr (stays.0, unnoted_before old noted r same low high stays.1)

AreFlagsMade-same : (IsSo : ℕ → Type 0) (old noted : OldValues) (n : ℕ) (was now : List Bool)
    → HasSameLocations old noted → AreFlagsMade (λ r. IsSoOrStays (IsSo r) noted was r) n was now
    → AreFlagsMade (λ r. IsSoOrStays (IsSo r) old was r) n was now
AreFlagsMade-same IsSo old noted n was now same m = record {
  rows = m.rows;
  made = λ r low high below unset.
      so_or_stays (IsSo r) old noted was r same low high (m.made r low high below unset);
  left = m.left;
}

IsKeptPage-unwound : (p q : Page) (old : OldValues) (marked sized new_marked new_sized : List Bool)
    (cells : List (List Cell)) (pens : List Pen) (n : ℕ) → IsKeptPage p marked sized → q ≡ page_unwound p old
    → q.cells ≡ cells → q.row_pens ≡ pens → 25 ≤ n
    → AreFlagsMade (λ r. IsUnmarkedRow cells old marked r) n marked new_marked
    → AreFlagsMade (λ r. IsSingleRowAnew cells pens old sized r) n sized new_sized
    → IsKeptPage q new_marked new_sized
IsKeptPage-unwound p q old marked sized new_marked new_sized cells pens n kept is same_cells same_pens all ms ss =
    let u : Page = page_unwound p old in
    let at : u.cells ≡ cells = ap (λ (x : Page). x.cells) (sym is) ∙ same_cells in
    let pens_at : u.row_pens ≡ pens = ap (λ (x : Page). x.row_pens) (sym is) ∙ same_pens in
    subst (λ (x : Page). IsKeptPage x new_marked new_sized) (sym is) (record {
      rows = length-list_by_index 1 24 _;
      colours = length-list_by_index 0 32 _;
      names = length-list_by_index 0 4 _;
      codes = length-list_by_index 0x21 94 _;
      markers = record {
        rows = ms.rows;
        none = λ r low high unset.
            unmarked p old marked r low high (kept.markers.none r low high)
            (subst (λ (t : List (List Cell)). IsUnmarkedRow t old marked r) (sym at)
            (ms.made r low high (omega arith) unset));
      };
      sizes = record {
        rows = ss.rows;
        none = λ r low high unset.
            single p old sized r low high (kept.sizes.none r low high)
            (subst (λ (t : List (List Cell)). IsSingleRowAnew t u.row_pens old sized r) (sym at)
            (subst (λ (l : List Pen). IsSingleRowAnew cells l old sized r) (sym pens_at)
            (ss.made r low high (omega arith) unset)));
      };
    })

pub IsKeptPage-noted : (p q : Page) (old noted : OldValues) (marked sized new_marked new_sized : List Bool)
    (cells : List (List Cell)) (pens : List Pen) (n : ℕ) → HasSameLocations old noted → IsKeptPage p marked sized
    → q ≡ page_unwound p old → q.cells ≡ cells → q.row_pens ≡ pens → 25 ≤ n
    → AreFlagsMade (λ r. IsUnmarkedRow cells noted marked r) n marked new_marked
    → AreFlagsMade (λ r. IsSingleRowAnew cells pens noted sized r) n sized new_sized
    → IsKeptPage q new_marked new_sized
IsKeptPage-noted p q old noted marked sized new_marked new_sized cells pens n same kept is same_cells same_pens all ms ss =
    IsKeptPage-unwound p q old marked sized new_marked new_sized cells pens n kept is same_cells same_pens all
    (AreFlagsMade-same (λ r. RowHasNone is_marker (row_in_table cells r)) old noted n marked new_marked same ms)
    (AreFlagsMade-same (λ r. IsSingle (row_in_table cells r) (row_pen_in pens r)) old noted n sized new_sized same ss)

-- values are noted of the same locations as of themselves
pub HasSameLocations-refl : (old : OldValues) → HasSameLocations old old
HasSameLocations-refl old = record {
  cells = λ r c on. refl;
  row_pens = λ r low high. refl;
  screen_pen = refl;
  paints = λ i below. refl;
  dclut = λ i below. refl;
  patterns = λ d low high. refl;
  control = refl;
}
