-- A row that stands alone of which only the redefined places are resolved, and the walk over it.
use Rattle.std.proofs.Common.{◌≡◌, ℕ, ◌+◌, ◌-◌, ◌≤◌, cond, not, Bool, true, false, List, length, set}
use Rattle.std.proofs.Common.{inl, inr, refl, sym, ap, ◌∙◌, arith}
use Rattle.std.proofs.lemmas.Bool.{cases_Bool, cond-false, cond-true}
use Rattle.cept_codes.specs.declared.look.Look.{Look}
use Rattle.cept_codes.specs.declared.stroke.Stroke.{Stroke}
use Rattle.cept_codes.specs.Look.{blank_look}
use Rattle.cept_codes.specs.Place.{OnScreen, Place, number}
use Rattle.cept_codes.specs.Same.{same_look}
use Rattle.cept_codes.specs.Table.{entry, list_by_index, row_of, IsTable}
use Rattle.cept_codes.proofs.Laws.{entry-list_by_index, length-list_by_index, row_of-list_by_index, same_indexed}
use Rattle.cept_profile.specs.Look.{look, looks_of}
use Rattle.cept_profile.specs.RowsFromAbove.{look_seen, looks_in}
use Rattle.cept_profile.specs.State.{Core, Page}
use Rattle.cept_profile.specs.Tiling.{column_entry}
use Rattle.cept_profile.specs.Valid.{IsValidPage}
use Rattle.cept_page.specs.MarkedRows.{StandsAlone}
use Rattle.cept_redraw.specs.declared.followed_rows.Followed.{Followed}
use Rattle.cept_redraw.specs.inside.Due.{is_due}
use Rattle.cept_redraw.specs.Kept.{core_on}
use Rattle.cept_redraw.specs.inside.Kept.{IsRefreshedRow, look_alone}
use Rattle.cept_redraw.specs.inside.Marks.{HasFlags}
use Rattle.cept_redraw.specs.Named.{NamesOfRows, row_named}
use Rattle.cept_redraw.specs.inside.Redefined.{OtherPlacesStay, is_place_redefined, places_resolved}
use Rattle.cept_redraw.proofs.AloneRows.{covers_nothing-in, look-alone}
use Rattle.cept_redraw.proofs.MarkedDifferences.{HasMarkedRow-flags, uncovered}
use Rattle.cept_redraw.proofs.Refreshed.{IsRefreshed-row, IsRefreshedRow-made}
use Rattle.cept_redraw.proofs.RowsDue.{ticks-yes}
use Rattle.cept_redraw.proofs.RowsOfLooks.{covered_otherwise-below, look_seen-at, looks_in-same, looks_in-set}
use Rattle.cept_redraw.proofs.WalkedRows.{WalkedTo}
use Rattle.cept_rows.specs.declared.naming.RowNames.{RowNames}

same_rows : (f g : ℕ → Look) → ((c : ℕ) → 1 ≤ c → c ≤ 40 → f c ≡ g c) → row_of f ≡ row_of g
same_rows f g same =
    row_of-list_by_index f ∙ same_indexed 1 40 f g (λ c low high. same c low (omega (arith, high)))
    ∙ sym (row_of-list_by_index g)

-- the row is refreshed, where these columns were flagged and these looks differ
pub IsRefreshedRow-places : (p : Page) (xs : List Stroke) (names : RowNames) (row : ℕ) (was now : List (List Look))
    (before marks flags differ : List Bool) → IsTable was → 1 ≤ row → row ≤ 24
    → flags ≡ list_by_index 1 40 (is_place_redefined xs names (looks_in was row))
    → now ≡ set was (row - 1) (row_of (λ c. cond (entry false 1 flags c)
    (look_alone p (record { row = row; column = c })) (column_entry blank_look (looks_in was row) c)))
    → differ ≡ list_by_index 1 40 (λ c. not (same_look (column_entry blank_look (looks_in was row) c)
    (column_entry blank_look (looks_in now row) c)))
    → HasFlags differ (number row 1) before marks
    → IsRefreshedRow (places_resolved xs names (looks_in was row) p row) row was now before marks
IsRefreshedRow-places p xs names row was now before marks flags differ is top bottom ef en ed has =
    let fresh : List Look = places_resolved xs names (looks_in was row) p row in
    let looks : List Look = looks_in was row in
    let made : now ≡ set was (row - 1) fresh =
    en ∙ ap (set was (row - 1)) (same_rows _ _ (λ c low high.
    ap (λ b. cond b (look_alone p (record { row = row; column = c })) (column_entry blank_look looks c))
    (ap (λ (l : List Bool). entry false 1 l c) ef
    ∙ entry-list_by_index false 1 40 (is_place_redefined xs names looks) c low (omega (arith, high))))) in
    let new : looks_in now row ≡ fresh =
    ap (λ (t : List (List Look)). looks_in t row) made ∙ looks_in-set was row fresh is top bottom in
    IsRefreshedRow-made was now before marks row fresh is (ap length (row_of-list_by_index _) ∙ length-list_by_index 1 40 _)
    top bottom made
    (HasMarkedRow-flags looks fresh row (number row 1) differ before marks
    (ed ∙ ap (λ (l : List Look). list_by_index 1 40 (λ c. not (same_look (column_entry blank_look looks c)
    (column_entry blank_look l c)))) new) refl has)

-- it holds the looks of the core, where all other places do
places_are : (m : Core) (p : Page) (xs : List Stroke) (names : NamesOfRows) (was : List (List Look)) (row : ℕ)
    → IsTable was → 1 ≤ row → row ≤ 24 → IsValidPage p → StandsAlone p row → OtherPlacesStay xs names was p
    → places_resolved xs (row_named names row) (looks_in was row) p row ≡ row_of (look (core_on m p) row)
places_are m p xs names was row is top bottom valid alone others =
    same_rows _ _ (λ c low high.
    let on : OnScreen row c = record { from_top = top; to_bottom = bottom; from_left = low; to_right = high } in
    let place : Place = record { row = row; column = c } in
    let redefined : Bool = is_place_redefined xs (row_named names row) (looks_in was row) c in
    elim (cases_Bool redefined) [
      | inl so ↦ cond-true redefined (look_alone p place) (look_seen was row c) so
      | inr other ↦
          cond-false redefined (look_alone p place) (look_seen was row c) other ∙ look_seen-at was row c is on
          ∙ others.stay row c on alone other
    ]
    ∙ sym (look-alone p m row c valid on alone))

pub WalkedTo-places : (m : Core) (p : Page) {flags : List Bool} {rows : List Followed} {was mid : List (List Look)}
    {former between : List Bool} {covered : Bool} {start steps row : ℕ}
    → WalkedTo flags rows (core_on m p) was mid former between covered start steps row → IsTable was → 1 ≤ row → row ≤ 24
    → is_due flags rows was (looks_of (core_on m p)) row ≡ true → covered ≡ false → IsValidPage p → StandsAlone p row
    → (xs : List Stroke) (names : NamesOfRows) → OtherPlacesStay xs names was p
    → (now : List (List Look)) (marks : List Bool) (more : ℕ)
    → IsRefreshedRow (places_resolved xs (row_named names row) (looks_in mid row) p row) row mid now between marks
    → more ≡ steps + 1
    → WalkedTo flags rows (core_on m p) was now former marks covered start more (row + 1)
WalkedTo-places m p {flags} {rows} {was} {mid} {former} {between} {covered} {start} {steps} {row} w is top bottom due
    free valid alone xs names others now marks more r tick =
    let k : Core = core_on m p in
    let unchanged : looks_in mid row ≡ looks_in was row =
    looks_in-same mid was row w.refreshed.is is top bottom (λ c on. w.refreshed.below row c on (omega arith)) in
    let fresh : places_resolved xs (row_named names row) (looks_in mid row) p row ≡ row_of (look k row) =
    ap (λ (l : List Look). places_resolved xs (row_named names row) l p row) unchanged
    ∙ places_are m p xs names was row is top bottom valid alone others in
    record {
      refreshed = IsRefreshed-row (look k) was mid now former between marks row
          (places_resolved xs (row_named names row) (looks_in mid row) p row) top bottom fresh w.refreshed r;
      covering =
          free
          ∙ sym (covered_otherwise-below was (looks_of k) row
          ∙ uncovered (looks_in was row) (looks_in (looks_of k) row) (λ c. others.low row c top bottom alone)
          (covers_nothing-in p m row valid bottom (λ low. alone.single)));
      ticks = ticks-yes (is_due flags rows was (looks_of k)) row start steps more top bottom due w.ticks tick;
    }
