-- Rows of which none moved: whether one is due is asked of the row itself.
use Rattle.std.proofs.Common.{◌≡◌, ℕ, ◌≤◌, ◌||◌, Bool, true, false, List, []}
use Rattle.std.proofs.Common.{Option, Some, None, refl, sym, ap, ◌∙◌, arith}
use Rattle.std.proofs.lemmas.Bool.{or_left, true≢false}
use Rattle.cept_codes.specs.declared.look.Look.{Look}
use Rattle.cept_codes.specs.Look.{blank_look}
use Rattle.cept_codes.specs.Table.{entry, value_at}
use Rattle.cept_codes.proofs.Laws.{entry-list_by_index}
use Rattle.cept_profile.specs.Look.{look, looks_of}
use Rattle.cept_profile.specs.RowsFromAbove.{is_covered_otherwise}
use Rattle.cept_profile.specs.State.{Core}
use Rattle.cept_redraw.specs.declared.followed_rows.Followed.{Followed}
use Rattle.cept_redraw.specs.inside.Due.{at_rest, followed, freed, is_covered_from, is_due, row_from, rows_due}
use Rattle.cept_redraw.specs.inside.Due.{OtherRowsStay}
use Rattle.cept_redraw.proofs.FollowedRows.{followed-rest}
use Rattle.cept_redraw.proofs.RowsDue.{same_count}

pub row_from-rest : (r : ℕ) → 1 ≤ r → r ≤ 24 → row_from at_rest r ≡ Some r
row_from-rest r low high =
    ap (λ (f : Followed). f.from) (entry-list_by_index freed 1 24 (followed []) r low (omega (arith, high))
    ∙ followed-rest r)

-- whether it is due
pub due-rest : (flags : List Bool) (was now : List (List Look)) (r : ℕ) → 1 ≤ r → r ≤ 24
    → is_due flags at_rest was now r ≡ (entry false 1 flags r || is_covered_otherwise was r now r)
due-rest flags was now r low high =
    ap (λ found. entry false 1 flags r || is_covered_from was found now r) (row_from-rest r low high)

-- each of these rows that was freed is flagged, and any other came of itself
pub record AreStill (flags : List Bool) (rows : List Followed) : Type 0 where
  pub freed : (r : ℕ) → 1 ≤ r → r ≤ 24 → row_from rows r ≡ None → entry false 1 flags r ≡ true
  pub still : (r q : ℕ) → 1 ≤ r → r ≤ 24 → row_from rows r ≡ Some q → q ≡ r

-- the same rows are due as where they are followed
due-still : {flags : List Bool} {rows : List Followed} → AreStill flags rows → (was now : List (List Look)) (r : ℕ)
    → 1 ≤ r → r ≤ 24 → is_due flags at_rest was now r ≡ is_due flags rows was now r
due-still {flags} {rows} are was now r low high =
    due-rest flags was now r low high ∙ by_row (row_from rows r) refl
  where
    by_row : (found : Option ℕ) → row_from rows r ≡ found
        → (entry false 1 flags r || is_covered_otherwise was r now r) ≡ is_due flags rows was now r
    by_row None e =
        or_left (entry false 1 flags r) (is_covered_otherwise was r now r) (are.freed r low high e)
        ∙ sym (or_left (entry false 1 flags r) (is_covered_from was (row_from rows r) now r) (are.freed r low high e))
    by_row (Some q) e =
        ap (λ n. entry false 1 flags r || is_covered_otherwise was n now r) (sym (are.still r q low high e))
        ∙ ap (λ found. entry false 1 flags r || is_covered_from was found now r) (sym e)

pub OtherRowsStay-still : {flags : List Bool} {rows : List Followed} → AreStill flags rows → (was : List (List Look))
    (k : Core) → OtherRowsStay flags rows was k → OtherRowsStay flags at_rest was k
OtherRowsStay-still {flags} {rows} are was k others r q c on none came =
    by_row (row_from rows r) refl
  where
    by_row : (found : Option ℕ) → row_from rows r ≡ found → value_at blank_look was q c ≡ look k r c
    by_row None e =
        let flag = are.freed r on.from_top on.to_bottom e in
        absurd (true≢false (sym (or_left (entry false 1 flags r)
        (is_covered_from was (row_from at_rest r) (looks_of k) r) flag) ∙ none))
    by_row (Some p) e =
        let stays : Some q ≡ Some r = sym came ∙ row_from-rest r on.from_top on.to_bottom in
        let here : q ≡ r = cc in
        let same : p ≡ q = are.still r p on.from_top on.to_bottom e ∙ sym here in
        others r q c on (sym (due-still are was (looks_of k) r on.from_top on.to_bottom) ∙ none)
        (e ∙ ap (λ n. Some n) same)

pub rows_due-still : {flags : List Bool} {rows : List Followed} → AreStill flags rows → (was now : List (List Look))
    → rows_due flags at_rest was now ≡ rows_due flags rows was now
unfolding rows_due
rows_due-still {flags} {rows} are was now =
    same_count (is_due flags at_rest was now) (is_due flags rows was now) (due-still are was now)
