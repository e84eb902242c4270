-- Rows that are renewed: each of them is due.
use Rattle.std.proofs.Common.{◌≡◌, ℕ, ◌+◌, ◌<◌, ◌≤◌, ◌==◌, ◌||◌, ◌&&◌, not, Bool, true, false, cond, List, [], ◌∷◌, length, zero, suc}
use Rattle.std.proofs.Common.{Option, Some, None, inl, inr, refl, sym, ap, ◌∙◌, arith}
use Rattle.std.specs.List.{count_by, range_with_len}
use Rattle.std.proofs.lemmas.Bool.{cases_Bool, eqb-true, or_right, true≢false}
use Rattle.std.proofs.lemmas.Bool.Decides.{nat_tests}
use Rattle.std.proofs.lemmas.List.Elements.{All-from_get_or}
use Rattle.std.proofs.lemmas.List.Folds.{list_any_none}
use Rattle.std.proofs.lemmas.List.FromFn.{get_or-range_with_len, length-range_with_len}
use Rattle.std.proofs.lemmas.List.Sums.{sum_by-cons}
use Rattle.cept_codes.specs.declared.cell.Cell.{Cell}
use Rattle.cept_codes.specs.declared.look.Look.{Look}
use Rattle.cept_codes.specs.declared.stroke.Stroke.{Stroke}
use Rattle.cept_codes.specs.declared.stroke.Stroke.TheVariants as strokes
use Rattle.cept_codes.specs.Look.{blank_look}
use Rattle.cept_codes.specs.Place.{Place, OnScreen}
use Rattle.cept_codes.specs.Same.{same_look}
use Rattle.cept_codes.specs.Table.{entry, list_by_index, value_at}
use Rattle.cept_codes.proofs.Laws.{look_decides, value_at-table}
use Rattle.cept_profile.specs.Look.{look, looks_of}
use Rattle.cept_profile.specs.MovedRows.{row_before}
use Rattle.cept_profile.specs.State.{Core}
use Rattle.cept_redraw.specs.declared.followed_rows.Followed.{Followed}
use Rattle.cept_redraw.specs.inside.Due.{followed, is_covered_from, is_due, row_from, rows_due, OtherRowsStay}
use Rattle.cept_redraw.specs.inside.Kept.{OthersStay}
use Rattle.cept_redraw.specs.Renewed.{is_renewed_from, look_otherwise, rows_renewed}
use Rattle.cept_redraw.proofs.FollowedRows.{row_from-followed}
use Rattle.cept_redraw.proofs.RowsDue.{fewer, same_count}

-- ---- rows that look alike

pub look_alike : (was now : List (List Look)) (q r : ℕ)
    → ((c : ℕ) → 1 ≤ c → c ≤ 40 → value_at blank_look was q c ≡ value_at blank_look now r c)
    → look_otherwise was q now r ≡ false
look_alike was now q r same =
    let p : ℕ → Bool = λ c. not (same_look (value_at blank_look was q c) (value_at blank_look now r c)) in
    list_any_none p (range_with_len 1 40) (All-from_get_or (λ c. p c ≡ false) (range_with_len 1 40) 0 (λ i below.
    let within : i < 40 = omega (arith, length-range_with_len 1 40) in
    let one : p (1 + i) ≡ false =
    ap not ((look_decides (value_at blank_look was q (1 + i)) (value_at blank_look now r (1 + i))).1
    (same (1 + i) (omega arith) (omega arith))) in
    ap p (get_or-range_with_len 1 40 i 0 within) ∙ one))

-- ---- a renewed row is due

renewed_due : (xs : List Stroke) (flags : List Bool) (rows : List Followed) (was now : List (List Look)) (k : Core)
    → rows ≡ list_by_index 1 24 (followed xs) → now ≡ looks_of k → OtherRowsStay flags rows was k → (r : ℕ) → 1 ≤ r
    → r ≤ 24 → is_renewed_from was (row_before xs r) now r ≡ true → is_due flags rows was now r ≡ true
renewed_due xs flags rows was now k followed looks others r low high renewed =
    elim (cases_Bool (is_due flags rows was now r)) [
      | inl due ↦ due
      | inr none ↦ by_row (row_from rows r) refl none
    ]
  where
    by_row : (found : Option ℕ) → row_from rows r ≡ found → is_due flags rows was now r ≡ false
        → is_due flags rows was now r ≡ true
    by_row None e none =
        ap (λ found. entry false 1 flags r || is_covered_from was found now r) e
        ∙ or_right (entry false 1 flags r) true refl
    by_row (Some q) e none =
        let came : row_before xs r ≡ Some q = sym (row_from-followed rows xs followed r low high) ∙ e in
        let still : is_due flags rows was (looks_of k) r ≡ false =
        ap (λ (g : List (List Look)). is_due flags rows was g r) (sym looks) ∙ none in
        let alike : look_otherwise was q now r ≡ false =
        look_alike was now q r (λ c left right.
        let on : OnScreen r c =
        record { from_top = low; to_bottom = high; from_left = left; to_right = right } in
        others r q c on still e
        ∙ sym (ap (λ (g : List (List Look)). value_at blank_look g r c) looks ∙ value_at-table (look k) blank_look r c on)) in
        absurd (true≢false (sym renewed ∙ ap (λ found. is_renewed_from was found now r) came ∙ alike))

-- so no more rows are renewed than are due
pub rows_renewed-due : (xs : List Stroke) (flags : List Bool) (rows : List Followed) (was now : List (List Look))
    (k : Core) → rows ≡ list_by_index 1 24 (followed xs) → now ≡ looks_of k → OtherRowsStay flags rows was k
    → rows_renewed xs was now ≤ rows_due flags rows was now
unfolding rows_renewed rows_due
rows_renewed-due xs flags rows was now k followed looks others =
    fewer (λ r. is_renewed_from was (row_before xs r) now r) (is_due flags rows was now)
    (renewed_due xs flags rows was now k followed looks others)

-- where no row moved, as many as where no stroke was made
pub rows_renewed-unmoved : (xs : List Stroke) (was now : List (List Look)) → ((r : ℕ) → row_before xs r ≡ Some r)
    → rows_renewed xs was now ≡ rows_renewed [] was now
unfolding rows_renewed row_before
rows_renewed-unmoved xs was now still =
    same_count (λ r. is_renewed_from was (row_before xs r) now r) (λ r. is_renewed_from was (row_before [] r) now r)
    (λ r low high. ap (λ found. is_renewed_from was found now r) (still r))

-- a list without length has no entry
pub without : (xs : List Stroke) → length xs ≡ 0 → xs ≡ []
without [] none = refl
without (x ∷ xs) none = absurd (omega arith)

-- ---- none is renewed, and one

none_counted : (f : ℕ → Bool) (n a : ℕ) → ((r : ℕ) → a ≤ r → r < a + n → f r ≡ false)
    → count_by f (range_with_len a n) ≡ 0
none_counted f zero a none = refl
none_counted f (suc n) a none =
    sum_by-cons (λ r. cond (f r) 1 0) a (range_with_len (a + 1) n)
    ∙ (λ i. cond (none a (omega arith) (omega arith) i) 1 0
    + none_counted f n (a + 1) (λ r low high. none r (omega arith) (omega arith)) i)

one_counted : (row n a : ℕ) → count_by (λ r. row == r) (range_with_len a n) ≤ 1
one_counted row zero a = omega arith
one_counted row (suc n) a =
    let first = sum_by-cons (λ r. cond {A = ℕ} (row == r) 1 0) a (range_with_len (a + 1) n) in
    elim (cases_Bool (row == a)) [
      | inl here ↦
          let same : row ≡ a = eqb-true row a here in
          let one : cond {A = ℕ} (row == a) 1 0 ≡ 1 = ap (λ b. cond {A = ℕ} b 1 0) here in
          omega (
            arith,
            first,
            one,
            none_counted (λ r. row == r) n (a + 1) (λ r low high. grind (arith, nat_tests)),
          )
      | inr apart ↦
          let no : cond {A = ℕ} (row == a) 1 0 ≡ 0 = ap (λ b. cond {A = ℕ} b 1 0) apart in
          omega (arith, first, no, one_counted row n (a + 1))
    ]

-- looks that stay are renewed in no row, where no stroke was made
pub rows_renewed-none : (xs : List Stroke) (was now : List (List Look)) → xs ≡ [] → was ≡ now
    → rows_renewed xs was now ≡ 0
unfolding rows_renewed row_before
rows_renewed-none xs was now none same =
    ap (λ (l : List Stroke). rows_renewed l was now) none
    ∙ none_counted (λ r. is_renewed_from was (row_before [] r) now r) 24 1 (λ r low high.
    look_alike was now r r (λ c left right. ap (λ (g : List (List Look)). value_at blank_look g r c) same))

-- a cell that is put renews one row at most, where all other places stay
pub rows_renewed-put : (place : Place) (cell : Cell) (xs : List Stroke) (was now : List (List Look)) (k : Core)
    → xs ≡ strokes.Put place cell ∷ [] → now ≡ looks_of k → OthersStay was k place → rows_renewed xs was now ≤ 1
unfolding rows_renewed row_before
rows_renewed-put place cell xs was now k only looks others =
    let alone : List Stroke = strokes.Put place cell ∷ [] in
    let few : count_by (λ r. is_renewed_from was (row_before alone r) now r) (range_with_len 1 24)
    ≤ count_by (λ r. place.row == r) (range_with_len 1 24) =
    fewer (λ r. is_renewed_from was (row_before alone r) now r) (λ r. place.row == r) here in
    omega (
      arith,
      ap (λ (l : List Stroke). rows_renewed l was now) only,
      few,
      one_counted place.row 24 1,
    )
  where
    here : (r : ℕ) → 1 ≤ r → r ≤ 24 → look_otherwise was r now r ≡ true → (place.row == r) ≡ true
    here r low high renewed = elim (cases_Bool (place.row == r)) [
      | inl is ↦ is
      | inr apart ↦
          let alike : look_otherwise was r now r ≡ false =
          look_alike was now r r (λ c left right.
          let on : OnScreen r c =
          record { from_top = low; to_bottom = high; from_left = left; to_right = right } in
          others r c on (ap (λ b. b && (place.column == c)) apart)
          ∙ sym (ap (λ (g : List (List Look)). value_at blank_look g r c) looks
          ∙ value_at-table (look k) blank_look r c on)) in
          absurd (true≢false (sym renewed ∙ alike))
    ]
