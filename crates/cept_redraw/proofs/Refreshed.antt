-- Looks refreshed and their places marked where they differed: one place, ranges of places joined, and the whole
-- screen.
use Rattle.std.proofs.Common.{◌≡◌, ◌≢◌, ℕ, ◌+◌, ◌-◌, ◌*◌, ◌<◌, ◌≤◌, ◌==◌, ◌&&◌, ◌||◌, Bool, true, false, not, cond}
use Rattle.std.proofs.Common.{List, set, length, refl, sym, ap, subst, ◌∙◌, inl, inr, arith}
use Rattle.std.proofs.lemmas.List.{length-set, get_or-set_same, get_or-set_other}
use Rattle.std.proofs.lemmas.List.FromFn.{fill_by_all}
use Rattle.std.proofs.lemmas.Bool.{cases_lt, and_parts, eqb-true, cond-true, cond-false, false_from_ne_true}
use Rattle.std.proofs.lemmas.Bool.Decides.{nat_tests}
use Rattle.cept_codes.specs.declared.look.Look.{Look}
use Rattle.cept_codes.specs.Look.{blank_look}
use Rattle.cept_codes.specs.Place.{Place, OnScreen, number, place_of}
use Rattle.cept_codes.specs.Same.{same_look}
use Rattle.cept_codes.specs.Table.{value_at, entry, row_of, table, IsTable}
use Rattle.cept_codes.proofs.Laws.{value_at-table, IsTable-table, look_decides, set_row_is, table-value_at}
use Rattle.cept_codes.proofs.Laws.{same_table}
use Rattle.cept_codes.proofs.Laws.{OnScreen-place_of, number-place_of, row_of-list_by_index, entry-list_by_index}
use Rattle.cept_codes.proofs.Laws.{entry_from}
use Rattle.cept_profile.specs.Cells.{is_at}
use Rattle.cept_profile.specs.Changes.{look_at, differences, grid_with_paint}
use Rattle.cept_profile.specs.RowsFromAbove.{looks_in}
use Rattle.cept_profile.specs.Tiling.{column_entry}
use Rattle.cept_redraw.specs.inside.Kept.{HasMarkedRow, IsRefreshed, is_other_look, IsRefreshedRow}
use Rattle.cept_redraw.specs.Marks.{is_marked, no_marks}
use Rattle.cept_redraw.proofs.RowsOfLooks.{column_entry-at, look_seen-at}
use Rattle.cept_redraw.proofs.Unmarked.{length-no_marks, is_marked-no_marks}

-- looks that are the same don't differ
pub differ_same : (a b : Look) → a ≡ b → is_other_look a b ≡ false
unfolding is_other_look
differ_same a b e = ap not ((look_decides a b).1 e)

pub or_true : (b : Bool) → true ≡ (b || true)
or_true true = refl
or_true false = refl

pub or_false : (b : Bool) → b ≡ (b || false)
or_false true = refl
or_false false = refl

-- ---- a flag set, or not: what is read there and elsewhere

flag_other : (d : Bool) (marks : List Bool) (m n : ℕ) → n ≢ m
    → is_marked (cond d (set marks m true) marks) n ≡ is_marked marks n
flag_other true marks m n ne = get_or-set_other marks m n true false ne
flag_other false marks m n ne = refl

flag_here : (d : Bool) (marks : List Bool) (m : ℕ) → m < length marks
    → is_marked (cond d (set marks m true) marks) m ≡ (is_marked marks m || d)
flag_here true marks m below = get_or-set_same marks m true false below ∙ or_true (is_marked marks m)
flag_here false marks m below = or_false (is_marked marks m)

flag_length : (d : Bool) (marks : List Bool) (m : ℕ) → length (cond d (set marks m true) marks) ≡ length marks
flag_length true marks m = length-set marks m true
flag_length false marks m = refl

-- ---- a place painted: what is read there and elsewhere

at_row : (p : Place) (r c : ℕ) → is_at p r c ≡ true → (p.row ≡ r) × (p.column ≡ c)
at_row p r c here =
    let parts = and_parts (p.row == r) (p.column == c) here in
    (eqb-true p.row r parts.0, eqb-true p.column c parts.1)

is_at-here : (p : Place) (r c : ℕ) → p.row ≡ r → p.column ≡ c → is_at p r c ≡ true
is_at-here p r c er ec =
    let row : (p.row == r) ≡ true = grind (arith, nat_tests) in
    let column : (p.column == c) ≡ true = grind (arith, nat_tests) in
    ap (λ b. b && (p.column == c)) row ∙ column

is_at-elsewhere : (p : Place) (r c : ℕ) → OnScreen r c → number r c ≢ number p.row p.column → is_at p r c ≡ false
is_at-elsewhere p r c on ne =
    false_from_ne_true (is_at p r c) (λ here.
    let parts = at_row p r c here in
    let er : p.row ≡ r = parts.0 in
    let ec : p.column ≡ c = parts.1 in
    ne (ap (λ q. number q c) (sym er) ∙ ap (λ k. number p.row k) (sym ec)))

grid_with_paint-here : (was : List (List Look)) (p : Place) (l : Look) (r c : ℕ) → OnScreen r c → p.row ≡ r
    → p.column ≡ c
    → value_at blank_look (grid_with_paint was p l) r c ≡ l
grid_with_paint-here was p l r c on er ec =
    value_at-table (λ q k. cond (is_at p q k) l (value_at blank_look was q k)) blank_look r c on
    ∙ cond-true (is_at p r c) l (value_at blank_look was r c) (is_at-here p r c er ec)

grid_with_paint-elsewhere : (was : List (List Look)) (p : Place) (l : Look) (r c : ℕ) → OnScreen r c
    → number r c ≢ number p.row p.column → value_at blank_look (grid_with_paint was p l) r c
    ≡ value_at blank_look was r c
grid_with_paint-elsewhere was p l r c on ne =
    value_at-table (λ q k. cond (is_at p q k) l (value_at blank_look was q k)) blank_look r c on
    ∙ cond-false (is_at p r c) l (value_at blank_look was r c) (is_at-elsewhere p r c on ne)

-- ---- ranges

-- no place
pub IsRefreshed-none : (f : ℕ → ℕ → Look) (was : List (List Look)) (marks : List Bool) (n : ℕ) → IsTable was
    → length marks ≡ 960 → IsRefreshed f was was marks marks n n
IsRefreshed-none f was marks n is long = record {
  is = is;
  places = long;
  shown = λ r c on low high. absurd (omega arith);
  marked = λ r c on low high. absurd (omega arith);
  above = λ r c on up. refl;
  below = λ r c on down. refl;
  marks_above = λ n up. refl;
  marks_below = λ n down. refl;
}

-- one place
pub IsRefreshed-place : (was now : List (List Look)) (before marks : List Bool) (p : Place) (fresh : Look) (d : Bool)
    → length before ≡ 960 → OnScreen p.row p.column → d ≡ is_other_look (look_at was p) fresh
    → now ≡ grid_with_paint was p fresh
    → marks ≡ cond d (set before (number p.row p.column) true) before
    → IsRefreshed (λ _ _. fresh) was now before marks (number p.row p.column) (number p.row p.column + 1)
IsRefreshed-place was now before marks p fresh d long on ed e em = record {
  is = subst (λ (t : List (List Look)). IsTable t) (sym e)
      (IsTable-table (λ q k. cond (is_at p q k) fresh (value_at blank_look was q k)));
  places = ap length em ∙ flag_length d before (number p.row p.column) ∙ long;
  shown = λ r c there low high.
      ap (λ (t : List (List Look)). value_at blank_look t r c) e
      ∙ grid_with_paint-here was p fresh r c there (omega (arith, on, there)) (omega (arith, on, there));
  marked = λ r c there low high.
      let same : number r c ≡ number p.row p.column = omega arith in
      let er : p.row ≡ r = omega (arith, on, there) in
      let ec : p.column ≡ c = omega (arith, on, there) in
      let own : look_at was p ≡ value_at blank_look was r c =
      ap (λ q. value_at blank_look was q p.column) er ∙ ap (λ k. value_at blank_look was r k) ec in
      ap (λ (l : List Bool). is_marked l (number r c)) em
      ∙ ap (is_marked (cond d (set before (number p.row p.column) true) before)) same
      ∙ flag_here d before (number p.row p.column) (omega (arith, long, on))
      ∙ ap (λ b. is_marked before (number p.row p.column) || b) ed
      ∙ ap (λ (l : Look). is_marked before (number p.row p.column) || is_other_look l fresh) own
      ∙ ap (λ n. is_marked before n || is_other_look (value_at blank_look was r c) fresh) (sym same);
  above = λ r c there up.
      ap (λ (t : List (List Look)). value_at blank_look t r c) e
      ∙ grid_with_paint-elsewhere was p fresh r c there (λ h. omega arith);
  below = λ r c there down.
      ap (λ (t : List (List Look)). value_at blank_look t r c) e
      ∙ grid_with_paint-elsewhere was p fresh r c there (λ h. omega arith);
  marks_above = λ n up.
      ap (λ (l : List Bool). is_marked l n) em ∙ flag_other d before (number p.row p.column) n (λ h. omega arith);
  marks_below = λ n down.
      ap (λ (l : List Bool). is_marked l n) em ∙ flag_other d before (number p.row p.column) n (λ h. omega arith);
}

-- the same by another function that says the same of these places
pub IsRefreshed-alike : (f g : ℕ → ℕ → Look) (was now : List (List Look)) (before marks : List Bool) (first end : ℕ)
    → ((r c : ℕ) → OnScreen r c → first ≤ number r c → number r c < end → f r c ≡ g r c)
    → IsRefreshed f was now before marks first end → IsRefreshed g was now before marks first end
IsRefreshed-alike f g was now before marks first end alike m = record {
  is = m.is;
  places = m.places;
  shown = λ r c on low high. m.shown r c on low high ∙ alike r c on low high;
  marked = λ r c on low high.
      m.marked r c on low high
      ∙ ap (λ (l : Look). is_marked before (number r c)
      || is_other_look (value_at blank_look was r c) l) (alike r c on low high);
  above = m.above;
  below = m.below;
  marks_above = m.marks_above;
  marks_below = m.marks_below;
}

-- a range and the range after it
pub IsRefreshed-append : (f : ℕ → ℕ → Look) (was mid now : List (List Look))
    (before between marks : List Bool) (a b c : ℕ)
    → a ≤ b → b ≤ c → IsRefreshed f was mid before between a b → IsRefreshed f mid now between marks b c
    → IsRefreshed f was now before marks a c
IsRefreshed-append f was mid now before between marks a b end low high m n = record {
  is = n.is;
  places = n.places;
  shown = λ r c on from to.
      elim (cases_lt (number r c) b) [
        | inl up ↦ n.above r c on up ∙ m.shown r c on from up
        | inr not_up ↦ n.shown r c on (omega arith) to
      ];
  marked = λ r c on from to.
      elim (cases_lt (number r c) b) [
        | inl up ↦ n.marks_above (number r c) up ∙ m.marked r c on from up
        | inr not_up ↦
            n.marked r c on (omega arith) to
            ∙ ap (λ (x : Bool). x || is_other_look (value_at blank_look mid r c) (f r c))
            (m.marks_below (number r c) (omega arith))
            ∙ ap (λ (l : Look). is_marked before (number r c) || is_other_look l (f r c)) (m.below r c on (omega arith))
      ];
  above = λ r c on up. n.above r c on (omega arith) ∙ m.above r c on up;
  below = λ r c on down. n.below r c on down ∙ m.below r c on (omega arith);
  marks_above = λ q up. n.marks_above q (omega arith) ∙ m.marks_above q up;
  marks_below = λ q down. n.marks_below q down ∙ m.marks_below q (omega arith);
}

-- places that show already what they are to show
pub IsRefreshed-kept : (f : ℕ → ℕ → Look) (was : List (List Look)) (marks : List Bool) (first end : ℕ) → IsTable was
    → length marks ≡ 960
    → ((r c : ℕ) → OnScreen r c → first ≤ number r c → number r c < end → value_at blank_look was r c ≡ f r c)
    → IsRefreshed f was was marks marks first end
IsRefreshed-kept f was marks first end is long same = record {
  is = is;
  places = long;
  shown = same;
  marked = λ r c on low high.
      or_false (is_marked marks (number r c))
      ∙ ap (λ b. is_marked marks (number r c) || b)
      (sym (differ_same (value_at blank_look was r c) (f r c) (same r c on low high)));
  above = λ r c on up. refl;
  below = λ r c on down. refl;
  marks_above = λ n up. refl;
  marks_below = λ n down. refl;
}

-- the same range by other names of its ends
pub IsRefreshed-range : {f : ℕ → ℕ → Look} {was now : List (List Look)} {before marks : List Bool} {a b : ℕ}
    → IsRefreshed f was now before marks a b → (first end : ℕ) → a ≡ first → b ≡ end
    → IsRefreshed f was now before marks first end
IsRefreshed-range {f} {was} {now} {before} {marks} {a} {b} m first end ea eb =
    subst (λ n. IsRefreshed f was now before marks first n) eb
    (subst (λ n. IsRefreshed f was now before marks n b) ea m)

-- a row replaced, whose places are marked where the looks differ
pub IsRefreshedRow-made : (was now : List (List Look)) (before marks : List Bool) (row : ℕ) (fresh : List Look)
    → IsTable was → length fresh ≡ 40 → 1 ≤ row → row ≤ 24 → now ≡ set was (row - 1) fresh
    → HasMarkedRow (looks_in was row) fresh row 41 before marks → IsRefreshedRow fresh row was now before marks
IsRefreshedRow-made was now before marks row fresh is long top bottom e m =
    let f : ℕ → ℕ → Look =
    λ r c. cond (row == r) (entry blank_look 1 fresh c) (value_at blank_look was r c) in
    let made : now ≡ table f =
    e ∙ set_row_is was blank_look (row - 1) row fresh is (omega arith) (omega arith) long in
    let elsewhere : (r c : ℕ) → OnScreen r c → row ≢ r → value_at blank_look now r c ≡ value_at blank_look was r c =
    λ r c on apart.
    let other : (row == r) ≡ false = grind (arith, nat_tests) in
    ap (λ (t : List (List Look)). value_at blank_look t r c) made ∙ value_at-table f blank_look r c on
    ∙ cond-false (row == r) (entry blank_look 1 fresh c) (value_at blank_look was r c) other in
    record {
      is = subst (λ (t : List (List Look)). IsTable t) (sym made) (IsTable-table f);
      places = m.places;
      shown = λ r c on low high.
          let same : row ≡ r = omega (arith, on) in
          let here : (row == r) ≡ true = grind (arith, nat_tests) in
          ap (λ (t : List (List Look)). value_at blank_look t r c) made ∙ value_at-table f blank_look r c on
          ∙ cond-true (row == r) (entry blank_look 1 fresh c) (value_at blank_look was r c) here
          ∙ entry_from blank_look 1 fresh c on.from_left ∙ sym (column_entry-at blank_look fresh c on.from_left);
      marked = λ r c on low high.
          let same : row ≡ r = omega (arith, on) in
          let there : OnScreen row c = subst (λ q. OnScreen q c) (sym same) on in
          ap (λ q. is_marked marks (number q c)) (sym same) ∙ m.marked c there (omega (arith, on))
          ∙ ap (λ (l : Look). is_marked before (number row c) || is_other_look l (column_entry blank_look fresh c))
          (look_seen-at was row c is there)
          ∙ ap (λ q. is_marked before (number q c)
          || is_other_look (value_at blank_look was q c) (column_entry blank_look fresh c)) same;
      above = λ r c on up. elsewhere r c on (λ same. omega (arith, on));
      below = λ r c on down. elsewhere r c on (λ same. omega (arith, on));
      marks_above = λ n up. m.marks_above n (omega arith);
      marks_below = λ n down. m.marks_below n (omega arith);
    }

-- a row more of the screen
pub IsRefreshed-row : (f : ℕ → ℕ → Look) (was mid now : List (List Look)) (before between marks : List Bool) (row : ℕ)
    (fresh : List Look) → 1 ≤ row → row ≤ 24 → fresh ≡ row_of (f row)
    → IsRefreshed f was mid before between 0 (40 * (row - 1))
    → IsRefreshedRow fresh row mid now between marks
    → IsRefreshed f was now before marks 0 (40 * ((row + 1) - 1))
IsRefreshed-row f was mid now before between marks row fresh top bottom e m n =
    let own : IsRefreshed f mid now between marks (40 * (row - 1)) (40 * row) =
    IsRefreshed-alike (λ _ c. column_entry blank_look fresh c) f mid now between marks _ _ (λ r c on low high.
    let same : row ≡ r = omega (arith, on) in
    column_entry-at blank_look fresh c on.from_left ∙ sym (entry_from blank_look 1 fresh c on.from_left)
    ∙ ap (λ (l : List Look). entry blank_look 1 l c) (e ∙ row_of-list_by_index (f row))
    ∙ entry-list_by_index blank_look 1 40 (f row) c on.from_left (omega (arith, on)) ∙ ap (λ q. f q c) same) n in
    IsRefreshed-append f was mid now before between marks 0 (40 * (row - 1)) _ (omega arith) (omega arith) m
    (IsRefreshed-range own _ _ refl (omega arith))

-- a row more that shows already what it is to show
pub IsRefreshed-row_kept : (f : ℕ → ℕ → Look) (was now : List (List Look)) (before marks : List Bool) (row : ℕ)
    → 1 ≤ row → row ≤ 24 → ((c : ℕ) → OnScreen row c → value_at blank_look was row c ≡ f row c)
    → IsRefreshed f was now before marks 0 (40 * (row - 1))
    → IsRefreshed f was now before marks 0 (40 * ((row + 1) - 1))
IsRefreshed-row_kept f was now before marks row top bottom same m =
    IsRefreshed-append f was now now before marks marks 0 (40 * (row - 1)) _ (omega arith) (omega arith) m
    (IsRefreshed-kept f now marks _ _ m.is m.places (λ r c on low high.
    let here : row ≡ r = omega (arith, on) in
    m.below r c on low ∙ subst (λ q. OnScreen q c → value_at blank_look was q c ≡ f q c) here (same c) on))

-- ---- the whole screen, where the places outside the range show already what they are to show

-- what the places outside a range show
abbrev pub Outside : (ℕ → ℕ → Look) → List (List Look) → ℕ → ℕ → Type 0
Outside f was first end =
    (r c : ℕ) → OnScreen r c → ((first ≤ number r c) × (number r c < end) → ⊥) → value_at blank_look was r c ≡ f r c

shown_anywhere : (f : ℕ → ℕ → Look) (was now : List (List Look)) (before marks : List Bool) (first end : ℕ)
    → IsRefreshed f was now before marks first end → Outside f was first end → (r c : ℕ) → OnScreen r c
    → value_at blank_look now r c ≡ f r c
shown_anywhere f was now before marks first end m outside r c on =
    elim (cases_lt (number r c) first) [
      | inl up ↦ m.above r c on up ∙ outside r c on (λ h. omega (arith, h.0))
      | inr not_up ↦ elim (cases_lt (number r c) end) [
        | inl inside ↦ m.shown r c on (omega arith) inside
        | inr past ↦ m.below r c on (omega arith) ∙ outside r c on (λ h. omega (arith, h.1))
      ]
    ]

pub IsRefreshed-looks : (f : ℕ → ℕ → Look) (was now : List (List Look)) (before marks : List Bool) (first end : ℕ)
    → IsRefreshed f was now before marks first end → Outside f was first end → now ≡ table f
IsRefreshed-looks f was now before marks first end m outside =
    sym (table-value_at now blank_look m.is)
    ∙ same_table (value_at blank_look now) f (shown_anywhere f was now before marks first end m outside)

differs_anywhere : (f : ℕ → ℕ → Look) (was now : List (List Look)) (marks : List Bool) (first end : ℕ)
    → IsRefreshed f was now no_marks marks first end → (r c : ℕ) → OnScreen r c
    → is_marked marks (number r c) ≡ is_other_look (value_at blank_look was r c) (value_at blank_look now r c)
differs_anywhere f was now marks first end m r c on =
    elim (cases_lt (number r c) first) [
      | inl up ↦
          m.marks_above (number r c) up ∙ is_marked-no_marks (number r c)
          ∙ sym (differ_same (value_at blank_look was r c) (value_at blank_look now r c) (sym (m.above r c on up)))
      | inr not_up ↦ elim (cases_lt (number r c) end) [
        | inl inside ↦
            m.marked r c on (omega arith) inside
            ∙ ap (λ b. b || is_other_look (value_at blank_look was r c) (f r c)) (is_marked-no_marks (number r c))
            ∙ ap (is_other_look (value_at blank_look was r c)) (sym (m.shown r c on (omega arith) inside))
        | inr past ↦
            m.marks_below (number r c) (omega arith) ∙ is_marked-no_marks (number r c)
            ∙ sym (differ_same (value_at blank_look was r c) (value_at blank_look now r c)
            (sym (m.below r c on (omega arith))))
      ]
    ]

pub differences_is : (g h : List (List Look)) (marks : List Bool) → length marks ≡ 960
    → ((k : ℕ) → k < 960 → is_marked marks k ≡ is_other_look (look_at g (place_of k)) (look_at h (place_of k)))
    → marks ≡ differences g h
unfolding differences is_other_look
differences_is g h marks places each =
    fill_by_all (λ k. not (same_look (look_at g (place_of k)) (look_at h (place_of k)))) marks 960 false places each

pub IsRefreshed-marks : (f : ℕ → ℕ → Look) (was now : List (List Look)) (before marks : List Bool) (first end : ℕ)
    → before ≡ no_marks → IsRefreshed f was now before marks first end → marks ≡ differences was now
IsRefreshed-marks f was now before marks first end none m =
    let from_none : IsRefreshed f was now no_marks marks first end =
    subst (λ (l : List Bool). IsRefreshed f was now l marks first end) none m in
    differences_is was now marks m.places (λ k below.
    let on = OnScreen-place_of k below in
    ap (is_marked marks) (sym (number-place_of k))
    ∙ differs_anywhere f was now marks first end from_none (place_of k).row (place_of k).column on)

-- grids that are the same have no differences
pub differences_none : (g h : List (List Look)) (marks : List Bool) → marks ≡ no_marks → g ≡ h → marks ≡ differences g h
differences_none g h marks none e =
    none
    ∙ differences_is g h no_marks length-no_marks (λ k below.
    is_marked-no_marks k
    ∙ sym (differ_same (look_at g (place_of k)) (look_at h (place_of k))
    (ap (λ (t : List (List Look)). look_at t (place_of k)) e)))
