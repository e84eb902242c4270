-- Rows that moved, and one walk over them from the top.
use Rattle.std.proofs.Common.{◌≡◌, ◌≢◌, ℕ, ◌+◌, ◌-◌, ◌*◌, ◌<◌, ◌≤◌, ◌==◌, ◌||◌, ◌&&◌, not, cond, Bool, true, false}
use Rattle.std.proofs.Common.{List, [], get_or, Option, Some, None, length, set, inl, inr, refl, sym, ap, subst, ◌∙◌, arith}
use Rattle.std.specs.Prelude.{nat_le, nat_lt}
use Rattle.std.proofs.lemmas.Bool.{cases_Bool, cases_eq, eqb-true, or_left}
use Rattle.std.proofs.lemmas.Bool.Decides.{nat_tests}
use Rattle.std.proofs.lemmas.List.{get_or_default, get_or-set_other}
use Rattle.cept_codes.specs.declared.look.Look.{Look}
use Rattle.cept_codes.specs.Look.{blank_look}
use Rattle.cept_codes.specs.Place.{OnScreen, number, place_of}
use Rattle.cept_codes.specs.Stroke.{IsRow}
use Rattle.cept_codes.specs.Table.{entry, row_of, value_at, IsTable}
use Rattle.cept_codes.proofs.Laws.{entry_from, length-list_by_index, row_of-list_by_index}
use Rattle.cept_codes.proofs.Laws.{IsTable-table, OnScreen-place_of, number-place_of, same_table, table-value_at, value_at-table}
use Rattle.cept_profile.specs.Changes.{differences}
use Rattle.cept_profile.specs.Edges.{edges_of_core, is_last}
use Rattle.cept_profile.specs.Look.{look, looks_of}
use Rattle.cept_profile.specs.RowsFromAbove.{is_covered_otherwise, looks_in}
use Rattle.cept_profile.specs.State.{Core}
use Rattle.cept_profile.specs.Tiling.{column_entry}
use Rattle.cept_redraw.specs.declared.followed_rows.Followed.{Followed}
use Rattle.cept_redraw.specs.inside.Due.{came_from, freed, is_covered_from, is_due, row_from, rows_due, OtherRowsStay}
use Rattle.cept_redraw.specs.inside.Kept.{HasMarkedRow, is_other_above, is_other_look, row_beneath}
use Rattle.cept_redraw.specs.Marks.{is_marked, no_marks}
use Rattle.cept_redraw.specs.declared.passed_rows.Passed.{Passed}
use Rattle.cept_redraw.specs.inside.Passed.{came_above, looks_back, stood_in, GoDownByOne, HavePassed, NoneLooksBack}
use Rattle.cept_redraw.proofs.LooksWritten.{IsTable-row_set}
use Rattle.cept_redraw.proofs.Refreshed.{differences_is}
use Rattle.cept_redraw.proofs.RowsDue.{due_above, ticks-all, ticks-no, ticks-yes}
use Rattle.cept_redraw.proofs.RowsOfLooks.{covered_otherwise-above, is_other_above-same, looks_in-alike}
use Rattle.cept_redraw.proofs.RowsOfLooks.{look_seen-at, looks_in-same, looks_in-set, looks_in-table}
use Rattle.cept_redraw.proofs.Unmarked.{is_marked-no_marks, length-no_marks}
use Rattle.cept_redraw.proofs.WalkedRows.{beneath_is, came_is}

-- ---- the walk

-- the rows above this one look as they are to look, the others as they stood; the places above that look otherwise
-- than they stood are marked; there was a tick for each row above that is due; and whether what covers this row differs
-- from what covered the row below the one of which the row above came
pub record MovedTo (flags : List Bool) (rows : List Followed) (k : Core) (was now : List (List Look))
    (marks : List Bool) (covered : Bool) (above start steps row : ℕ) : Type 0 where
  pub is : IsTable now
  pub places : length marks ≡ 960
  pub shown : (r c : ℕ) → OnScreen r c → r < row → value_at blank_look now r c ≡ look k r c
  pub left : (r c : ℕ) → OnScreen r c → row ≤ r → value_at blank_look now r c ≡ value_at blank_look was r c
  pub marked : (r c : ℕ) → OnScreen r c → r < row
      → is_marked marks (number r c) ≡ is_other_look (value_at blank_look was r c) (look k r c)
  pub unmarked : (n : ℕ) → 40 * (row - 1) ≤ n → is_marked marks n ≡ false
  pub covering : covered ≡ is_other_above (looks_in was above) (looks_in now (row - 1))
  pub ticks : steps ≡ start + due_above (is_due flags rows was (looks_of k)) row

pub MovedTo-first : (flags : List Bool) (rows : List Followed) (k : Core) (was : List (List Look))
    (marks : List Bool) (steps : ℕ) → IsTable was → marks ≡ no_marks
    → MovedTo flags rows k was was marks false 0 steps steps 1
MovedTo-first flags rows k was marks steps is none = record {
  is = is;
  places = ap length none ∙ length-no_marks;
  shown = λ r c on below. absurd (omega (arith, on, below));
  left = λ r c on low. refl;
  marked = λ r c on below. absurd (omega (arith, on, below));
  unmarked = λ n low. ap (λ (l : List Bool). is_marked l n) none ∙ is_marked-no_marks n;
  covering = sym (is_other_above-same (looks_in was 0) (looks_in was 0) refl);
  ticks = omega arith;
}

-- the row above is that of the core already
above_is : {flags : List Bool} {rows : List Followed} {k : Core} {was now : List (List Look)} {marks : List Bool}
    {covered : Bool} {above start steps row : ℕ}
    → MovedTo flags rows k was now marks covered above start steps row → 1 ≤ row → row ≤ 24
    → looks_in now (row - 1) ≡ looks_in (looks_of k) (row - 1)
above_is {flags} {rows} {k} {was} {now} {marks} {covered} {above} {start} {steps} {row} m top bottom =
    elim (cases_eq row 1) [
      | inl first ↦
          let none : row - 1 ≡ 0 = omega arith in
          ap (looks_in now) none ∙ ap (looks_in (looks_of k)) (sym none)
      | inr later ↦
          looks_in-same now (looks_of k) (row - 1) m.is (IsTable-table (look k)) (omega arith) (omega arith)
          (λ c on. m.shown (row - 1) c on (omega arith) ∙ sym (value_at-table (look k) blank_look (row - 1) c on))
    ]

-- what is asked of the row is whether it is due
pub moved_due : {flags : List Bool} {rows : List Followed} {k : Core} {was now : List (List Look)} {marks : List Bool}
    {covered : Bool} {above start steps row : ℕ}
    → MovedTo flags rows k was now marks covered above start steps row → 1 ≤ row → row ≤ 24 → (came : ℕ)
    (flag covers : Bool) → flag ≡ entry false 1 flags row → came ≡ came_from (row_from rows row) row
    → covers ≡ is_other_above (looks_in was (came - 1)) (looks_in now (row - 1))
    → (row_from rows row ≡ None → entry false 1 flags row ≡ true)
    → (flag || covers) ≡ is_due flags rows was (looks_of k) row
moved_due {flags} {rows} {k} {was} {now} {marks} {covered} {above} {start} {steps} {row} m top bottom came flag
    covers ef ec ev free =
    by_row (row_from rows row) refl
  where
    by_row : (found : Option ℕ) → row_from rows row ≡ found
        → (flag || covers) ≡ is_due flags rows was (looks_of k) row
    by_row None e =
        or_left flag covers (ef ∙ free e)
        ∙ sym (or_left (entry false 1 flags row) (is_covered_from was (row_from rows row) (looks_of k) row) (free e))
    by_row (Some q) e =
        let here : came ≡ q = ec ∙ ap (λ found. came_from found row) e in
        let is : covers ≡ is_covered_otherwise was q (looks_of k) row =
        ev ∙ (λ i. is_other_above (looks_in was (here i - 1)) (above_is m top bottom i))
        ∙ sym (covered_otherwise-above was (looks_of k) q row) in
        (λ i. ef i || is i)
        ∙ ap (λ found. entry false 1 flags row || is_covered_from was found (looks_of k) row) (sym e)

-- the looks of a row are forty
row_long : (k : Core) (row : ℕ) (fresh : List Look) → fresh ≡ row_of (look k row) → length fresh ≡ 40
row_long k row fresh made =
    ap length (made ∙ row_of-list_by_index (look k row)) ∙ length-list_by_index 1 40 (look k row)

-- one row replaced
row_set : (mid : List (List Look)) (row : ℕ) (fresh : List Look) → IsTable mid → 1 ≤ row → row ≤ 24 → length fresh ≡ 40
    → (now : List (List Look)) → now ≡ set mid (row - 1) fresh
    → IsTable now × (looks_in now row ≡ fresh)
    × ((r c : ℕ) → OnScreen r c → r ≢ row → value_at blank_look now r c ≡ value_at blank_look mid r c)
row_set mid row fresh is top bottom long now e = (
  subst (λ (g : List (List Look)). IsTable g) (sym e) (IsTable-row_set is (row - 1) fresh (omega arith) long),
  ap (λ (g : List (List Look)). looks_in g row) e ∙ looks_in-set mid row fresh is top bottom,
  λ r c on apart.
      let away : r - 1 ≢ row - 1 = λ same. apart (omega (arith, same, on, top)) in
      ap (λ (g : List (List Look)). value_at blank_look g r c) e
      ∙ ap (λ (l : List Look). get_or l (c - 1) blank_look) (get_or-set_other mid (row - 1) (r - 1) fresh [] away),
)

-- a row that looks as it is to look, and the others as they did
pub record RowMade (flags : List Bool) (rows : List Followed) (k : Core) (was mid now : List (List Look)) (covered : Bool)
    (came start steps row : ℕ) : Type 0 where
  pub is : IsTable now
  pub here : looks_in now row ≡ row_of (look k row)
  pub others : (r c : ℕ) → OnScreen r c → r ≢ row → value_at blank_look now r c ≡ value_at blank_look mid r c
  pub covering : covered ≡ is_other_above (looks_in was came) (looks_in now row)
  pub ticks : steps ≡ start + due_above (is_due flags rows was (looks_of k)) (row + 1)

-- one that is due is resolved
pub RowMade-due : {flags : List Bool} {rows : List Followed} {k : Core} {was mid : List (List Look)}
    {marks : List Bool} {covered : Bool} {above start steps row : ℕ}
    → MovedTo flags rows k was mid marks covered above start steps row → 1 ≤ row → row ≤ 24
    → is_due flags rows was (looks_of k) row ≡ true → (last : Bool) → last ≡ is_last (edges_of_core k) row
    → (fresh : List Look) → fresh ≡ row_beneath (looks_in mid (row - 1)) k.page row last
    → (now : List (List Look)) → now ≡ set mid (row - 1) fresh → (came : ℕ) (next : Bool)
    → next ≡ is_other_above (looks_in was came) fresh → (more : ℕ) → more ≡ steps + 1
    → RowMade flags rows k was mid now next came start more row
RowMade-due {flags} {rows} {k} {was} {mid} {marks} {covered} {above} {start} {steps} {row} m top bottom due last
    el fresh ef now en came next ec more tick =
    let made : fresh ≡ row_of (look k row) =
    ef ∙ beneath_is k (looks_in mid (row - 1)) row last top bottom (above_is m top bottom) el in
    let kept = row_set mid row fresh m.is top bottom (row_long k row fresh made) now en in
    record {
      is = kept.0;
      here = kept.1 ∙ made;
      others = kept.2;
      covering = ec ∙ ap (is_other_above (looks_in was came)) (sym kept.1);
      ticks = ticks-yes (is_due flags rows was (looks_of k)) row start steps more top bottom due m.ticks tick;
    }

-- any other looks as the row did of which it came
pub RowMade-undue : {flags : List Bool} {rows : List Followed} {k : Core} {was mid : List (List Look)}
    {marks : List Bool} {covered : Bool} {above start steps row : ℕ}
    → MovedTo flags rows k was mid marks covered above start steps row → IsTable was → 1 ≤ row
    → row ≤ 24 → is_due flags rows was (looks_of k) row ≡ false → (came : ℕ) → IsRow came
    → came ≡ came_from (row_from rows row) row → OtherRowsStay flags rows was k → (fresh : List Look)
    → fresh ≡ looks_in was came → (now : List (List Look)) → now ≡ set mid (row - 1) fresh
    → RowMade flags rows k was mid now false came start steps row
RowMade-undue {flags} {rows} {k} {was} {mid} {marks} {covered} {above} {start} {steps} {row} m tw top bottom undue came
    on_screen ec others fresh ef now en =
    let is : row_from rows row ≡ Some came = came_is flags rows k was row came undue ec in
    let made : fresh ≡ row_of (look k row) =
    ef
    ∙ looks_in-alike was (looks_of k) came row tw (IsTable-table (look k)) on_screen.0 on_screen.1 top bottom
    (λ c on. others row came c on undue is ∙ sym (value_at-table (look k) blank_look row c on))
    ∙ looks_in-table (look k) row top bottom in
    let kept = row_set mid row fresh m.is top bottom (row_long k row fresh made) now en in
    record {
      is = kept.0;
      here = kept.1 ∙ made;
      others = kept.2;
      covering = sym (is_other_above-same (looks_in was came) (looks_in now row) (sym ef ∙ sym kept.1));
      ticks = ticks-no (is_due flags rows was (looks_of k)) row start steps top bottom undue m.ticks;
    }

-- the same of values that are these
pub MovedTo-as : {flags : List Bool} {rows : List Followed} {k : Core} {was now next : List (List Look)}
    {before marks : List Bool} {covered seen : Bool} {above start steps ticks row : ℕ} → next ≡ now → marks ≡ before
    → seen ≡ covered → ticks ≡ steps → MovedTo flags rows k was now before covered above start steps row
    → MovedTo flags rows k was next marks seen above start ticks row
MovedTo-as {flags} {rows} {k} {was} {now} {next} {before} {marks} {covered} {seen} {above} {start} {steps} {ticks} {row} en em
    ec es m =
    subst (λ (t : List (List Look)). MovedTo flags rows k was t marks seen above start ticks row) (sym en)
    (subst (λ (l : List Bool). MovedTo flags rows k was now l seen above start ticks row) (sym em)
    (subst (λ (b : Bool). MovedTo flags rows k was now before b above start ticks row) (sym ec)
    (subst (λ n. MovedTo flags rows k was now before covered above start n row) (sym es) m)))

-- this row stands as it did
pub MovedTo-stood : {flags : List Bool} {rows : List Followed} {k : Core} {was now : List (List Look)} {marks : List Bool}
    {covered : Bool} {above start steps row : ℕ} → MovedTo flags rows k was now marks covered above start steps row
    → IsTable was → 1 ≤ row → row ≤ 24 → looks_in now row ≡ looks_in was row
MovedTo-stood {flags} {rows} {k} {was} {now} {marks} {covered} {above} {start} {steps} {row} m tw top bottom =
    looks_in-same now was row m.is tw top bottom (λ c on. m.left row c on (omega arith))

-- a row from this one on is found in its place
pub stood_in-below : (passed : Passed) (kept : List (List Look)) (r q : ℕ) → r ≤ q
    → stood_in passed kept r q ≡ looks_in kept q
stood_in-below passed kept r q past =
    let yes : nat_le r q ≡ true = grind (arith, nat_tests) in
    ap (λ b. cond b (looks_in kept q) (cond (q + 1 == r) passed.near passed.far)) yes

-- what stood in a row, as it is found: in its place from this row on, and among those passed above
pub stood_is : {flags : List Bool} {rows : List Followed} {k : Core} {was now : List (List Look)} {marks : List Bool}
    {covered : Bool} {above start steps row : ℕ} → MovedTo flags rows k was now marks covered above start steps row
    → IsTable was → 1 ≤ row → (passed : Passed) (q : ℕ) → row ≤ q + 2 → q ≤ 24
    → (q < row → HavePassed was passed row) → stood_in passed now row q ≡ looks_in was q
stood_is {flags} {rows} {k} {was} {now} {marks} {covered} {above} {start} {steps} {row} m tw top passed q low bottom have =
    elim (cases_Bool (nat_le row q)) [
      | inl is ↦
          let past : row ≤ q = le-from-nat_le row q is in
          ap (λ b. cond b (looks_in now q) (cond (q + 1 == row) passed.near passed.far)) is
          ∙ looks_in-same now was q m.is tw (omega (arith, past, top)) bottom (λ c on. m.left q c on past)
      | inr isnt ↦
          let before : q < row = lt-from-nat_le row q isnt in
          ap (λ b. cond b (looks_in now q) (cond (q + 1 == row) passed.near passed.far)) isnt
          ∙ elim (cases_Bool (q + 1 == row)) [
            | inl next ↦
                let at : row - 1 ≡ q = omega (arith, eqb-true (q + 1) row next) in
                ap (λ b. cond b passed.near passed.far) next ∙ (have before).near ∙ ap (looks_in was) at
            | inr further ↦
                let apart : q + 1 ≢ row = ne-from-eqb (q + 1) row further in
                let at : row - 2 ≡ q = omega (arith, apart, low, before) in
                ap (λ b. cond b passed.near passed.far) further
                ∙ (have before).far (omega (arith, apart, low, before)) ∙ ap (looks_in was) at
          ]
    ]
  where
    le-from-nat_le : (r n : ℕ) → nat_le r n ≡ true → r ≤ n
    le-from-nat_le r n is = grind (arith, nat_tests, is)

    lt-from-nat_le : (r n : ℕ) → nat_le r n ≡ false → n < r
    lt-from-nat_le r n isnt = grind (arith, nat_tests, isnt)

    ne-from-eqb : (r n : ℕ) → (r == n) ≡ false → r ≢ n
    ne-from-eqb r n isnt same = grind (arith, nat_tests, isnt, same)

-- a row that asks for one above it looks back
pub looks_back-asked : (rows : List Followed) (back : Bool) → (back ≡ false → NoneLooksBack rows) → (row came above : ℕ)
    → 1 ≤ row → row ≤ 24 → row_from rows row ≡ Some came → above ≡ came_above rows row → came ≤ row
    → (came ≡ row → above ≢ row - 1) → back ≡ true
looks_back-asked rows back none row came above top bottom came_of at low apart =
    elim (cases_Bool back) [
      | inl is ↦ is
      | inr isnt ↦
          let not_so : looks_back (Some came) row above ≡ false =
          (λ i. looks_back (sym came_of i) row (at i)) ∙ none isnt row top bottom in
          absurd (asks row came above low apart not_so)
    ]
  where
    asks : (row came above : ℕ) → came ≤ row → (came ≡ row → above ≢ row - 1)
        → (nat_lt came row || (came == row && not (above == row - 1))) ≡ false → ⊥
    asks row came above low apart not_so =
        elim (cases_eq came row) [
          | inl same ↦ let away : above ≢ row - 1 = apart same in grind (arith, nat_tests)
          | inr other ↦ grind (arith, nat_tests)
        ]

-- the row of which one came, as it is read
pub came_read : (rows : List Followed) (row n came : ℕ) (d : Followed) → length rows ≡ 24 → 1 ≤ row → row ≤ 24 → n ≡ row
    → came ≡ came_from (get_or rows (n - 1) d).from row → came ≡ came_from (row_from rows row) row
came_read rows row n came d long top bottom at ec =
    ec
    ∙ ap (λ (f : Followed). came_from f.from row) (get_or_default rows (n - 1) d freed (omega (arith, at, long, top, bottom)))
    ∙ ap (λ m. came_from (get_or rows (m - 1) freed).from row) at
    ∙ ap (λ (f : Followed). came_from f.from row) (sym (entry_from freed 1 rows row top))

-- it is no further than one above it
pub came_low : (rows : List Followed) → GoDownByOne rows → (row came : ℕ) → 1 ≤ row → row ≤ 24
    → came ≡ came_from (row_from rows row) row → row ≤ came + 1
came_low rows low row came top bottom ec = by_row (row_from rows row) refl
  where
    by_row : (found : Option ℕ) → row_from rows row ≡ found → row ≤ came + 1
    by_row None e = let here : came ≡ row = ec ∙ ap (λ f. came_from f row) e in omega (arith, here)
    by_row (Some q) e =
        let here : came ≡ q = ec ∙ ap (λ f. came_from f row) e in omega (arith, here, low row q top bottom e)

-- a row is asked for what stood in one above it where it looks back: its own looks are
pub asked_stood : (rows : List Followed) (back : Bool) → (back ≡ false → NoneLooksBack rows) → (row came above : ℕ)
    → 1 ≤ row → row ≤ 24 → came ≡ came_from (row_from rows row) row → above ≡ came_above rows row → came < row
    → back ≡ true
asked_stood rows back none row came above top bottom ec at before = by_row (row_from rows row) refl
  where
    by_row : (found : Option ℕ) → row_from rows row ≡ found → back ≡ true
    by_row None e = let here : came ≡ row = ec ∙ ap (λ f. came_from f row) e in absurd (omega (arith, here, before))
    by_row (Some q) e =
        let here : came ≡ q = ec ∙ ap (λ f. came_from f row) e in
        looks_back-asked rows back none row came above top bottom (e ∙ ap (λ n. Some n) (sym here)) at
        (omega (arith, before)) (λ same. absurd (omega (arith, same, before)))

-- and what covered the row of which it came, where the row above didn't come of the one above that
pub asked_covered : (rows : List Followed) (back : Bool) → (back ≡ false → NoneLooksBack rows) → (row came above : ℕ)
    → 1 ≤ row → row ≤ 24 → came ≡ came_from (row_from rows row) row → above ≡ came_above rows row
    → (row_from rows row ≡ None → ⊥) → 1 ≤ came → came - 1 < row → above ≢ came - 1 → back ≡ true
asked_covered rows back none row came above top bottom ec at moved low before apart = by_row (row_from rows row) refl
  where
    by_row : (found : Option ℕ) → row_from rows row ≡ found → back ≡ true
    by_row None e = absurd (moved e)
    by_row (Some q) e =
        let here : came ≡ q = ec ∙ ap (λ f. came_from f row) e in
        looks_back-asked rows back none row came above top bottom (e ∙ ap (λ n. Some n) (sym here)) at
        (omega (arith, before, low)) (λ same so. apart (so ∙ ap (λ n. n - 1) (sym same)))

-- what is known of what covers a row is whether that differs
pub covered_is : {flags : List Bool} {rows : List Followed} {k : Core} {was now : List (List Look)} {marks : List Bool}
    {covered : Bool} {above start steps row : ℕ} → MovedTo flags rows k was now marks covered above start steps row
    → IsTable was → 1 ≤ row → row ≤ 24 → (passed : Passed) (came : ℕ) → IsRow came → row ≤ came + 1
    → (came - 1 < row → above ≢ came - 1 → HavePassed was passed row)
    → cond (came - 1 == above) covered
    (is_other_above (stood_in passed now row (came - 1)) (looks_in now (row - 1)))
    ≡ is_other_above (looks_in was (came - 1)) (looks_in now (row - 1))
covered_is {flags} {rows} {k} {was} {now} {marks} {covered} {above} {start} {steps} {row} m tw top bottom passed came on low
    have =
    let other : Bool = is_other_above (stood_in passed now row (came - 1)) (looks_in now (row - 1)) in
    elim (cases_Bool (came - 1 == above)) [
      | inl is ↦
          ap (λ b. cond b covered other) is ∙ m.covering
          ∙ ap (λ n. is_other_above (looks_in was n) (looks_in now (row - 1))) (sym (eqb-true (came - 1) above is))
      | inr isnt ↦
          let apart : above ≢ came - 1 = λ so. differ (came - 1) above isnt (sym so) in
          ap (λ b. cond b covered other) isnt
          ∙ ap (λ (l : List Look). is_other_above l (looks_in now (row - 1)))
          (stood_is m tw top passed (came - 1) (omega (arith, low, on)) (omega (arith, on))
          (λ below. have below apart))
    ]
  where
    differ : (a b : ℕ) → (a == b) ≡ false → a ≢ b
    differ a b isnt same = grind (arith, nat_tests, isnt, same)

-- the row that is passed
pub HavePassed-more : {was : List (List Look)} {passed passing : Passed} {row : ℕ} → HavePassed was passed row
    → passing.near ≡ looks_in was row → passing.far ≡ passed.near → HavePassed was passing (row + 1)
HavePassed-more {was} {passed} {passing} {row} have near far = record {
  near = near ∙ ap (looks_in was) (let back : row ≡ row + 1 - 1 = omega arith in back);
  far = λ _. far ∙ have.near ∙ ap (looks_in was) (let back : row - 1 ≡ row + 1 - 2 = omega arith in back);
}

-- the next row
pub MovedTo-more : {flags : List Bool} {rows : List Followed} {k : Core} {was mid now : List (List Look)}
    {before : List Bool} {covered next : Bool} {above start steps more row : ℕ} {came : ℕ}
    → MovedTo flags rows k was mid before covered above start steps row → IsTable was → 1 ≤ row → row ≤ 24
    → RowMade flags rows k was mid now next came start more row → (marks : List Bool) (fresh : List Look)
    → now ≡ set mid (row - 1) fresh → HasMarkedRow (looks_in mid row) fresh row 41 before marks
    → MovedTo flags rows k was now marks next came start more (row + 1)
MovedTo-more {flags} {rows} {k} {was} {mid} {now} {before} {covered} {next} {above} {start} {steps} {more} {row}
    {came} m tw top bottom made marks fresh en marked =
    let stood : looks_in mid row ≡ looks_in was row = MovedTo-stood m tw top bottom in
    let shows : fresh ≡ looks_in now row =
    sym (ap (λ (g : List (List Look)). looks_in g row) en ∙ looks_in-set mid row fresh m.is top bottom) in
    let has : HasMarkedRow (looks_in was row) (looks_in now row) row 41 before marks =
    subst (λ (l : List Look). HasMarkedRow l (looks_in now row) row 41 before marks) stood
    (subst (λ (l : List Look). HasMarkedRow (looks_in mid row) l row 41 before marks) shows marked) in
    record {
      is = made.is;
      places = has.places;
      shown = λ r c on below. elim (cases_eq r row) [
        | inl here ↦ shown_here r c on here
        | inr apart ↦ made.others r c on apart ∙ m.shown r c on (omega (arith, below, apart))
      ];
      left = λ r c on past.
          let apart : r ≢ row = λ e. omega (arith, e, past) in
          made.others r c on apart ∙ m.left r c on (omega (arith, past));
      marked = λ r c on below. elim (cases_eq r row) [
        | inl here ↦
            let there : OnScreen row c = subst (λ n. OnScreen n c) here on in
            ap (λ n. is_marked marks (number n c)) here ∙ has.marked c there (omega (arith, on))
            ∙ (λ i. m.unmarked (number row c) (omega arith) i
            || is_other_look (look_seen-at was row c tw there i) (look_seen-at now row c made.is there i))
            ∙ ap (is_other_look (value_at blank_look was row c)) (shown_here row c there refl)
            ∙ ap (λ n. is_other_look (value_at blank_look was n c) (look k n c)) (sym here)
        | inr apart ↦
            has.marks_above (number r c) (omega (arith, on, below, apart))
            ∙ m.marked r c on (omega (arith, below, apart))
      ];
      unmarked = λ n past. has.marks_below n (omega (arith, past, top)) ∙ m.unmarked n (omega (arith, past, top));
      covering =
          made.covering
          ∙ ap (λ n. is_other_above (looks_in was came) (looks_in now n)) (let back : row ≡ row + 1 - 1 = omega arith in back);
      ticks = made.ticks;
    }
  where
    shown_here : (r c : ℕ) → OnScreen r c → r ≡ row → value_at blank_look now r c ≡ look k r c
    shown_here r c on here =
        let there : OnScreen row c = subst (λ n. OnScreen n c) here on in
        ap (λ n. value_at blank_look now n c) here ∙ sym (look_seen-at now row c made.is there)
        ∙ ap (λ (l : List Look). column_entry blank_look l c) (made.here ∙ sym (looks_in-table (look k) row top bottom))
        ∙ look_seen-at (looks_of k) row c (IsTable-table (look k)) there ∙ value_at-table (look k) blank_look row c there
        ∙ ap (λ n. look k n c) (sym here)

-- all rows
pub MovedTo-looks : {flags : List Bool} {rows : List Followed} {k : Core} {was now : List (List Look)}
    {marks : List Bool} {covered : Bool} {above start steps row : ℕ}
    → MovedTo flags rows k was now marks covered above start steps row → 24 ≤ row - 1 → now ≡ looks_of k
MovedTo-looks {flags} {rows} {k} {was} {now} m past =
    sym (table-value_at now blank_look m.is)
    ∙ same_table (value_at blank_look now) (look k) (λ r c on. m.shown r c on (omega (arith, on, past)))

pub MovedTo-marks : {flags : List Bool} {rows : List Followed} {k : Core} {was now : List (List Look)}
    {marks : List Bool} {covered : Bool} {above start steps row : ℕ}
    → MovedTo flags rows k was now marks covered above start steps row → 24 ≤ row - 1
    → marks ≡ differences was now
MovedTo-marks {flags} {rows} {k} {was} {now} {marks} m past =
    differences_is was now marks m.places (λ n below.
    let on = OnScreen-place_of n below in
    ap (is_marked marks) (sym (number-place_of n))
    ∙ m.marked (place_of n).row (place_of n).column on (omega (arith, on, past))
    ∙ ap (is_other_look (value_at blank_look was (place_of n).row (place_of n).column))
    (sym (m.shown (place_of n).row (place_of n).column on (omega (arith, on, past)))))

pub MovedTo-cost : {flags : List Bool} {rows : List Followed} {k : Core} {was now : List (List Look)}
    {marks : List Bool} {covered : Bool} {above start steps row : ℕ}
    → MovedTo flags rows k was now marks covered above start steps row → 24 ≤ row - 1
    → steps ≡ start + rows_due flags rows was now
MovedTo-cost {flags} {rows} {k} {was} {now} {marks} {covered} {above} {start} {steps} {row} m past =
    ticks-all flags rows start steps was (looks_of k) row past m.ticks
    ∙ ap (λ (g : List (List Look)). start + rows_due flags rows was g) (sym (MovedTo-looks m past))
