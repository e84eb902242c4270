-- Rows painted: the flagged columns of a row one after the other or at once, and rows of marked places in order.
use Rattle.std.proofs.Common.{◌≡◌, ℕ, ◌+◌, ◌-◌, ◌<◌, ◌≤◌, ◌==◌, zero, suc, Bool, true, false, cond, List, [], ◌∷◌, ◌++◌}
use Rattle.std.proofs.Common.{length, map, get_or, set, take, drop, refl, inl, inr, sym, ap, subst, ◌∙◌, arith, eqb}
use Rattle.std.proofs.Common.{add-one, add-zero, append-nil, append_assoc}
use Rattle.std.specs.List.{range_with_len, filter}
use Rattle.std.proofs.lemmas.Bool.{and_from, and_parts, cases_eq, cond-false, cond-true, eq-eqb, eqb-true}
use Rattle.std.proofs.lemmas.Bool.{false_from_ne_true}
use Rattle.std.proofs.lemmas.List.{get_or-drop, get_or-take}
use Rattle.std.proofs.lemmas.List.FromFn.{filter_of_map_range_with_len_more}
use Rattle.cept_codes.specs.declared.look.Look.{Look}
use Rattle.cept_codes.specs.Look.{IsValidLook, blank_look}
use Rattle.cept_codes.specs.Place.{Place, OnScreen, number, place_of}
use Rattle.cept_codes.specs.Table.{IsTable, entry, row_of, table, value_at}
use Rattle.cept_codes.proofs.Laws.{IsTable-table, entry-list_by_index, entry_from, length-list_by_index, place_of-number}
use Rattle.cept_codes.proofs.Laws.{row_of-list_by_index, same_tables, set_row_is, value_at-table}
use Rattle.cept_profile.specs.Cells.{is_at}
use Rattle.cept_profile.specs.Changes.{look_at, marked_looks_below, grid_with_paint, grid_with_paints}
use Rattle.cept_profile.specs.RowsFromAbove.{looks_in}
use Rattle.cept_profile.specs.Tiling.{column_entry}
use Rattle.cept_profile.specs.Valid.{IsValidGrid}
use Rattle.cept_profile.proofs.Laws.{grid_with_paints-append, marked_looks_below-next, marked_looks_below-unmarked}
use Rattle.cept_redraw.specs.Marks.{is_marked}
use Rattle.cept_redraw.proofs.Laws.{look_seen-at}
use Rattle.cept_repaint.specs.GlassState.{GlassState, Lists, Paints, PaintsRow, flagged_looks, place_with_look}
use Rattle.cept_repaint.proofs.PaintedInOrder.{Lists-more, Lists-none, PaintedSoFar, painted_all_push}
use Rattle.cept_repaint.proofs.ValidGrids.{IsValidGrid-with_row}

-- ---- the list of a row

-- the places of the first n columns that are flagged, each with its look
unfoldable pub flagged_below : List Bool → ℕ → List (List Look) → ℕ → List (Place × Look)
flagged_below flags r g n =
    filter (λ x. entry false 1 flags x.0.column) (map (place_with_look g r) (range_with_len 1 n))

pub flagged_below-none : (flags : List Bool) (r : ℕ) (g : List (List Look)) → flagged_below flags r g 0 ≡ []
unfolding flagged_below
flagged_below-none flags r g = refl

pub flagged_below-all : (flags : List Bool) (r : ℕ) (g : List (List Look))
    → flagged_below flags r g 40 ≡ flagged_looks flags r g
unfolding flagged_below flagged_looks
flagged_below-all flags r g = refl

flagged_below-more : (flags : List Bool) (r : ℕ) (g : List (List Look)) (n : ℕ) (b : Bool)
    → entry false 1 flags (n + 1) ≡ b
    → flagged_below flags r g (n + 1) ≡ flagged_below flags r g n ++ cond b (place_with_look g r (n + 1) ∷ []) []
unfolding flagged_below
flagged_below-more flags r g n b e =
    filter_of_map_range_with_len_more (λ (x : Place × Look). entry false 1 flags x.0.column) (place_with_look g r) 1 n
    (n + 1) (omega arith)
    ∙ ap (λ f. filter (λ (x : Place × Look). entry false 1 flags x.0.column)
    (map (place_with_look g r) (range_with_len 1 n)) ++ cond f (place_with_look g r (n + 1) ∷ []) []) e

pub flagged_below-set : (flags : List Bool) (r : ℕ) (g : List (List Look)) (n : ℕ) → entry false 1 flags (n + 1) ≡ true
    → flagged_below flags r g (n + 1) ≡ flagged_below flags r g n ++ place_with_look g r (n + 1) ∷ []
flagged_below-set flags r g n e = flagged_below-more flags r g n true e

pub flagged_below-unset : (flags : List Bool) (r : ℕ) (g : List (List Look)) (n : ℕ)
    → entry false 1 flags (n + 1) ≡ false → flagged_below flags r g (n + 1) ≡ flagged_below flags r g n
flagged_below-unset flags r g n e = flagged_below-more flags r g n false e ∙ append-nil (flagged_below flags r g n)

-- a flag, from 0
pub flag_read : (flags : List Bool) (n : ℕ) → entry false 1 flags (n + 1) ≡ get_or flags n false
flag_read flags n =
    entry_from false 1 flags (n + 1) (omega arith)
    ∙ (let back : n + 1 - 1 ≡ n = omega arith in ap (λ i. get_or flags i false) back)

-- ---- a row painted one column after the other

-- the first n columns are painted and told where they are flagged, and nothing else
pub record PaintedTo (flags : List Bool) (r : ℕ) (looks : List (List Look)) (old now : GlassState) (n : ℕ) : Type 0 where
  pub grid : now.grid ≡ grid_with_paints old.grid (flagged_below flags r looks n)
  pub listed : Lists old.paints (flagged_below flags r looks n) now.paints

-- the same with a list that is this one
told_as : {flags : List Bool} {r : ℕ} {looks : List (List Look)} {old now : GlassState} (n : ℕ)
    (list : List (Place × Look)) → flagged_below flags r looks n ≡ list → now.grid ≡ grid_with_paints old.grid list
    → Lists old.paints list now.paints → PaintedTo flags r looks old now n
told_as {old = old} {now = now} n list e grid listed = record {
  grid = grid ∙ ap (λ (l : List (Place × Look)). grid_with_paints old.grid l) (sym e);
  listed = subst (λ (l : List (Place × Look)). Lists old.paints l now.paints) (sym e) listed;
}

pub PaintedTo-none : (flags : List Bool) (r : ℕ) (looks : List (List Look)) (s : GlassState)
    → PaintedTo flags r looks s s 0
unfolding grid_with_paints
PaintedTo-none flags r looks s = told_as 0 [] (flagged_below-none flags r looks) refl (Lists-none s.paints)

-- the same of a state that is this one
pub PaintedTo-as : {flags : List Bool} {r : ℕ} {looks : List (List Look)} {old now next : GlassState} {n : ℕ}
    → next ≡ now → PaintedTo flags r looks old now n → PaintedTo flags r looks old next n
PaintedTo-as {flags} {r} {looks} {old} {now} {next} {n} e m =
    subst (λ (s : GlassState). PaintedTo flags r looks old s n) (sym e) m

-- a flagged column
pub PaintedTo-more : {flags : List Bool} {r : ℕ} {looks : List (List Look)} {old now : GlassState} {n : ℕ}
    → PaintedTo flags r looks old now n → get_or flags n false ≡ true → (p : Place) (next : GlassState) → p.row ≡ r
    → p.column ≡ n + 1 → Paints now p (look_at looks p) next → PaintedTo flags r looks old next (n + 1)
PaintedTo-more {flags} {r} {looks} {old} {now} {n} m flagged p next row column paints =
    let here : (p, look_at looks p) ≡ place_with_look looks r (n + 1) =
    λ i. let q : Place = record { row = row i; column = column i } in (q, look_at looks q) in
    told_as (n + 1) (flagged_below flags r looks n ++ (p, look_at looks p) ∷ [])
    (flagged_below-set flags r looks n (flag_read flags n ∙ flagged)
    ∙ ap (λ (x : Place × Look). flagged_below flags r looks n ++ x ∷ []) (sym here))
    (paints.grid ∙ ap (λ (t : List (List Look)). grid_with_paint t p (look_at looks p)) m.grid
    ∙ sym (painted_all_push old.grid (flagged_below flags r looks n) p (look_at looks p)))
    (Lists-more m.listed paints.listed)

-- and one that isn't flagged
pub PaintedTo-left : {flags : List Bool} {r : ℕ} {looks : List (List Look)} {old now : GlassState} {n : ℕ}
    → PaintedTo flags r looks old now n → get_or flags n false ≡ false → PaintedTo flags r looks old now (n + 1)
PaintedTo-left {flags} {r} {looks} {old} {now} {n} m unflagged =
    told_as (n + 1) (flagged_below flags r looks n) (flagged_below-unset flags r looks n (flag_read flags n ∙ unflagged))
    m.grid m.listed

pub PaintedTo-all : {flags : List Bool} {r : ℕ} {looks : List (List Look)} {old now : GlassState} {n : ℕ}
    → PaintedTo flags r looks old now n → n ≡ 40 → PaintsRow old flags r looks now
PaintedTo-all {flags} {r} {looks} {old} {now} {n} m all =
    let list : flagged_below flags r looks n ≡ flagged_looks flags r looks =
    ap (flagged_below flags r looks) all ∙ flagged_below-all flags r looks in
    record {
      grid = m.grid ∙ ap (λ (l : List (Place × Look)). grid_with_paints old.grid l) list;
      listed = subst (λ (l : List (Place × Look)). Lists old.paints l now.paints) list m.listed;
    }

-- ---- a row painted at once

-- by a test
by_test : (b : Bool) (P : Type 0) → (b ≡ true → P) → (b ≡ false → P) → P
by_test true P then_ else_ = then_ refl
by_test false P then_ else_ = else_ refl

-- the first n columns of a row show the looks of g where they are flagged, and all else is as it was
record ShowsTo (flags : List Bool) (r : ℕ) (g was now : List (List Look)) (n : ℕ) : Type 0 where
  is : IsTable now
  made : (c : ℕ) → OnScreen r c → c ≤ n → value_at blank_look now r c
      ≡ cond (entry false 1 flags c) (value_at blank_look g r c) (value_at blank_look was r c)
  left : (q c : ℕ) → OnScreen q c → (q ≡ r → n < c) → value_at blank_look now q c ≡ value_at blank_look was q c

ShowsTo-set : {flags : List Bool} {r : ℕ} {g was now : List (List Look)} {n : ℕ} → ShowsTo flags r g was now n
    → entry false 1 flags (n + 1) ≡ true
    → ShowsTo flags r g was
    (grid_with_paint now (place_with_look g r (n + 1)).0 (place_with_look g r (n + 1)).1) (n + 1)
ShowsTo-set {flags} {r} {g} {was} {now} {n} m flagged = record {
  is = IsTable-table (λ q c. cond (is_at p q c) l (value_at blank_look now q c));
  made = λ c on low. seen r c on ∙ elim (cases_eq c (n + 1)) [
    | inl here ↦
        cond-true (is_at p r c) l (value_at blank_look now r c)
        (and_from (r == r) (n + 1 == c) (eq-eqb r r refl) (eq-eqb (n + 1) c (sym here)))
        ∙ ap (λ k. value_at blank_look g r k) (sym here)
        ∙ sym (cond-true (entry false 1 flags c) (value_at blank_look g r c) (value_at blank_look was r c)
        (ap (entry false 1 flags) here ∙ flagged))
    | inr apart ↦
        cond-false (is_at p r c) l (value_at blank_look now r c)
        (other r c (λ row column. apart column)) ∙ m.made c on (omega (arith, low, apart))
  ];
  left = λ q c on past.
      seen q c on
      ∙ cond-false (is_at p q c) l (value_at blank_look now q c)
      (other q c (λ row column. let more = past row in omega (arith, more, column)))
      ∙ m.left q c on (λ same. let more = past same in omega (arith, more));
}
  where
    p : Place
    p = (place_with_look g r (n + 1)).0

    l : Look
    l = (place_with_look g r (n + 1)).1

    seen : (q c : ℕ) → OnScreen q c
        → value_at blank_look (grid_with_paint now p l) q c ≡ cond (is_at p q c) l (value_at blank_look now q c)
    seen q c on = value_at-table (λ q' c'. cond (is_at p q' c') l (value_at blank_look now q' c')) blank_look q c on

    other : (q c : ℕ) → (q ≡ r → c ≡ n + 1 → ⊥) → is_at p q c ≡ false
    other q c apart =
        false_from_ne_true (is_at p q c) (λ e.
        let both = and_parts (eqb r q) (eqb (n + 1) c) e in
        apart (sym (eqb-true r q both.0)) (sym (eqb-true (n + 1) c both.1)))

ShowsTo-unset : {flags : List Bool} {r : ℕ} {g was now : List (List Look)} {n : ℕ} → ShowsTo flags r g was now n
    → entry false 1 flags (n + 1) ≡ false → ShowsTo flags r g was now (n + 1)
ShowsTo-unset {flags} {r} {g} {was} {now} {n} m unflagged = record {
  is = m.is;
  made = λ c on low. elim (cases_eq c (n + 1)) [
    | inl here ↦
        m.left r c on (λ same. omega (arith, here))
        ∙ sym (cond-false (entry false 1 flags c) (value_at blank_look g r c) (value_at blank_look was r c)
        (ap (entry false 1 flags) here ∙ unflagged))
    | inr apart ↦ m.made c on (omega (arith, low, apart))
  ];
  left = λ q c on past. m.left q c on (λ same. let more = past same in omega (arith, more));
}

-- the flagged looks below a column, painted
shows_below : (flags : List Bool) (r : ℕ) (g was : List (List Look)) → IsTable was → (n : ℕ)
    → ShowsTo flags r g was (grid_with_paints was (flagged_below flags r g n)) n
unfolding grid_with_paints
shows_below flags r g was is zero =
    subst (λ (l : List (Place × Look)). ShowsTo flags r g was (grid_with_paints was l) 0)
    (sym (flagged_below-none flags r g)) (record {
      is = is;
      made = λ c on none. absurd (omega (arith, on, none));
      left = λ q c on past. refl;
    })
shows_below flags r g was is (suc n) =
    let before : ShowsTo flags r g was (grid_with_paints was (flagged_below flags r g n)) n =
    shows_below flags r g was is n in
    subst (λ k. ShowsTo flags r g was (grid_with_paints was (flagged_below flags r g k)) k) (add-one n)
    (by_test (entry false 1 flags (n + 1))
    (ShowsTo flags r g was (grid_with_paints was (flagged_below flags r g (n + 1))) (n + 1))
    (λ flagged. subst (λ (t : List (List Look)). ShowsTo flags r g was t (n + 1))
    (sym (ap (grid_with_paints was) (flagged_below-set flags r g n flagged)
    ∙ painted_all_push was (flagged_below flags r g n) (place_with_look g r (n + 1)).0
    (place_with_look g r (n + 1)).1)) (ShowsTo-set before flagged))
    (λ unflagged. subst (λ (t : List (List Look)). ShowsTo flags r g was t (n + 1))
    (sym (ap (grid_with_paints was) (flagged_below-unset flags r g n unflagged))) (ShowsTo-unset before unflagged)))

-- the looks of a row with those of g in the flagged columns
abbrev pub row_with_flagged : List Bool → ℕ → List (List Look) → List (List Look) → ℕ → Look
row_with_flagged flags r g was c =
    cond (entry false 1 flags c) (column_entry blank_look (looks_in g r) c) (column_entry blank_look (looks_in was r) c)

-- a row is painted where it is replaced by these
pub row_painted : (flags : List Bool) (r : ℕ) (g was : List (List Look)) → IsTable g → IsTable was → 1 ≤ r → r ≤ 24
    → set was (r - 1) (row_of (row_with_flagged flags r g was)) ≡ grid_with_paints was (flagged_looks flags r g)
row_painted flags r g was is_g is low high =
    set_row_is was blank_look (r - 1) r row is (omega arith) (omega arith)
    (ap length (row_of-list_by_index f) ∙ length-list_by_index 1 40 f)
    ∙ same_tables (table at) (grid_with_paints was (flagged_below flags r g 40)) blank_look (IsTable-table at) shown.is
    (λ q c on. value_at-table at blank_look q c on ∙ elim (cases_eq q r) [
      | inl same ↦
          let here : OnScreen r c = record {
            from_top = low;
            to_bottom = high;
            from_left = on.from_left;
            to_right = on.to_right;
          } in
          cond-true (r == q) (entry blank_look 1 row c) (value_at blank_look was q c) (eq-eqb r q (sym same))
          ∙ ap (λ (l : List Look). entry blank_look 1 l c) (row_of-list_by_index f)
          ∙ entry-list_by_index blank_look 1 40 f c on.from_left (omega (arith, on))
          ∙ (λ i. cond (entry false 1 flags c) (look_seen-at g r c is_g here i) (look_seen-at was r c is here i))
          ∙ sym (shown.made c here on.to_right)
          ∙ ap (λ k. value_at blank_look (grid_with_paints was (flagged_below flags r g 40)) k c) (sym same)
      | inr other ↦
          cond-false (r == q) (entry blank_look 1 row c) (value_at blank_look was q c)
          (false_from_ne_true (r == q) (λ e. other (sym (eqb-true r q e))))
          ∙ sym (shown.left q c on (λ same. absurd (other same)))
    ])
    ∙ ap (grid_with_paints was) (flagged_below-all flags r g)
  where
    f : ℕ → Look
    f = row_with_flagged flags r g was

    row : List Look
    row = row_of f

    at : ℕ → ℕ → Look
    at q c = cond (r == q) (entry blank_look 1 row c) (value_at blank_look was q c)

    shown : ShowsTo flags r g was (grid_with_paints was (flagged_below flags r g 40)) 40
    shown = shows_below flags r g was is 40

-- and shows valid looks
pub flagged_valid : {was : List (List Look)} → IsValidGrid was → (flags : List Bool) (r : ℕ) (looks : List Look) → 1 ≤ r
    → r ≤ 24 → ((c : ℕ) → 1 ≤ c → c ≤ 40 → IsValidLook (column_entry blank_look looks c))
    → IsValidGrid (set was (r - 1) (row_of (λ c. cond (entry false 1 flags c) (column_entry blank_look looks c)
    (column_entry blank_look (looks_in was r) c))))
flagged_valid {was} valid flags r looks low high fresh =
    IsValidGrid-with_row valid r (row_of f) low high (ap length (row_of-list_by_index f) ∙ length-list_by_index 1 40 f)
    (λ c from_left to_right.
    let here : OnScreen r c = record {
      from_top = low;
      to_bottom = high;
      from_left = from_left;
      to_right = to_right;
    } in
    subst (λ (l : Look). IsValidLook l)
    (sym (ap (λ (l : List Look). entry blank_look 1 l c) (row_of-list_by_index f)
    ∙ entry-list_by_index blank_look 1 40 f c from_left (omega (arith, to_right))))
    (of_either (entry false 1 flags c) (column_entry blank_look looks c) (column_entry blank_look (looks_in was r) c)
    (fresh c from_left to_right)
    (subst (λ (l : Look). IsValidLook l) (sym (look_seen-at was r c valid.table here)) (valid.looks r c here))))
  where
    f : ℕ → Look
    f c =
        cond (entry false 1 flags c) (column_entry blank_look looks c) (column_entry blank_look (looks_in was r) c)

    of_either : (b : Bool) (l m : Look) → IsValidLook l → IsValidLook m → IsValidLook (cond b l m)
    of_either true l m vl vm = vl
    of_either false l m vl vm = vm

-- ---- marked places painted, a row after the other

-- the marks of a row are its flags
marked_row : (marks : List Bool) (g : List (List Look)) (r a : ℕ) → a ≡ number r 1 → 1 ≤ r → r ≤ 24 → (n : ℕ) → n ≤ 40
    → marked_looks_below marks g (a + n)
    ≡ marked_looks_below marks g a ++ flagged_below (take 40 (drop a marks)) r g n
marked_row marks g r a ea low high zero within =
    ap (marked_looks_below marks g) (add-zero a) ∙ sym (append-nil (marked_looks_below marks g a))
    ∙ ap (λ l. marked_looks_below marks g a ++ l) (sym (flagged_below-none (take 40 (drop a marks)) r g))
marked_row marks g r a ea low high (suc n) within =
    let so_far : marked_looks_below marks g (a + n) ≡ before ++ flagged_below flags r g n =
    marked_row marks g r a ea low high n (omega arith) in
    ap (marked_looks_below marks g) (let e : a + suc n ≡ (a + n) + 1 = omega arith in e)
    ∙ by_test (is_marked marks (a + n))
    (marked_looks_below marks g ((a + n) + 1) ≡ before ++ flagged_below flags r g (n + 1))
    (λ marked.
    marked_looks_below-next marks g (a + n) (a + n) (omega arith) (λ k from below. absurd (omega arith)) marked
    ∙ (λ i. so_far i ++ (place i, look_at g (place i)) ∷ [])
    ∙ append_assoc before (flagged_below flags r g n) (place_with_look g r (n + 1) ∷ [])
    ∙ ap (λ l. before ++ l) (sym (flagged_below-set flags r g n (flag ∙ marked))))
    (λ unmarked.
    marked_looks_below-unmarked marks g (a + n) ((a + n) + 1) (omega arith)
    (λ k from below. ap (is_marked marks) (let e : k ≡ a + n = omega arith in e) ∙ unmarked)
    ∙ so_far ∙ ap (λ l. before ++ l) (sym (flagged_below-unset flags r g n (flag ∙ unmarked))))
    ∙ ap (λ k. before ++ flagged_below flags r g k) (add-one n)
  where
    before : List (Place × Look)
    before = marked_looks_below marks g a

    flags : List Bool
    flags = take 40 (drop a marks)

    flag : entry false 1 flags (n + 1) ≡ is_marked marks (a + n)
    flag = flag_read flags n ∙ get_or-take 40 (drop a marks) n false (omega arith) ∙ get_or-drop a marks n false

    here : Place
    here = record { row = r; column = n + 1 }

    place : place_of (a + n) ≡ here
    place =
        ap place_of (let e : a + n ≡ number r (n + 1) = omega (arith, ea) in e)
        ∙ place_of-number here (record {
          from_top = low;
          to_bottom = high;
          from_left = omega arith;
          to_right = omega (arith, within);
        })

-- a row more
pub PaintedSoFar-row : {marks : List Bool} {looks : List (List Look)} {old now : GlassState} {from : ℕ}
    → PaintedSoFar marks looks old now from → (r : ℕ) (flags : List Bool) (next : GlassState) (n : ℕ) → 1 ≤ r → r ≤ 24
    → from ≤ number r 1 → ((k : ℕ) → from ≤ k → k < number r 1 → is_marked marks k ≡ false)
    → flags ≡ take 40 (drop (number r 1) marks) → PaintsRow now flags r looks next → n ≡ number r 1 + 40
    → PaintedSoFar marks looks old next n
PaintedSoFar-row {marks} {looks} {old} {now} {from} s r flags next n low high at_least none ef paints e =
    let list : List (Place × Look) = flagged_looks flags r looks in
    let more : marked_looks_below marks looks n ≡ marked_looks_below marks looks from ++ list =
    ap (marked_looks_below marks looks) e ∙ marked_row marks looks r (number r 1) refl low high 40 (omega arith)
    ∙ ap (λ l. l ++ flagged_below (take 40 (drop (number r 1) marks)) r looks 40)
    (marked_looks_below-unmarked marks looks from (number r 1) at_least none)
    ∙ ap (λ l. marked_looks_below marks looks from ++ l)
    (ap (λ (f : List Bool). flagged_below f r looks 40) (sym ef) ∙ flagged_below-all flags r looks) in
    record {
      within = omega (arith, e, low, high);
      grid = paints.grid ∙ ap (λ (t : List (List Look)). grid_with_paints t list) s.grid
          ∙ sym (grid_with_paints-append old.grid (marked_looks_below marks looks from) list)
          ∙ ap (λ (l : List (Place × Look)). grid_with_paints old.grid l) (sym more);
      listed = subst (λ (l : List (Place × Look)). Lists old.paints l next.paints) (sym more)
          (Lists-more s.listed paints.listed);
    }
