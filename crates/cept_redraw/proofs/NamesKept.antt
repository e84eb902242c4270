-- Names of rows that are kept: one row named anew, rows forgotten, and what is known of all of them.
use Rattle.std.proofs.Common.{◌≡◌, ◌≢◌, ℕ, ◌+◌, ◌-◌, ◌*◌, ◌≤◌, ◌<◌, ◌&&◌, cond, Bool, true, false, List, [], get_or}
use Rattle.std.proofs.Common.{Option, Some, None, length, set}
use Rattle.std.proofs.Common.{inl, inr, zero, suc, refl, sym, ap, subst, ◌∙◌, arith}
use Rattle.std.specs.Prelude.{nat_lt}
use Rattle.std.proofs.lemmas.Bool.{and_parts, cases_Bool, cases_eq, cases_lt, true≢false}
use Rattle.std.proofs.lemmas.List.{get_or-set_other, get_or-set_same, length-set}
use Rattle.cept_codes.specs.declared.attribute.Pen.{Pen}
use Rattle.cept_codes.specs.declared.cell.Cell.{Cell}
use Rattle.cept_codes.specs.declared.look.Look.{Look}
use Rattle.cept_codes.specs.declared.look.Part.{Part}
use Rattle.cept_codes.specs.Cell.{blank_cell}
use Rattle.cept_codes.specs.Look.{blank_look}
use Rattle.cept_codes.specs.Place.{Place, OnScreen, number}
use Rattle.cept_codes.specs.Table.{entry, value_at, IsTable}
use Rattle.cept_codes.proofs.Laws.{entry_below, entry_from, number-lt, same_lists}
use Rattle.cept_profile.specs.Edges.{edges_of_core, is_last}
use Rattle.cept_profile.specs.Look.{looks_of, own_size, part_of, parts_of}
use Rattle.cept_profile.specs.Names.{Names, names_at}
use Rattle.cept_profile.specs.NamesFromAbove.{names_by, names_from_above, names_in_row, own_names}
use Rattle.cept_profile.specs.PageParts.{row_pen_in}
use Rattle.cept_profile.specs.RowsFromAbove.{looks_in}
use Rattle.cept_profile.specs.Serial.{row_in}
use Rattle.cept_profile.specs.State.{Core}
use Rattle.cept_profile.specs.Tiling.{IsTiledAt, column_entry, covers_below, is_covered_from_left, part_at}
use Rattle.cept_profile.proofs.Laws.{names_at-covered, part_of-seen, tiled_parts}
use Rattle.cept_redraw.specs.declared.followed_rows.Followed.{Followed}
use Rattle.cept_redraw.specs.inside.Due.{row_from}
use Rattle.cept_redraw.specs.Marks.{is_marked, IsFirstFrom}
use Rattle.cept_redraw.specs.Named.{AreNamed}
use Rattle.cept_redraw.specs.inside.Named.{AreAllKnown, AreJustRemembered, AreRemembered, IsStill}
use Rattle.cept_redraw.specs.Named.{NamesOfRows, is_known, names_beneath, row_named}
use Rattle.cept_redraw.specs.inside.Named.{IsUnmarkedBelow}
use Rattle.cept_rows.specs.declared.naming.RowNames.{RowNames}
use Rattle.cept_rows.specs.KeptNames.{names_kept}

-- ---- entries that are set

pub set-here : {X : Type 0} (d x : X) (xs : List X) (r : ℕ) → length xs ≡ 24 → 1 ≤ r → r ≤ 24
    → entry d 1 (set xs (r - 1) x) r ≡ x
set-here d x xs r long low high =
    entry_from d 1 (set xs (r - 1) x) r low ∙ get_or-set_same xs (r - 1) x d (omega arith)

pub set-there : {X : Type 0} (d x : X) (xs : List X) (r q : ℕ) → 1 ≤ r → q ≢ r
    → entry d 1 (set xs (r - 1) x) q ≡ entry d 1 xs q
set-there d x xs r zero low apart = entry_below d 1 (set xs (r - 1) x) 0 (omega arith) ∙ sym (entry_below d 1 xs 0 (omega arith))
set-there d x xs r (suc q) low apart =
    let away : suc q - 1 ≢ r - 1 = λ e. apart (omega (arith, e)) in
    entry_from d 1 (set xs (r - 1) x) (suc q) (omega arith) ∙ get_or-set_other xs (r - 1) (suc q - 1) x d away
    ∙ sym (entry_from d 1 xs (suc q) (omega arith))

-- ---- a row beneath another

-- two rows of cells that agree in each place
pub cells-same : (g h : List (List Cell)) (q r : ℕ) → IsTable g → IsTable h → 1 ≤ q → q ≤ 24 → 1 ≤ r → r ≤ 24
    → ((c : ℕ) → 1 ≤ c → c ≤ 40 → value_at blank_cell g q c ≡ value_at blank_cell h r c)
    → get_or g (q - 1) [] ≡ get_or h (r - 1) []
cells-same g h q r tg th lq hq lr hr same =
    let lg : length (get_or g (q - 1) []) ≡ 40 = tg.columns (q - 1) [] (omega arith) in
    let lh : length (get_or h (r - 1) []) ≡ 40 = th.columns (r - 1) [] (omega arith) in
    same_lists blank_cell 1 (get_or g (q - 1) []) (get_or h (r - 1) []) (lg ∙ sym lh) (λ c low high.
    entry_from blank_cell 1 (get_or g (q - 1) []) c low ∙ same c low (omega (arith, high, lg))
    ∙ sym (entry_from blank_cell 1 (get_or h (r - 1) []) c low))

-- what a row names by its cells, its attributes and its looks
pub beneath-by : (above : RowNames) (looks : List Look) (cells : List Cell) (row screen : Pen) (k : Core) (r c : ℕ)
    → r ≤ 24 → cells ≡ get_or k.page.cells (r - 1) [] → row ≡ row_pen_in k.page.row_pens r → screen ≡ k.page.screen_pen
    → looks ≡ looks_in (looks_of k) r
    → names_from_above (names_kept above) (λ d. part_of (column_entry blank_look looks d))
    (names_in_row (row_in cells) row screen) c
    ≡ names_beneath above k r c
beneath-by above looks cells row screen k r c high ec er es el =
    (λ i. names_from_above (names_kept above) (λ d. part_of (column_entry blank_look (el i) d))
    (names_in_row (row_in (ec i)) (er i) (es i)) c)
    ∙ (λ i. names_from_above (names_kept above) (λ d. part_of-seen k r d high i) (own_names k r) c)

-- two rows with the same cells, attributes and looks name the same beneath the same
pub beneath-same : (above : RowNames) (k m : Core) (r c : ℕ) → r ≤ 24
    → get_or k.page.cells (r - 1) [] ≡ get_or m.page.cells (r - 1) []
    → row_pen_in k.page.row_pens r ≡ row_pen_in m.page.row_pens r → k.page.screen_pen ≡ m.page.screen_pen
    → looks_in (looks_of k) r ≡ looks_in (looks_of m) r → names_beneath above k r c ≡ names_beneath above m r c
beneath-same above k m r c high ec er es el =
    sym (beneath-by above (looks_in (looks_of k) r) (get_or k.page.cells (r - 1) []) (row_pen_in k.page.row_pens r)
    k.page.screen_pen k r c high refl refl refl refl)
    ∙ beneath-by above (looks_in (looks_of k) r) (get_or k.page.cells (r - 1) []) (row_pen_in k.page.row_pens r)
    k.page.screen_pen m r c high ec er es el

-- ---- a row beneath one that covers it

-- a place that isn't covered from above shows an upper part
upper_part : (k : Core) (r c : ℕ) → OnScreen r c → covers_below (part_at (parts_of k) (r - 1) c) ≡ false
    → (part_at (parts_of k) r c).dy ≡ 0
upper_part k r c on free =
    let is : IsTiledAt (part_at (parts_of k) (r - 1)) (part_at (parts_of k) r) (own_size k r c)
    (is_last (edges_of_core k) r) c = (tiled_parts k).places r c on in
    elim (cases_Bool (is_covered_from_left (part_at (parts_of k) (r - 1) (c - 1)) (part_at (parts_of k) r (c - 1)))) [
      | inl covered ↦ ap (λ (p : Part). p.dy) (is.from_left free covered)
      | inr whole ↦ ap (λ (p : Part). p.dy) (is.origin free whole)
    ]

names_by-upper : (p : Part) (a b left own : Names) → p.dy ≡ 0 → names_by p a left own ≡ names_by p b left own
names_by-upper p a b left own upper =
    ap (λ n. cond (nat_lt 0 n) a (cond (nat_lt 0 p.dx) left own)) upper
    ∙ sym (ap (λ n. cond (nat_lt 0 n) b (cond (nat_lt 0 p.dx) left own)) upper)

-- it names the same beneath rows that name the same wherever they cover it
pub beneath-covered : (k : Core) (a b : RowNames) (row c : ℕ) → 1 ≤ row → row + 1 ≤ 24 → c ≤ 40
    → ((d : ℕ) → 1 ≤ d → d ≤ 40 → covers_below (part_of (column_entry blank_look (looks_in (looks_of k) row) d)) ≡ true
    → names_kept a d ≡ names_kept b d)
    → names_beneath a k (row + 1) c ≡ names_beneath b k (row + 1) c
unfolding names_from_above
beneath-covered k a b row zero low high right same = refl
beneath-covered k a b row (suc c) low high right same =
    let left = beneath-covered k a b row c low high (omega (arith, right)) same in
    let p : Part = part_at (parts_of k) (row + 1) (suc c) in
    let back : row + 1 - 1 ≡ row = omega arith in
    elim (cases_Bool (covers_below (part_at (parts_of k) row (suc c)))) [
      | inl covered ↦
          let above = same (suc c) (omega arith) right
          (ap (λ q. covers_below q) (part_of-seen k row (suc c) (omega (arith, high))) ∙ covered) in
          λ i. names_by p (above i) (left i) (own_names k (row + 1) (suc c))
      | inr free ↦
          let on : OnScreen (row + 1) (suc c) = record {
            from_top = omega arith;
            to_bottom = high;
            from_left = omega arith;
            to_right = right;
          } in
          let upper = upper_part k (row + 1) (suc c) on
          (ap (λ q. covers_below (part_at (parts_of k) q (suc c))) back ∙ free) in
          names_by-upper p (names_kept a (suc c)) (names_kept b (suc c)) (names_beneath a k (row + 1) c)
          (own_names k (row + 1) (suc c)) upper
          ∙ ap (λ n. names_by p (names_kept b (suc c)) n (own_names k (row + 1) (suc c))) left
    ]

-- ---- one row named anew

-- the names of row r are these, and those of the row below it are known where it names the same beneath them
pub AreNamed-more : (names : NamesOfRows) (k : Core) → AreNamed names k → (row : ℕ) → 1 ≤ row → row ≤ 24
    → (fresh : RowNames)
    → ((c : ℕ) → OnScreen row c → names_kept fresh c ≡ names_beneath (row_named names (row - 1)) k row c)
    → (known : List Bool) → length known ≡ 24
    → ((r : ℕ) → 1 ≤ r → r ≤ 24 → r ≢ row → entry false 1 known r ≡ true → is_known names r ≡ true)
    → (row + 1 ≤ 24 → entry false 1 known (row + 1) ≡ true → (c : ℕ) → c ≤ 40
    → names_beneath fresh k (row + 1) c ≡ names_beneath (row_named names row) k (row + 1) c)
    → (next : NamesOfRows) → next ≡ record { above = names.above; rows = set names.rows (row - 1) fresh; known = known }
    → AreNamed next k
AreNamed-more names k are row low high fresh made known long others below next e =
    subst (λ (n : NamesOfRows). AreNamed n k) (sym e) (record {
      rows = length-set names.rows (row - 1) fresh ∙ are.rows;
      flags = long;
      known = λ r c on so. by_row r c on so;
    })
  where
    here : row_named (record { above = names.above; rows = set names.rows (row - 1) fresh; known = known }) row ≡ fresh
    here = set-here names.above fresh names.rows row are.rows low high

    there : (r : ℕ) → r ≢ row
        → row_named (record { above = names.above; rows = set names.rows (row - 1) fresh; known = known }) r
        ≡ row_named names r
    there r apart = set-there names.above fresh names.rows row r low apart

    -- a row whose names stay known names the same beneath what is kept now
    same_beneath : (r c : ℕ) → OnScreen r c → entry false 1 known r ≡ true
        → names_beneath (row_named (record {
          above = names.above;
          rows = set names.rows (row - 1) fresh;
          known = known;
        }) (r - 1)) k r c
        ≡ names_beneath (row_named names (r - 1)) k r c
    same_beneath r c on so =
        elim (cases_eq (r - 1) row) [
          | inl is ↦
              let next_row : r ≡ row + 1 = omega (arith, is, on.from_top) in
              ap (λ (n : RowNames). names_beneath n k r c)
              (ap (row_named (record { above = names.above; rows = set names.rows (row - 1) fresh; known = known })) is
              ∙ here)
              ∙ ap (λ n. names_beneath fresh k n c) next_row
              ∙ below (omega (arith, next_row, on.to_bottom)) (ap (λ n. entry false 1 known n) (sym next_row) ∙ so) c
              on.to_right
              ∙ sym (λ i. names_beneath (row_named names (is i)) k (next_row i) c)
          | inr away ↦ ap (λ (n : RowNames). names_beneath n k r c) (there (r - 1) away)
        ]

    by_row : (r c : ℕ) → OnScreen r c → entry false 1 known r ≡ true
        → names_kept (row_named (record { above = names.above; rows = set names.rows (row - 1) fresh; known = known }) r) c
        ≡ names_beneath (row_named (record { above = names.above; rows = set names.rows (row - 1) fresh; known = known })
        (r - 1)) k r c
    by_row r c on so =
        elim (cases_eq r row) [
          | inl is ↦
              let first : row - 1 ≢ row = λ bad. omega (arith, bad, low) in
              let there_c : OnScreen row c = subst (λ n. OnScreen n c) is on in
              (λ i. names_kept (row_named (record {
                above = names.above;
                rows = set names.rows (row - 1) fresh;
                known = known;
              }) (is i)) c)
              ∙ ap (λ (n : RowNames). names_kept n c) here ∙ made c there_c
              ∙ ap (λ (n : RowNames). names_beneath n k row c) (sym (there (row - 1) first))
              ∙ sym (λ i. names_beneath (row_named (record {
                above = names.above;
                rows = set names.rows (row - 1) fresh;
                known = known;
              }) (is i - 1)) k (is i) c)
          | inr apart ↦
              ap (λ (n : RowNames). names_kept n c) (there r apart)
              ∙ are.known r c on (others r on.from_top on.to_bottom apart so)
              ∙ sym (same_beneath r c on so)
        ]

-- ---- rows forgotten

-- where the rows that are remembered name in another core what they named, their names are known of it too
pub AreNamed-remembered : (was now : NamesOfRows) (IsSo : ℕ → Type 0) (k m : Core) → AreNamed was k
    → AreRemembered was now IsSo
    → ((above : RowNames) (r c : ℕ) → OnScreen r c → IsSo r → names_beneath above k r c ≡ names_beneath above m r c)
    → AreNamed now m
AreNamed-remembered was now IsSo k m are left same = record {
  rows = ap length left.rows ∙ are.rows;
  flags = left.flags;
  known = λ r c on so.
      let still = left.known r on.from_top on.to_bottom so in
      (λ i. names_kept (entry (left.above i) 1 (left.rows i) r) c) ∙ are.known r c on still.0
      ∙ same (row_named was (r - 1)) r c on still.1
      ∙ sym (λ i. names_beneath (entry (left.above i) 1 (left.rows i) (r - 1)) m r c);
}

-- a flag stays set where the row stays
pub known-kept : (known : List Bool) → length known ≡ 24 → (row at : ℕ) → at ≡ row - 1 → 1 ≤ row → row ≤ 24 → (stays : Bool)
    → (r : ℕ) → entry false 1 known r ≡ true → (r ≡ row → stays ≡ true)
    → entry false 1 (set known at (get_or known at false && stays)) r ≡ true
known-kept known long row at en low high stays r so is =
    let both : Bool = get_or known at false && stays in
    elim (cases_eq r row) [
      | inl e ↦
          let was : get_or known at false ≡ true =
          ap (λ m. get_or known m false) en ∙ sym (entry_from false 1 known row low)
          ∙ ap (λ m. entry false 1 known m) (sym e) ∙ so in
          ap (λ m. entry false 1 (set known m both) r) en ∙ ap (λ m. entry false 1 (set known (row - 1) both) m) e
          ∙ set-here false both known row long low high ∙ (λ i. was i && is e i)
      | inr other ↦
          ap (λ m. entry false 1 (set known m both) r) en ∙ set-there false both known row r low other ∙ so
    ]

-- a flag that is unset where a row doesn't stay
pub known-stays : (known : List Bool) → length known ≡ 24 → (row at : ℕ) → at ≡ row - 1 → 1 ≤ row → row ≤ 24 → (stays : Bool)
    → (r : ℕ) → entry false 1 (set known at (get_or known at false && stays)) r ≡ true
    → (entry false 1 known r ≡ true) × (r ≡ row → stays ≡ true)
known-stays known long row at en low high stays r so =
    let both : Bool = get_or known at false && stays in
    elim (cases_eq r row) [
      | inl is ↦
          let set_is : both ≡ true =
          sym (set-here false both known row long low high) ∙ ap (λ m. entry false 1 (set known (row - 1) both) m) (sym is)
          ∙ ap (λ m. entry false 1 (set known m both) r) (sym en) ∙ so in
          let parts = and_parts (get_or known at false) stays set_is in (
            ap (λ m. entry false 1 known m) is ∙ entry_from false 1 known row low
                ∙ ap (λ m. get_or known m false) (sym en) ∙ parts.0,
            λ _. parts.1,
          )
      | inr other ↦ (
        sym (set-there false both known row r low other) ∙ ap (λ m. entry false 1 (set known m both) r) (sym en) ∙ so,
        λ is. absurd (other is),
      )
    ]

-- no names are known
pub AreNamed-none : (names : NamesOfRows) (k : Core) → length names.rows ≡ 24 → length names.known ≡ 24
    → ((r : ℕ) → 1 ≤ r → r ≤ 24 → is_known names r ≡ false) → AreNamed names k
AreNamed-none names k rows flags none = record {
  rows = rows;
  flags = flags;
  known = λ r c on so. absurd (true≢false (sym so ∙ none r on.from_top on.to_bottom));
}

-- ---- all rows known

-- where they are known of all rows, each row's names are those of the core
pub all_named : (names : NamesOfRows) (k : Core) → AreNamed names k → AreAllKnown names → (r c : ℕ) → OnScreen r c
    → names_kept (row_named names r) c ≡ names_at k r c
all_named names k are known zero c on = absurd (omega (arith, on.from_top))
all_named names k are known (suc r) c on =
    let back : r ≡ suc r - 1 = omega arith in
    are.known (suc r) c on (known (suc r) on.from_top on.to_bottom)
    ∙ sym (names_at-covered k (names_kept (row_named names (suc r - 1))) (suc r) c on (λ d there covers.
    subst (λ n. names_kept (row_named names n) d ≡ names_at k n d) back
    (all_named names k are known r d (subst (λ n. OnScreen n d) (sym back) there))))

-- ---- the fields of what is kept

-- a row named anew, by its index
pub AreNamed-last : (above : RowNames) (rows : List RowNames) (known : List Bool) (was : NamesOfRows)
    → (let names : NamesOfRows = record { above = above; rows = rows; known = known } in names) ≡ was
    → (k : Core) → AreNamed was k → (row at : ℕ) → at ≡ row - 1 → 1 ≤ row → row ≤ 24 → 24 ≤ row → (fresh : RowNames)
    → ((c : ℕ) → OnScreen row c → names_kept fresh c ≡ names_beneath (row_named was (row - 1)) k row c)
    → AreNamed (record { above = above; rows = set rows at fresh; known = set known at true }) k
AreNamed-last above rows known was e k are row at en low high last fresh made =
    let flags : length known ≡ 24 = ap (λ (w : NamesOfRows). length w.known) e ∙ are.flags in
    AreNamed-more was k are row low high fresh made (set known at true) (length-set known at true ∙ flags)
    (λ r lr hr apart so.
    ap (λ (w : NamesOfRows). is_known w r) (sym e) ∙ sym (set-there false true known row r low apart)
    ∙ ap (λ m. entry false 1 (set known m true) r) (sym en) ∙ so)
    (λ more. absurd (omega (arith, more, last)))
    (record { above = above; rows = set rows at fresh; known = set known at true })
    (λ i. record { above = (e i).above; rows = set (e i).rows (en i) fresh; known = set known at true })

-- one that isn't the last: whether the names of the row below are known depends on whether it names the same beneath it
pub AreNamed-above : (above : RowNames) (rows : List RowNames) (known : List Bool) (was : NamesOfRows)
    → (let names : NamesOfRows = record { above = above; rows = rows; known = known } in names) ≡ was
    → (k : Core) → AreNamed was k → (row at : ℕ) → at ≡ row - 1 → 1 ≤ row → row < 24 → (fresh : RowNames)
    → ((c : ℕ) → OnScreen row c → names_kept fresh c ≡ names_beneath (row_named was (row - 1)) k row c)
    → (same : Bool)
    → (same ≡ true → (c : ℕ) → c ≤ 40
    → names_beneath fresh k (row + 1) c ≡ names_beneath (row_named was row) k (row + 1) c)
    → AreNamed (record {
      above = above;
      rows = set rows at fresh;
      known = set (set known at true) (at + 1) (get_or (set known at true) (at + 1) false && same);
    }) k
AreNamed-above above rows known was e k are row at en low below fresh made same stays =
    let first : List Bool = set known at true in
    let second : Bool = get_or first (at + 1) false && same in
    let long : length first ≡ 24 =
    length-set known at true ∙ ap (λ (w : NamesOfRows). length w.known) e ∙ are.flags in
    let next_is : at + 1 ≡ row + 1 - 1 = omega (arith, en, low) in
    let next : set first (at + 1) second ≡ set first (row + 1 - 1) second = ap (λ m. set first m second) next_is in
    let row_below : entry false 1 (set first (row + 1 - 1) second) (row + 1) ≡ second =
    set-here false second first (row + 1) long (omega arith) (omega (arith, below)) in
    let flag : (r : ℕ) → r ≢ row → entry false 1 first r ≡ is_known was r = λ r apart.
    ap (λ m. entry false 1 (set known m true) r) en ∙ set-there false true known row r low apart
    ∙ ap (λ (w : NamesOfRows). is_known w r) e in
    AreNamed-more was k are row low (omega (arith, below)) fresh made (set first (at + 1) second)
    (length-set first (at + 1) second ∙ long)
    (λ r lr hr apart so.
    elim (cases_eq r (row + 1)) [
      | inl is ↦
          let both : second ≡ true =
          sym row_below ∙ ap (λ m. entry false 1 (set first (row + 1 - 1) second) m) (sym is)
          ∙ ap (λ (l : List Bool). entry false 1 l r) (sym next) ∙ so in
          let here : get_or first (at + 1) false ≡ entry false 1 first r =
          ap (λ m. get_or first m false) (next_is ∙ ap (λ m. m - 1) (sym is)) ∙ sym (entry_from false 1 first r lr) in
          sym (flag r apart) ∙ sym here ∙ (and_parts (get_or first (at + 1) false) same both).0
      | inr other ↦
          sym (flag r apart) ∙ sym (set-there false second first (row + 1) r (omega arith) other)
          ∙ ap (λ (l : List Bool). entry false 1 l r) (sym next) ∙ so
    ])
    (λ more so.
    stays (and_parts (get_or first (at + 1) false) same
    (sym row_below ∙ ap (λ (l : List Bool). entry false 1 l (row + 1)) (sym next) ∙ so)).1)
    (record { above = above; rows = set rows at fresh; known = set first (at + 1) second })
    (λ i. record { above = (e i).above; rows = set (e i).rows (en i) fresh; known = set first (at + 1) second })

-- ---- rows in which a place is marked are forgotten, row by row

pub forgotten-first : (was now : NamesOfRows) (marks : List Bool) (row : ℕ) → AreJustRemembered was now (λ r. r ≢ row)
    → AreJustRemembered was now (λ r. (r ≢ row) × IsUnmarkedBelow marks 0 r)
forgotten-first was now marks row left = record {
  remembered = record {
    above = left.remembered.above;
    rows = left.remembered.rows;
    flags = left.remembered.flags;
    known = λ r low high so.
        let before = left.remembered.known r low high so in
        (before.0, (before.1, λ c on below. absurd (omega (arith, below))));
  };
  kept = λ r low high so is. left.kept r low high so is.0;
}

-- the next row in which one is
pub forgotten-more : {was mid now : NamesOfRows} (marks : List Bool) (row from : ℕ)
    → AreJustRemembered was mid (λ r. (r ≢ row) × IsUnmarkedBelow marks from r) → (place : Place)
    → IsFirstFrom marks from place → AreJustRemembered mid now (λ r. r ≢ place.row)
    → AreJustRemembered was now (λ r. (r ≢ row) × IsUnmarkedBelow marks (40 * place.row) r)
forgotten-more {was} {mid} {now} marks row from left place first more = record {
  remembered = record {
    above = more.remembered.above ∙ left.remembered.above;
    rows = more.remembered.rows ∙ left.remembered.rows;
    flags = more.remembered.flags;
    known = λ r low high so.
        let now_ = more.remembered.known r low high so in
        let before = left.remembered.known r low high now_.0 in (
          before.0,
          (
            before.1.0,
            λ c on below. elim (cases_lt (number r c) from) [
              | inl earlier ↦ before.1.1 c on earlier
              | inr later ↦ elim (cases_lt (number r c) (number place.row place.column)) [
                | inl between ↦ first.first (number r c) later between
                | inr past ↦ absurd (now_.1 (omega (arith, on, first.on_screen, past, below)))
              ]
            ],
          ),
        );
  };
  kept = λ r low high so is.
      let away : r ≢ place.row = λ here. true≢false (sym first.marked
      ∙ ap (λ n. is_marked marks (number n place.column)) (sym here)
      ∙ is.1 place.column (subst (λ n. OnScreen n place.column) (sym here) first.on_screen)
      (omega (arith, here, first.on_screen))) in
      more.kept r low high
      (left.kept r low high so (is.0, λ c on below. is.1 c on (omega (arith, below, first.at_least, first.on_screen))))
      away;
}

-- no place is left that is marked
pub forgotten-all : {was now : NamesOfRows} (marks : List Bool) (row from : ℕ)
    → AreJustRemembered was now (λ r. (r ≢ row) × IsUnmarkedBelow marks from r) → from ≤ 960
    → ((n : ℕ) → from ≤ n → is_marked marks n ≡ false)
    → AreJustRemembered was now (λ r. (r ≢ row) × IsUnmarkedBelow marks 960 r)
forgotten-all {was} {now} marks row from left high none = record {
  remembered = record {
    above = left.remembered.above;
    rows = left.remembered.rows;
    flags = left.remembered.flags;
    known = λ r low high so.
        let before = left.remembered.known r low high so in (
          before.0,
          (
            before.1.0,
            λ c on below. elim (cases_lt (number r c) from) [
              | inl earlier ↦ before.1.1 c on earlier
              | inr later ↦ none (number r c) later
            ],
          ),
        );
  };
  kept = λ r least most so is.
      left.kept r least most so (is.0, λ c on below. is.1 c on (omega (arith, below, high)));
}

-- where none of these rows moved, each that is left is still
pub forgotten-still : {was now : NamesOfRows} (marks : List Bool) (row : ℕ) (flags : List Bool) (rows : List Followed)
    → AreRemembered was now (λ r. (r ≢ row) × IsUnmarkedBelow marks 960 r)
    → ((r : ℕ) → 1 ≤ r → r ≤ 24 → r ≢ row → entry false 1 flags r ≡ false)
    → ((r : ℕ) → 1 ≤ r → r ≤ 24 → row_from rows r ≡ None → entry false 1 flags r ≡ true)
    → ((r q : ℕ) → 1 ≤ r → r ≤ 24 → row_from rows r ≡ Some q → q ≡ r)
    → AreRemembered was now (λ r. IsStill flags rows marks r)
forgotten-still {was} {now} marks row flags rows left unflagged freed still = record {
  above = left.above;
  rows = left.rows;
  flags = left.flags;
  known = λ r low high so.
      let before = left.known r low high so in
      let flag = unflagged r low high before.1.0 in (
        before.0,
        (flag, came r low high flag, λ c on. before.1.1 c on (number-lt r c on)),
      );
}
  where
    came : (r : ℕ) → 1 ≤ r → r ≤ 24 → entry false 1 flags r ≡ false → row_from rows r ≡ Some r
    came r low high flag = by_row (row_from rows r) refl
      where
        by_row : (found : Option ℕ) → row_from rows r ≡ found → row_from rows r ≡ Some r
        by_row None e = absurd (true≢false (sym (freed r low high e) ∙ flag))
        by_row (Some q) e = e ∙ ap (λ n. Some n) (still r q low high e)
