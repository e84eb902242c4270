-- Looks through the origins of a tiled table, whatever stands at the places by itself: each row is made from above.
use Rattle.std.proofs.Common.{◌≡◌, ℕ, ◌+◌, ◌-◌, ◌≤◌, inl, inr, zero, suc, Bool, false, rules}
use Rattle.std.proofs.Common.{None, List, map, refl, sym, ap, ◌∙◌, subst, arith}
use Rattle.cept_codes.specs.declared.attribute.Size.{Size}
use Rattle.cept_codes.specs.declared.attribute.Size.TheVariants as sizes
use Rattle.cept_codes.specs.declared.look.Look.{Look}
use Rattle.cept_codes.specs.declared.look.Part.{Part}
use Rattle.cept_codes.specs.Look.{blank_look}
use Rattle.cept_codes.specs.Place.{OnScreen}
use Rattle.cept_codes.specs.Table.{IsTable, table}
use Rattle.cept_codes.proofs.Laws.{IsTable-table}
use Rattle.cept_profile.specs.Look.{part_of}
use Rattle.cept_profile.specs.RowsFromAbove.{blank_looks, covering, look_by, look_from, look_seen, looks_in}
use Rattle.cept_profile.specs.RowsFromAbove.{look_of_origin, look_with_part, row_from_above}
use Rattle.cept_profile.specs.Tiling.{IsTiled, column_entry, covers_below, part_at}
use Rattle.cept_profile.specs.Tiling.{part_by, single_part}
use Rattle.cept_profile.proofs.ColumnEntries.{IsOff, column_entry-map, column_entry-row_of, column_entry-table}
use Rattle.cept_profile.proofs.ColumnEntries.{entry_off, length-row_in, off_or_on, row_by_column, same_row_of}
use Rattle.cept_profile.proofs.LookByNeighbours.{covers_nothing-by, leaning, look_by-same, origin-itself, look_from-at}
use Rattle.cept_profile.proofs.LookByNeighbours.{look_from-same}
use Rattle.cept_profile.proofs.LookByNeighbours.{look_of_origin-by, single_by, upper_part}
use Rattle.cept_profile.proofs.TiledRows.{IsTiledAt-only}

-- the look of a place, through the origin of its part
abbrev pub look_through : (ℕ → ℕ → Look) → List (List Part) → ℕ → ℕ → Look
look_through own t r c = look_of_origin own r c (part_at t r c)

-- all looks
abbrev pub looks_through : (ℕ → ℕ → Look) → List (List Part) → List (List Look)
looks_through own t = table (look_through own t)

-- ---- as they are seen in the grid

pub look_seen-on : (own : ℕ → ℕ → Look) (t : List (List Part)) (r c : ℕ) → OnScreen r c
    → look_seen (looks_through own t) r c ≡ look_through own t r c
look_seen-on own t r c on =
    ap (λ row. column_entry blank_look row c)
    (column_entry-table blank_looks (look_through own t) r on.from_top on.to_bottom)
    ∙ column_entry-row_of blank_look (look_through own t r) c on.from_left on.to_right

look_seen-off : (own : ℕ → ℕ → Look) (t : List (List Part)) (r c : ℕ) → r ≤ 24 → IsOff r c
    → look_seen (looks_through own t) r c ≡ blank_look
look_seen-off own t r c high off =
    entry_off blank_look (looks_through own t) r c (IsTable-table (look_through own t)) high off

part_at-off : (t : List (List Part)) (r c : ℕ) → IsTable t → r ≤ 24 → IsOff r c → part_at t r c ≡ single_part
part_at-off t r c is high off = entry_off single_part t r c is high off

-- through a whole sign nothing is covered
free_below : (own : ℕ → ℕ → Look) (r c : ℕ) (p : Part) → p ≡ single_part → covering (look_of_origin own r c p) ≡ None
free_below own r c p whole = ap (λ q. covering (look_of_origin own r c q)) whole

free_right : (own : ℕ → ℕ → Look) (r c : ℕ) (p : Part) → p ≡ single_part → leaning (look_of_origin own r c p) ≡ None
free_right own r c p whole = ap (λ q. leaning (look_of_origin own r c q)) whole

-- what covers is the same through the table and as seen in the grid, also off the screen
pub covering-seen : (own : ℕ → ℕ → Look) (t : List (List Part)) (r c : ℕ) → IsTable t → r ≤ 24
    → covering (look_through own t r c) ≡ covering (look_seen (looks_through own t) r c)
covering-seen own t r c is high =
    elim (off_or_on r c high) [
      | inl off ↦ free_below own r c (part_at t r c) (part_at-off t r c is high off)
          ∙ sym (ap (λ l. covering l) (look_seen-off own t r c high off))
      | inr on ↦ ap (λ l. covering l) (sym (look_seen-on own t r c on))
    ]

pub leaning-seen : (own : ℕ → ℕ → Look) (t : List (List Part)) (r c : ℕ) → IsTable t → r ≤ 24
    → leaning (look_through own t r c) ≡ leaning (look_seen (looks_through own t) r c)
leaning-seen own t r c is high =
    elim (off_or_on r c high) [
      | inl off ↦ free_right own r c (part_at t r c) (part_at-off t r c is high off)
          ∙ sym (ap (λ l. leaning l) (look_seen-off own t r c high off))
      | inr on ↦ ap (λ l. leaning l) (sym (look_seen-on own t r c on))
    ]

-- ---- tiled places

-- the part of a place by those around it
pub part_at-by : {wanted : ℕ → ℕ → Size} {is_last : ℕ → Bool} {t : List (List Part)} → IsTiled wanted is_last t
    → (r c : ℕ) → OnScreen r c
    → part_at t r c
    ≡ part_by (part_at t (r - 1) c) (part_at t (r - 1) (c - 1)) (part_at t (r - 1) (c + 1)) (part_at t r (c - 1))
    (wanted r c) (is_last r) c
part_at-by {wanted} {is_last} {t} is r c on =
    IsTiledAt-only (part_at t (r - 1)) (part_at t r) (wanted r c) (is_last r) c (is.places r c on)

upper_by : (p u ul ur l : Part) (size : Size) (last : Bool) (c : ℕ) → p ≡ part_by u ul ur l size last c
    → covers_below u ≡ false → p.dy ≡ 0
upper_by p u ul ur l size last c same free =
    ap (λ (q : Part). q.dy) same ∙ upper_part u ul ur l size last c free

-- what isn't covered from above is no lower part, and left of the first column stands none
pub upper_at : {wanted : ℕ → ℕ → Size} {is_last : ℕ → Bool} {t : List (List Part)} → IsTiled wanted is_last t
    → (r c : ℕ) → 1 ≤ r → r ≤ 24 → c ≤ 40 → covers_below (part_at t (r - 1) c) ≡ false → (part_at t r c).dy ≡ 0
upper_at is r zero low high left free = refl
upper_at {wanted} {is_last} {t} is r (suc c) low high left free =
    upper_by (part_at t r (suc c)) (part_at t (r - 1) (suc c)) (part_at t (r - 1) (suc c - 1))
    (part_at t (r - 1) (suc c + 1)) (part_at t r (suc c - 1)) (wanted r (suc c)) (is_last r) (suc c)
    (part_at-by is r (suc c) (search rules)) free

-- the look of a place by the looks seen around it
pub look_seen-by : {wanted : ℕ → ℕ → Size} {is_last : ℕ → Bool} {t : List (List Part)} → IsTiled wanted is_last t
    → (own : ℕ → ℕ → Look) (r c : ℕ) → OnScreen r c
    → look_seen (looks_through own t) r c
    ≡ look_by (look_seen (looks_through own t) (r - 1) c) (look_seen (looks_through own t) (r - 1) (c - 1))
    (look_seen (looks_through own t) (r - 1) (c + 1)) (look_seen (looks_through own t) r (c - 1)) (own r c)
    (wanted r c) (is_last r) c
look_seen-by {wanted} {is_last} {t} is own r c on =
    look_seen-on own t r c on
    ∙ look_of_origin-by own (part_at t (r - 1) c) (part_at t (r - 1) (c - 1)) (part_at t (r - 1) (c + 1))
    (part_at t r (c - 1)) (part_at t r c) (wanted r c) (is_last r) r c (part_at-by is r c on)
    (upper_at is r (c - 1) on.from_top on.to_bottom (omega (arith, on)))
    ∙ look_by-same (look_through own t (r - 1) c) (look_through own t (r - 1) (c - 1))
    (look_through own t (r - 1) (c + 1)) (look_through own t r (c - 1)) (own r c)
    (look_seen (looks_through own t) (r - 1) c) (look_seen (looks_through own t) (r - 1) (c - 1))
    (look_seen (looks_through own t) (r - 1) (c + 1)) (look_seen (looks_through own t) r (c - 1)) (own r c)
    (wanted r c) (wanted r c) (is_last r) c
    (covering-seen own t (r - 1) c is.table (omega (arith, on)))
    (covering-seen own t (r - 1) (c - 1) is.table (omega (arith, on)))
    (covering-seen own t (r - 1) (c + 1) is.table (omega (arith, on)))
    (leaning-seen own t r (c - 1) is.table on.to_bottom) refl refl

-- ---- rows from above

-- the look after the left one, by the row above
one_column_on : (above own : ℕ → Look) (wanted : ℕ → Size) (last : Bool) (c : ℕ) (l p : Look) → 1 ≤ c
    → l ≡ look_from above own wanted last (c - 1)
    → p ≡ look_by (above c) (above (c - 1)) (above (c + 1)) l (own c) (wanted c) last c
    → p ≡ look_from above own wanted last c
one_column_on above own wanted last c l p low before same =
    same
    ∙ ap (λ m. look_by (above c) (above (c - 1)) (above (c + 1)) m (own c) (wanted c) last c) before
    ∙ sym (look_from-at above own wanted last c low)

first_column : (above own : ℕ → Look) (wanted : ℕ → Size) (last : Bool) → look_from above own wanted last 0 ≡ blank_look
unfolding look_from
first_column above own wanted last = refl

columns_from_above : {wanted : ℕ → ℕ → Size} {is_last : ℕ → Bool} {t : List (List Part)} → IsTiled wanted is_last t
    → (own : ℕ → ℕ → Look) (r : ℕ) → 1 ≤ r → r ≤ 24 → (c : ℕ) → c ≤ 40
    → look_seen (looks_through own t) r c
    ≡ look_from (look_seen (looks_through own t) (r - 1)) (own r) (wanted r) (is_last r) c
columns_from_above {wanted} {is_last} {t} is own r low high zero left =
    sym (first_column (look_seen (looks_through own t) (r - 1)) (own r) (wanted r) (is_last r))
columns_from_above {wanted} {is_last} {t} is own r low high (suc c) left =
    let back : suc c - 1 ≡ c = omega arith in
    let before : look_seen (looks_through own t) r (suc c - 1)
    ≡ look_from (look_seen (looks_through own t) (r - 1)) (own r) (wanted r) (is_last r) (suc c - 1) =
    subst (λ d. look_seen (looks_through own t) r d
    ≡ look_from (look_seen (looks_through own t) (r - 1)) (own r) (wanted r) (is_last r) d) (sym back)
    (columns_from_above is own r low high c (omega arith)) in
    one_column_on (look_seen (looks_through own t) (r - 1)) (own r) (wanted r) (is_last r) (suc c)
    (look_seen (looks_through own t) r (suc c - 1)) (look_seen (looks_through own t) r (suc c)) (omega arith) before
    (look_seen-by is own r (suc c) (search rules))

pub looks_in-by : {wanted : ℕ → ℕ → Size} {is_last : ℕ → Bool} {t : List (List Part)} → IsTiled wanted is_last t
    → (own : ℕ → ℕ → Look) (r : ℕ) → 1 ≤ r → r ≤ 24
    → looks_in (looks_through own t) r
    ≡ row_from_above (looks_in (looks_through own t) (r - 1)) (own r) (wanted r) (is_last r)
unfolding row_from_above
looks_in-by {wanted} {is_last} {t} is own r low high =
    row_by_column blank_look
    (look_from (look_seen (looks_through own t) (r - 1)) (own r) (wanted r) (is_last r))
    (looks_in (looks_through own t) r)
    (length-row_in (λ _. blank_look) (looks_through own t) r (IsTable-table (look_through own t)) high)
    (λ c from to. columns_from_above is own r low high c to)

-- ---- a row under the same that covers it

covering-columns : (above next : List Look) → map (λ l. covering l) above ≡ map (λ l. covering l) next → (c : ℕ)
    → covering (column_entry blank_look above c) ≡ covering (column_entry blank_look next c)
covering-columns above next same c =
    sym (column_entry-map (λ l. covering l) blank_look above c)
    ∙ ap (λ xs. column_entry None xs c) same
    ∙ column_entry-map (λ l. covering l) blank_look next c

pub row_from_above-alike : (above next : List Look) (own own_next : ℕ → Look) (wanted wanted_next : ℕ → Size)
    (last : Bool) → map (λ l. covering l) above ≡ map (λ l. covering l) next
    → ((c : ℕ) → 1 ≤ c → c ≤ 40 → own c ≡ own_next c) → ((c : ℕ) → 1 ≤ c → c ≤ 40 → wanted c ≡ wanted_next c)
    → row_from_above above own wanted last ≡ row_from_above next own_next wanted_next last
unfolding row_from_above
row_from_above-alike above next own own_next wanted wanted_next last covers here sizes =
    same_row_of (look_from (column_entry blank_look above) own wanted last)
    (look_from (column_entry blank_look next) own_next wanted_next last) (λ c low high.
    look_from-same (column_entry blank_look above) (column_entry blank_look next) own own_next wanted wanted_next last
    (covering-columns above next covers) here sizes c high)

-- ---- rows of single size

single_columns : {wanted : ℕ → ℕ → Size} {is_last : ℕ → Bool} {t : List (List Part)} → IsTiled wanted is_last t
    → (r : ℕ) → 1 ≤ r → r ≤ 24 → ((c : ℕ) → 1 ≤ c → c ≤ 40 → wanted r c ≡ sizes.Normal) → (c : ℕ) → c ≤ 40
    → covers_below (part_at t r c) ≡ false
single_columns is r low high single zero left = refl
single_columns {wanted} {is_last} {t} is r low high single (suc c) left =
    let back : suc c - 1 ≡ c = omega arith in
    covers_nothing-by (part_at t r (suc c)) (part_at t (r - 1) (suc c)) (part_at t (r - 1) (suc c - 1))
    (part_at t (r - 1) (suc c + 1)) (part_at t r (suc c - 1)) (wanted r (suc c)) (is_last r) (suc c)
    (part_at-by is r (suc c) (search rules))
    (single (suc c) (omega arith) left)
    (subst (λ d. covers_below (part_at t r d) ≡ false) (sym back)
    (single_columns is r low high single c (omega arith)))
    (upper_at is r (suc c - 1) low high (omega arith))

-- a row of single size covers nothing, on the screen and off it
pub single_covers_nothing : {wanted : ℕ → ℕ → Size} {is_last : ℕ → Bool} {t : List (List Part)}
    → IsTiled wanted is_last t → (own : ℕ → ℕ → Look) (r : ℕ) → 1 ≤ r → r ≤ 24
    → ((c : ℕ) → 1 ≤ c → c ≤ 40 → wanted r c ≡ sizes.Normal) → (c : ℕ)
    → covers_below (part_of (look_seen (looks_through own t) r c)) ≡ false
single_covers_nothing {wanted} {is_last} {t} is own r low high single c =
    elim (off_or_on r c high) [
      | inl off ↦ ap (λ (l : Look). covers_below (part_of l)) (look_seen-off own t r c high off)
      | inr on ↦ ap (λ (l : Look). covers_below (part_of l)) (look_seen-on own t r c on)
          ∙ single_columns is r low high single c on.to_right
    ]

-- what isn't seen to cover is a part that doesn't
free_part : (own : ℕ → ℕ → Look) (t : List (List Part)) (r c : ℕ) → IsTable t → r ≤ 24
    → covers_below (part_of (look_seen (looks_through own t) r c)) ≡ false → covers_below (part_at t r c) ≡ false
free_part own t r c is high free =
    elim (off_or_on r c high) [
      | inl off ↦ ap (λ (p : Part). covers_below p) (part_at-off t r c is high off)
      | inr on ↦ sym (ap (λ (l : Look). covers_below (part_of l)) (look_seen-on own t r c on)) ∙ free
    ]

whole_columns : {wanted : ℕ → ℕ → Size} {is_last : ℕ → Bool} {t : List (List Part)} → IsTiled wanted is_last t
    → (r : ℕ) → 1 ≤ r → r ≤ 24 → ((c : ℕ) → 1 ≤ c → c ≤ 40 → wanted r c ≡ sizes.Normal)
    → ((c : ℕ) → covers_below (part_at t (r - 1) c) ≡ false) → (c : ℕ) → c ≤ 40 → part_at t r c ≡ single_part
whole_columns is r low high single free zero left = refl
whole_columns {wanted} {is_last} {t} is r low high single free (suc c) left =
    let back : suc c - 1 ≡ c = omega arith in
    single_by (part_at t r (suc c)) (part_at t (r - 1) (suc c)) (part_at t (r - 1) (suc c - 1))
    (part_at t (r - 1) (suc c + 1)) (part_at t r (suc c - 1)) (wanted r (suc c)) (is_last r) (suc c)
    (part_at-by is r (suc c) (search rules))
    (single (suc c) (omega arith) left) (free (suc c))
    (ap (part_at t r) back ∙ whole_columns is r low high single free c (omega arith))

-- where nothing covers a row of single size, each place shows what stands there
pub single_shows_itself : {wanted : ℕ → ℕ → Size} {is_last : ℕ → Bool} {t : List (List Part)}
    → IsTiled wanted is_last t → (own : ℕ → ℕ → Look) (r c : ℕ) → OnScreen r c
    → ((d : ℕ) → 1 ≤ d → d ≤ 40 → wanted r d ≡ sizes.Normal)
    → ((d : ℕ) → covers_below (part_of (look_seen (looks_through own t) (r - 1) d)) ≡ false)
    → look_through own t r c ≡ look_with_part single_part (own r c)
single_shows_itself {wanted} {is_last} {t} is own r c on single free =
    let above : (d : ℕ) → covers_below (part_at t (r - 1) d) ≡ false =
    λ d. free_part own t (r - 1) d is.table (omega (arith, on)) (free d) in
    ap (look_of_origin own r c)
    (whole_columns is r on.from_top on.to_bottom single above c on.to_right)
    ∙ origin-itself own false false r c
