-- Rows of a grid of looks: read, compared, and what covers the places below them.
use Rattle.std.proofs.Common.{◌≡◌, ℕ, ◌+◌, ◌-◌, ◌<◌, ◌≤◌, ◌||◌, Bool, true, false, not, List, [], length}
use Rattle.std.proofs.Common.{get_or, set, sym, ap, ◌∙◌, arith}
use Rattle.std.specs.List.{list_any, range_with_len}
use Rattle.std.proofs.lemmas.Bool.{and_right}
use Rattle.std.proofs.lemmas.List.{ext_get_or, get_or_default, get_or-set_same, set-get_or}
use Rattle.std.proofs.lemmas.List.Elements.{All-from_get_or}
use Rattle.std.proofs.lemmas.List.Folds.{list_any_none}
use Rattle.std.proofs.lemmas.List.FromFn.{get_or-range_with_len, length-range_with_len}
use Rattle.cept_codes.specs.declared.look.Look.{Look}
use Rattle.cept_codes.specs.Look.{blank_look}
use Rattle.cept_codes.specs.Place.{OnScreen}
use Rattle.cept_codes.specs.Same.{same_look}
use Rattle.cept_codes.specs.Table.{value_at, row_of, table, IsTable}
use Rattle.cept_codes.specs.Table.{list_by_index}
use Rattle.cept_codes.proofs.Laws.{IsTable-table, look_decides, table-list_by_index, entry-list_by_index}
use Rattle.cept_codes.proofs.Laws.{entry_from}
use Rattle.cept_profile.specs.Look.{part_of}
use Rattle.cept_profile.specs.RowsFromAbove.{blank_looks, is_covered_otherwise, is_other_covering, look_seen, looks_in}
use Rattle.cept_profile.specs.Tiling.{column_entry, covers_below}
use Rattle.cept_redraw.specs.inside.Kept.{is_other_above}

-- ---- rows read

pub column_entry-at : {X : Type 0} (d : X) (xs : List X) (c : ℕ) → 1 ≤ c → column_entry d xs c ≡ get_or xs (c - 1) d
column_entry-at d xs c low = entry_from d 1 xs c low

pub looks_in-at : (g : List (List Look)) (r : ℕ) → IsTable g → 1 ≤ r → r ≤ 24 → looks_in g r ≡ get_or g (r - 1) []
looks_in-at g r is low high =
    column_entry-at blank_looks g r low ∙ get_or_default g (r - 1) blank_looks [] (omega (arith, is.rows))

pub length-looks_in : (g : List (List Look)) (r : ℕ) → IsTable g → 1 ≤ r → r ≤ 24 → length (looks_in g r) ≡ 40
length-looks_in g r is low high = ap length (looks_in-at g r is low high) ∙ is.columns (r - 1) [] (omega arith)

pub look_seen-at : (g : List (List Look)) (r c : ℕ) → IsTable g → OnScreen r c
    → look_seen g r c ≡ value_at blank_look g r c
look_seen-at g r c is on =
    column_entry-at blank_look (looks_in g r) c on.from_left
    ∙ ap (λ (l : List Look). get_or l (c - 1) blank_look) (looks_in-at g r is on.from_top on.to_bottom)

-- two rows with the same look in each column
pub looks_in-alike : (g h : List (List Look)) (q r : ℕ) → IsTable g → IsTable h → 1 ≤ q → q ≤ 24 → 1 ≤ r → r ≤ 24
    → ((c : ℕ) → OnScreen r c → value_at blank_look g q c ≡ value_at blank_look h r c) → looks_in g q ≡ looks_in h r
looks_in-alike g h q r is ih from to low high same =
    let left : length (get_or g (q - 1) []) ≡ 40 = is.columns (q - 1) [] (omega arith) in
    let right : length (get_or h (r - 1) []) ≡ 40 = ih.columns (r - 1) [] (omega arith) in
    looks_in-at g q is from to
    ∙ ext_get_or blank_look (get_or g (q - 1) []) (get_or h (r - 1) []) (left ∙ sym right) (λ i below.
    let back : i + 1 - 1 ≡ i = omega arith in
    let on : OnScreen r (i + 1) = record {
      from_top = low;
      to_bottom = high;
      from_left = omega arith;
      to_right = omega (arith, left);
    } in
    ap (λ k. get_or (get_or g (q - 1) []) k blank_look) (sym back) ∙ same (i + 1) on
    ∙ ap (λ k. get_or (get_or h (r - 1) []) k blank_look) back)
    ∙ sym (looks_in-at h r ih low high)

-- and the same row of two grids
pub looks_in-same : (g h : List (List Look)) (r : ℕ) → IsTable g → IsTable h → 1 ≤ r → r ≤ 24
    → ((c : ℕ) → OnScreen r c → value_at blank_look g r c ≡ value_at blank_look h r c) → looks_in g r ≡ looks_in h r
looks_in-same g h r is ih low high same = looks_in-alike g h r r is ih low high low high same

pub looks_in-table : (f : ℕ → ℕ → Look) (r : ℕ) → 1 ≤ r → r ≤ 24 → looks_in (table f) r ≡ row_of (f r)
looks_in-table f r low high =
    looks_in-at (table f) r (IsTable-table f) low high
    ∙ ap (λ (t : List (List Look)). get_or t (r - 1) []) (table-list_by_index f)
    ∙ sym (entry_from [] 1 (list_by_index 1 24 (λ q. row_of (f q))) r low)
    ∙ entry-list_by_index [] 1 24 (λ q. row_of (f q)) r low (omega arith)

-- two grids with the same rows
pub tables-same : (g h : List (List Look)) → IsTable g → IsTable h
    → ((r : ℕ) → 1 ≤ r → r ≤ 24 → looks_in g r ≡ looks_in h r) → g ≡ h
tables-same g h is ih same =
    ext_get_or [] g h (is.rows ∙ sym ih.rows) (λ i below.
    let back : i + 1 - 1 ≡ i = omega arith in
    let high : i + 1 ≤ 24 = omega (arith, is.rows) in
    ap (λ k. get_or g k []) (sym back) ∙ sym (looks_in-at g (i + 1) is (omega arith) high)
    ∙ same (i + 1) (omega arith) high ∙ looks_in-at h (i + 1) ih (omega arith) high ∙ ap (λ k. get_or h k []) back)

-- a row replaced
pub looks_in-set : (g : List (List Look)) (r : ℕ) (looks : List Look) → IsTable g → 1 ≤ r → r ≤ 24
    → looks_in (set g (r - 1) looks) r ≡ looks
looks_in-set g r looks is low high =
    column_entry-at blank_looks (set g (r - 1) looks) r low
    ∙ get_or-set_same g (r - 1) looks blank_looks (omega (arith, is.rows))

-- a row set to what it is
pub looks_in-kept : (g : List (List Look)) (r : ℕ) (looks : List Look) → 1 ≤ r → looks_in g r ≡ looks
    → g ≡ set g (r - 1) looks
looks_in-kept g r looks low e =
    sym (ap (λ (l : List Look). set g (r - 1) l) (sym e ∙ column_entry-at blank_looks g r low)
    ∙ set-get_or g (r - 1) blank_looks)

-- ---- what covers the places below a row

-- the same look covers the same
pub is_other_covering-same : (a b : Look) → same_look a b ≡ true → is_other_covering a b ≡ false
is_other_covering-same a b e =
    and_right (covers_below (part_of a) || covers_below (part_of b)) (not (same_look a b)) (ap not e)

pub is_other_above-none : (was fresh : List Look)
    → ((c : ℕ) → 1 ≤ c → c ≤ 40
    → is_other_covering (column_entry blank_look was c) (column_entry blank_look fresh c) ≡ false)
    → is_other_above was fresh ≡ false
unfolding is_other_above
is_other_above-none was fresh none =
    let p : ℕ → Bool =
    λ c. is_other_covering (column_entry blank_look was c) (column_entry blank_look fresh c) in
    list_any_none p (range_with_len 1 40) (All-from_get_or (λ c. p c ≡ false) (range_with_len 1 40) 0 (λ i below.
    let within : i < 40 = omega (arith, length-range_with_len 1 40) in
    ap p (get_or-range_with_len 1 40 i 0 within) ∙ none (1 + i) (omega arith) (omega arith)))

pub is_other_above-same : (was fresh : List Look) → was ≡ fresh → is_other_above was fresh ≡ false
is_other_above-same was fresh e =
    is_other_above-none was fresh (λ c low high.
    is_other_covering-same (column_entry blank_look was c) (column_entry blank_look fresh c)
    ((look_decides (column_entry blank_look was c) (column_entry blank_look fresh c)).1
    (ap (λ (l : List Look). column_entry blank_look l c) e)))

pub covered_otherwise-above : (g h : List (List Look)) (q r : ℕ)
    → is_covered_otherwise g q h r ≡ is_other_above (looks_in g (q - 1)) (looks_in h (r - 1))
unfolding is_covered_otherwise is_other_above
covered_otherwise-above g h q r = λ i. is_other_above (looks_in g (q - 1)) (looks_in h (r - 1))

-- what covers the row below
pub covered_otherwise-below : (g h : List (List Look)) (r : ℕ)
    → is_covered_otherwise g (r + 1) h (r + 1) ≡ is_other_above (looks_in g r) (looks_in h r)
unfolding is_covered_otherwise is_other_above
covered_otherwise-below g h r =
    let back : r + 1 - 1 ≡ r = omega arith in
    ap (λ q. list_any (λ c. is_other_covering (look_seen g q c) (look_seen h q c)) (range_with_len 1 40)) back

-- nothing covers the first row
pub covered_otherwise-first : (g h : List (List Look)) → is_covered_otherwise g 1 h 1 ≡ false
covered_otherwise-first g h =
    covered_otherwise-below g h 0 ∙ is_other_above-same (looks_in g 0) (looks_in h 0) (λ i. blank_looks)
