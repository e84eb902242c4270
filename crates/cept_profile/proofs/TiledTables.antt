-- Tiled rows and tables: there is exactly one, and its parts are valid.
use Rattle.std.proofs.Common.{◌≡◌, ℕ, ◌+◌, ◌-◌, ◌≤◌, zero, suc, inl, inr, cond, not, Bool, true, false, List, rules}
use Rattle.std.proofs.Common.{refl, sym, ap, subst, ◌∙◌, arith}
use Rattle.std.proofs.lemmas.Bool.{and_parts, cases_Bool, cond-false, cond-true, false≢true}
use Rattle.cept_codes.specs.declared.attribute.Size.{Size}
use Rattle.cept_codes.specs.declared.look.Part.{Part}
use Rattle.cept_codes.specs.Look.{IsValidPart}
use Rattle.cept_codes.specs.Place.{OnScreen}
use Rattle.cept_codes.specs.Table.{IsTable, list_by_index, row_of, table}
use Rattle.cept_codes.proofs.Laws.{IsTable-table, same_indexed, same_lists, table-list_by_index}
use Rattle.cept_profile.specs.Tiling.{IsTiled, IsTiledAt, IsTiledRow, column_entry, covers_below, covers_right}
use Rattle.cept_profile.specs.Tiling.{is_covered_from_left, origin_part, part_by, flat_parts, part_at, part_from}
use Rattle.cept_profile.specs.Tiling.{parts_in}
use Rattle.cept_profile.specs.Tiling.{single_part, tiled_row, tiled_rows, tiled_table}
use Rattle.cept_profile.proofs.ColumnEntries.{column_entry-default, column_entry-table, length-row_in}
use Rattle.cept_profile.proofs.ColumnEntries.{column_entry-at}
use Rattle.cept_profile.proofs.TiledRows.{IsTiledAt-only, IsTiledRow-by_columns, IsTiledRow-made, row_of-same}

-- ---- rows

pub IsTiledRow-tiled_row : (above : List Part) (wanted : ℕ → Size) (last : Bool)
    → IsTiledRow above wanted last (tiled_row above wanted last)
unfolding tiled_row
IsTiledRow-tiled_row above wanted last = IsTiledRow-made above wanted last

pub IsTiledRow-only : (above row : List Part) (wanted : ℕ → Size) (last : Bool) → IsTiledRow above wanted last row
    → row ≡ tiled_row above wanted last
unfolding tiled_row
IsTiledRow-only above row wanted last is = IsTiledRow-by_columns above row wanted last is

-- a table whose rows are made of a function
rows_by_column : (t : List (List Part)) (f : ℕ → ℕ → Part) → IsTable t
    → ((r : ℕ) → 1 ≤ r → r ≤ 24 → parts_in t r ≡ row_of (f r)) → t ≡ table f
rows_by_column t f is same =
    same_lists flat_parts 1 t (table f) (is.rows ∙ sym (IsTable-table f).rows) (λ r low high.
    let within : r ≤ 24 = omega (arith, high, is.rows) in
    sym (column_entry-at flat_parts t r low) ∙ same r low within
    ∙ sym (column_entry-table flat_parts f r low within) ∙ column_entry-at flat_parts (table f) r low)

tiled_row-same : (above : List Part) (wanted other : ℕ → Size) (last : Bool)
    → ((c : ℕ) → 1 ≤ c → c ≤ 40 → wanted c ≡ other c) → tiled_row above wanted last ≡ tiled_row above other last
unfolding tiled_row
tiled_row-same above wanted other last same = row_of-same (column_entry single_part above) wanted other last same

-- ---- the rows of the one table

-- the part of a place of the one table
abbrev part_made : (ℕ → ℕ → Size) → (ℕ → Bool) → ℕ → ℕ → Part
part_made wanted is_last r =
    part_from (column_entry single_part (tiled_rows wanted is_last (r - 1))) (wanted r) (is_last r)

tiled_rows-none : (wanted : ℕ → ℕ → Size) (is_last : ℕ → Bool) → tiled_rows wanted is_last 0 ≡ flat_parts
unfolding tiled_rows
tiled_rows-none wanted is_last = refl

tiled_rows-at : (wanted : ℕ → ℕ → Size) (is_last : ℕ → Bool) (r : ℕ) → 1 ≤ r
    → tiled_rows wanted is_last r ≡ tiled_row (tiled_rows wanted is_last (r - 1)) (wanted r) (is_last r)
unfolding tiled_rows
tiled_rows-at wanted is_last zero low = absurd (omega arith)
tiled_rows-at wanted is_last (suc q) low =
    let back : q ≡ suc q - 1 = omega arith in
    ap (λ n. tiled_row (tiled_rows wanted is_last n) (wanted (suc q)) (is_last (suc q))) back

tiled_rows-row_of : (wanted : ℕ → ℕ → Size) (is_last : ℕ → Bool) (r : ℕ) → 1 ≤ r
    → tiled_rows wanted is_last r ≡ row_of (part_made wanted is_last r)
unfolding tiled_row
tiled_rows-row_of wanted is_last r low = tiled_rows-at wanted is_last r low

tiled_table-table : (wanted : ℕ → ℕ → Size) (is_last : ℕ → Bool)
    → tiled_table wanted is_last ≡ table (part_made wanted is_last)
unfolding tiled_table list_by_index
tiled_table-table wanted is_last =
    same_indexed 1 24 (tiled_rows wanted is_last) (λ r. row_of (part_made wanted is_last r))
    (λ r low high. tiled_rows-row_of wanted is_last r low)
    ∙ sym (table-list_by_index (part_made wanted is_last))

parts_in-tiled_table : (wanted : ℕ → ℕ → Size) (is_last : ℕ → Bool) (r : ℕ) → r ≤ 24
    → parts_in (tiled_table wanted is_last) r ≡ tiled_rows wanted is_last r
parts_in-tiled_table wanted is_last zero high = sym (tiled_rows-none wanted is_last)
parts_in-tiled_table wanted is_last (suc q) high =
    ap (λ t. parts_in t (suc q)) (tiled_table-table wanted is_last)
    ∙ column_entry-table flat_parts (part_made wanted is_last) (suc q) (omega arith) high
    ∙ sym (tiled_rows-row_of wanted is_last (suc q) (omega arith))

-- the same condition of the same rows
same_place : (size : Size) (last : Bool) (c : ℕ) (above other row next : List Part) → above ≡ other → row ≡ next
    → IsTiledAt (column_entry single_part above) (column_entry single_part row) size last c
    → IsTiledAt (column_entry single_part other) (column_entry single_part next) size last c
same_place size last c above other row next over here is =
    subst (λ a. IsTiledAt (column_entry single_part a) (column_entry single_part next) size last c) over
    (subst (λ h. IsTiledAt (column_entry single_part above) (column_entry single_part h) size last c) here is)

pub IsTiled-tiled_table : (wanted : ℕ → ℕ → Size) (is_last : ℕ → Bool)
    → IsTiled wanted is_last (tiled_table wanted is_last)
IsTiled-tiled_table wanted is_last = record {
  table = subst IsTable (sym (tiled_table-table wanted is_last)) (IsTable-table (part_made wanted is_last));
  places = λ r c on.
      let above = tiled_rows wanted is_last (r - 1) in
      let here : parts_in (tiled_table wanted is_last) r ≡ tiled_row above (wanted r) (is_last r) =
      parts_in-tiled_table wanted is_last r on.to_bottom ∙ tiled_rows-at wanted is_last r on.from_top in
      same_place (wanted r c) (is_last r) c above (parts_in (tiled_table wanted is_last) (r - 1))
      (tiled_row above (wanted r) (is_last r)) (parts_in (tiled_table wanted is_last) r)
      (sym (parts_in-tiled_table wanted is_last (r - 1) (omega (arith, on)))) (sym here)
      ((IsTiledRow-tiled_row above (wanted r) (is_last r)).places c on.from_left on.to_right);
}

-- ---- a tiled table row by row

IsTiledRow-parts_in : (wanted : ℕ → ℕ → Size) (is_last : ℕ → Bool) (t : List (List Part)) (r : ℕ)
    → IsTiled wanted is_last t → 1 ≤ r → r ≤ 24
    → IsTiledRow (parts_in t (r - 1)) (wanted r) (is_last r) (parts_in t r)
IsTiledRow-parts_in wanted is_last t r is low high = record {
  columns = length-row_in (λ _. single_part) t r is.table high;
  places = λ c first past.
      is.places r c (record { from_top = low; to_bottom = high; from_left = first; to_right = past });
}

parts_in-next : (wanted : ℕ → ℕ → Size) (is_last : ℕ → Bool) (t : List (List Part)) (r : ℕ)
    → IsTiled wanted is_last t → 1 ≤ r → r ≤ 24
    → parts_in t r ≡ tiled_row (parts_in t (r - 1)) (wanted r) (is_last r)
parts_in-next wanted is_last t r is low high =
    IsTiledRow-only (parts_in t (r - 1)) (parts_in t r) (wanted r) (is_last r)
    (IsTiledRow-parts_in wanted is_last t r is low high)

parts_in-only : (wanted : ℕ → ℕ → Size) (is_last : ℕ → Bool) (t : List (List Part)) (r : ℕ)
    → IsTiled wanted is_last t → r ≤ 24 → parts_in t r ≡ tiled_rows wanted is_last r
parts_in-only wanted is_last t zero is high = sym (tiled_rows-none wanted is_last)
parts_in-only wanted is_last t (suc q) is high =
    let back : suc q - 1 ≡ q = omega arith in
    parts_in-next wanted is_last t (suc q) is (omega arith) high
    ∙ ap (λ a. tiled_row a (wanted (suc q)) (is_last (suc q))) (ap (parts_in t) back
    ∙ parts_in-only wanted is_last t q is (omega arith) ∙ sym (ap (tiled_rows wanted is_last) back))
    ∙ sym (tiled_rows-at wanted is_last (suc q) (omega arith))

pub IsTiled-only : (wanted : ℕ → ℕ → Size) (is_last : ℕ → Bool) (t : List (List Part)) → IsTiled wanted is_last t
    → t ≡ tiled_table wanted is_last
IsTiled-only wanted is_last t is =
    rows_by_column t (part_made wanted is_last) is.table (λ r low high.
    parts_in-only wanted is_last t r is high ∙ tiled_rows-row_of wanted is_last r low)
    ∙ sym (tiled_table-table wanted is_last)

pub tiled_row-beneath : (wanted : ℕ → ℕ → Size) (is_last : ℕ → Bool) (t : List (List Part)) (r : ℕ) (here : ℕ → Size)
    → IsTiled wanted is_last t → 1 ≤ r → r ≤ 24 → ((c : ℕ) → 1 ≤ c → c ≤ 40 → here c ≡ wanted r c)
    → tiled_row (parts_in t (r - 1)) here (is_last r) ≡ parts_in t r
tiled_row-beneath wanted is_last t r here is low high same =
    tiled_row-same (parts_in t (r - 1)) here (wanted r) (is_last r) same
    ∙ sym (parts_in-next wanted is_last t r is low high)

-- ---- parts are valid, and their signs begin on the screen

-- the part of a place is valid, its sign begins on the screen, and off the screen nothing covers another place
record IsWithin (r c : ℕ) (p : Part) : Type 0 where
  valid : IsValidPart p
  down : p.dy ≤ r - 1
  right : p.dx ≤ c - 1
  below : covers_below p ≡ true → 1 ≤ r
  across : covers_right p ≡ true → 1 ≤ c

IsWithin-single : (r c : ℕ) → IsWithin r c single_part
IsWithin-single r c = record {
  valid = search rules;
  down = omega arith;
  right = omega arith;
  below = λ on. absurd (false≢true on);
  across = λ on. absurd (false≢true on);
}

-- how wide or high an upper left part is
one_or_two : (twice : Bool) → (1 ≤ cond twice 2 1) × (cond twice 2 1 ≤ 2)
one_or_two true = (omega arith, omega arith)
one_or_two false = (omega arith, omega arith)

IsWithin-origin : (r c : ℕ) (wide high : Bool) → 1 ≤ r → 1 ≤ c → IsWithin r c (origin_part wide high)
IsWithin-origin r c wide high low left = record {
  valid = record { down = omega arith; right = omega arith; wide = one_or_two wide; high = one_or_two high };
  down = omega arith;
  right = omega arith;
  below = λ on. low;
  across = λ on. left;
}

IsWithin-part_by : (above above_left above_right left : Part) (size : Size) (last : Bool) (r c : ℕ) → 1 ≤ r → 1 ≤ c
    → IsWithin (r - 1) c above → IsWithin r (c - 1) left
    → IsWithin r c (part_by above above_left above_right left size last c)
IsWithin-part_by above above_left above_right left size last r c low first up before =
    elim (cases_Bool (covers_below above)) [
      | inl covered ↦ subst (IsWithin r c) (sym (cond-true _ _ _ covered)) (record {
        valid = record { down = omega arith; right = up.valid.right; wide = up.valid.wide; high = up.valid.high };
        down = up.below covered;
        right = up.right;
        below = λ on. low;
        across = λ on. first;
      })
      | inr free ↦
          elim (cases_Bool (is_covered_from_left above_left left)) [
            | inl covered ↦ subst (IsWithin r c) (sym (cond-false _ _ _ free ∙ cond-true _ _ _ covered)) (record {
              valid = search rules;
              down = omega arith;
              right = before.across (and_parts (not (covers_below above_left)) (covers_right left) covered).1;
              below = λ on. low;
              across = λ on. first;
            })
            | inr apart ↦ subst (IsWithin r c) (sym (cond-false _ _ _ free ∙ cond-false _ _ _ apart))
                (IsWithin-origin r c _ _ low first)
          ]
    ]

-- back within the screen
OnScreen-back : (r c dy dx : ℕ) → OnScreen r c → dy ≤ r - 1 → dx ≤ c - 1 → OnScreen (r - dy) (c - dx)
OnScreen-back r c dy dx on down right = search rules

row_within : (wanted : ℕ → ℕ → Size) (is_last : ℕ → Bool) (t : List (List Part)) (r : ℕ) → IsTiled wanted is_last t
    → 1 ≤ r → r ≤ 24 → ((c : ℕ) → c ≤ 40 → IsWithin (r - 1) c (part_at t (r - 1) c)) → (c : ℕ) → c ≤ 40
    → IsWithin r c (part_at t r c)
row_within wanted is_last t r is low high up zero in_row = IsWithin-single r 0
row_within wanted is_last t r is low high up (suc k) in_row =
    let c : ℕ = suc k in
    let back : c - 1 ≡ k = omega arith in
    let before : IsWithin r (c - 1) (part_at t r (c - 1)) =
    subst (λ n. IsWithin r n (part_at t r n)) (sym back)
    (row_within wanted is_last t r is low high up k (omega arith)) in
    subst (IsWithin r c) (sym (IsTiledAt-only (part_at t (r - 1)) (part_at t r) (wanted r c) (is_last r) c
    (is.places r c (record { from_top = low; to_bottom = high; from_left = omega arith; to_right = in_row }))))
    (IsWithin-part_by (part_at t (r - 1) c) (part_at t (r - 1) (c - 1)) (part_at t (r - 1) (c + 1))
    (part_at t r (c - 1)) (wanted r c) (is_last r) r c low (omega arith) (up c in_row) before)

all_within : (wanted : ℕ → ℕ → Size) (is_last : ℕ → Bool) (t : List (List Part)) → IsTiled wanted is_last t → (r c : ℕ)
    → r ≤ 24 → c ≤ 40 → IsWithin r c (part_at t r c)
all_within wanted is_last t is zero c high in_row =
    subst (IsWithin 0 c) (sym (column_entry-default single_part c)) (IsWithin-single 0 c)
all_within wanted is_last t is (suc q) c high in_row =
    let back : suc q - 1 ≡ q = omega arith in
    row_within wanted is_last t (suc q) is (omega arith) high (λ d inside.
    subst (λ n. IsWithin n d (part_at t n d)) (sym back) (all_within wanted is_last t is q d (omega arith) inside)) c
    in_row

pub IsValidPart-part_at : (wanted : ℕ → ℕ → Size) (is_last : ℕ → Bool) (t : List (List Part)) (r c : ℕ)
    → IsTiled wanted is_last t → OnScreen r c → IsValidPart (part_at t r c)
IsValidPart-part_at wanted is_last t r c is on = (all_within wanted is_last t is r c on.to_bottom on.to_right).valid

pub OnScreen-origin : (wanted : ℕ → ℕ → Size) (is_last : ℕ → Bool) (t : List (List Part)) (r c : ℕ)
    → IsTiled wanted is_last t → OnScreen r c → OnScreen (r - (part_at t r c).dy) (c - (part_at t r c).dx)
OnScreen-origin wanted is_last t r c is on =
    let within = all_within wanted is_last t is r c on.to_bottom on.to_right in
    OnScreen-back r c (part_at t r c).dy (part_at t r c).dx on within.down within.right
