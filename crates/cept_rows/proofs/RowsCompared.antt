-- Rows compared from the left: of the columns before one it is known whether the looks differ in them, and whether one
-- of these looks covers the place below it.
use Rattle.std.proofs.Common.{◌≡◌, ◌≢◌, ℕ, zero, suc, ◌+◌, ◌-◌, ◌<◌, ◌≤◌, ◌||◌, ◌&&◌, Bool, true, false, not, List, length, set, get_or}
use Rattle.std.proofs.Common.{replicate, take, inl, inr, refl, sym, ap, subst, ◌∙◌, arith}
use Rattle.std.specs.List.{list_any, range_with_len}
use Rattle.std.proofs.lemmas.Bool.{and_right, cases_eq, cases_lt}
use Rattle.std.proofs.lemmas.List.{get_or-replicate, get_or-set_other, get_or-set_same, get_or-take, length-replicate, length-set}
use Rattle.std.proofs.lemmas.List.{length-take-le}
use Rattle.std.proofs.lemmas.List.Elements.{All-from_get_or}
use Rattle.std.proofs.lemmas.List.Folds.{list_any_none}
use Rattle.std.proofs.lemmas.List.FromFn.{get_or-range_with_len, length-range_with_len}
use Rattle.cept_codes.specs.declared.look.Look.{Look}
use Rattle.cept_codes.specs.Look.{blank_look}
use Rattle.cept_codes.specs.Same.{same_look}
use Rattle.cept_codes.specs.Table.{list_by_index}
use Rattle.cept_codes.proofs.Laws.{entry-list_by_index, entry_from, length-list_by_index, look_decides, same_lists}
use Rattle.cept_profile.specs.Look.{part_of}
use Rattle.cept_profile.specs.Names.{some_place}
use Rattle.cept_profile.specs.RowsFromAbove.{is_other_covering}
use Rattle.cept_profile.specs.Tiling.{column_entry, covers_below}
use Rattle.cept_rows.proofs.Columns.{column_entry-at}
use Rattle.cept_rows.proofs.RowsSearched.{found_there, or_none, searched_all, searched_more}

-- the looks in a column are the same
abbrev pub is_same_in : List Look → List Look → ℕ → Bool
is_same_in was now c = same_look (column_entry blank_look was c) (column_entry blank_look now c)

-- they are not
abbrev pub differs_in : List Look → List Look → ℕ → Bool
differs_in was now c = not (is_same_in was now c)

-- and one of them covers the place below it
abbrev pub covers_in : List Look → List Look → ℕ → Bool
covers_in was now c = is_other_covering (column_entry blank_look was c) (column_entry blank_look now c)

-- one of the looks does
abbrev pub one_covers : List Look → List Look → ℕ → Bool
one_covers was now c =
    covers_below (part_of (column_entry blank_look was c)) || covers_below (part_of (column_entry blank_look now c))

-- the rows have the same looks to the left of a column
abbrev pub AreSameBefore : List Look → List Look → ℕ → Type 0
AreSameBefore was now from =
    (c : ℕ) → 1 ≤ c → c < from → column_entry blank_look was c ≡ column_entry blank_look now c

-- a flag for each column: before this one where the looks differ, and from it on none
pub record DifferBelow (was now : List Look) (differ : List Bool) (from : ℕ) : Type 0 where
  pub low : 1 ≤ from
  pub long : length differ ≡ 40
  pub made : (c : ℕ) → 1 ≤ c → c ≤ 40 → c < from → get_or differ (c - 1) false ≡ not (is_same_in was now c)
  pub left : (c : ℕ) → from ≤ c → c ≤ 40 → get_or differ (c - 1) false ≡ false

same_there : (was now : List Look) (from c : ℕ) → AreSameBefore was now from → 1 ≤ c → c < from
    → is_same_in was now c ≡ true
same_there was now from c same low below =
    (look_decides (column_entry blank_look was c) (column_entry blank_look now c)).1 (same c low below)

DifferBelow-first : (was now : List Look) (from : ℕ) → 1 ≤ from → AreSameBefore was now from
    → DifferBelow was now (replicate 40 false) from
DifferBelow-first was now from low same = record {
  low = low;
  long = length-replicate 40 false;
  made = λ c left right below. get_or-replicate 40 (c - 1) false false (omega (arith, left, right))
      ∙ sym (ap not (same_there was now from c same left below));
  left = λ c past right. get_or-replicate 40 (c - 1) false false (omega (arith, past, right, low));
}

-- a column in which they are the same
DifferBelow-same : {was now : List Look} {differ : List Bool} {column : ℕ} → DifferBelow was now differ column
    → is_same_in was now column ≡ true → DifferBelow was now differ (column + 1)
DifferBelow-same {was} {now} {differ} {column} m same = record {
  low = omega arith;
  long = m.long;
  made = λ c left right below. elim (cases_lt c column) [
    | inl earlier ↦ m.made c left right earlier
    | inr later ↦
        let here : c ≡ column = omega (arith, below, later) in
        m.left c later right ∙ sym (ap not (ap (is_same_in was now) here ∙ same))
  ];
  left = λ c past right. m.left c (omega (arith, past)) right;
}

-- a column in which they differ
DifferBelow-more : {was now : List Look} {differ : List Bool} {from : ℕ} → DifferBelow was now differ from
    → (column at : ℕ) → from ≤ column → column ≤ 40 → at ≡ column - 1 → is_same_in was now column ≡ false
    → ((d : ℕ) → from ≤ d → d < column → is_same_in was now d ≡ true)
    → DifferBelow was now (set differ at true) (column + 1)
DifferBelow-more {was} {now} {differ} {from} m column at low high e other same =
    let elsewhere : (c : ℕ) → 1 ≤ c → c ≢ column → get_or (set differ at true) (c - 1) false ≡ get_or differ (c - 1) false =
    λ c left apart.
    let away : c - 1 ≢ at = λ here. apart (omega (arith, e, here, left, low, m.low)) in
    get_or-set_other differ at (c - 1) true false away in
    record {
      low = omega arith;
      long = length-set differ at true ∙ m.long;
      made = λ c left right below. elim (cases_eq c column) [
        | inl here ↦
            ap (λ n. get_or (set differ at true) (n - 1) false) here
            ∙ ap (λ n. get_or (set differ at true) n false) (sym e)
            ∙ get_or-set_same differ at true false (omega (arith, e, high, low, m.low, m.long))
            ∙ sym (ap not (ap (is_same_in was now) here ∙ other))
        | inr apart ↦
            elsewhere c left apart
            ∙ elim (cases_lt c from) [
              | inl earlier ↦ m.made c left right earlier
              | inr later ↦
                  m.left c later right ∙ sym (ap not (same c later (omega (arith, below, apart))))
            ]
      ];
      left = λ c past right. elsewhere c (omega (arith, past, m.low)) (λ here. omega (arith, past, here))
          ∙ m.left c (omega (arith, past, low)) right;
    }

-- no column is left in which they differ
DifferBelow-all : {was now : List Look} {differ : List Bool} {from : ℕ} → DifferBelow was now differ from
    → ((c : ℕ) → from ≤ c → c ≤ 40 → is_same_in was now c ≡ true)
    → differ ≡ list_by_index 1 40 (λ c. not (same_look (column_entry blank_look was c) (column_entry blank_look now c)))
DifferBelow-all {was} {now} {differ} {from} m same =
    let flag : ℕ → Bool = λ c. not (same_look (column_entry blank_look was c) (column_entry blank_look now c)) in
    same_lists false 1 differ (list_by_index 1 40 flag) (m.long ∙ sym (length-list_by_index 1 40 flag)) (λ c low high.
    let right : c ≤ 40 = omega (arith, high, m.long) in
    entry_from false 1 differ c low
    ∙ elim (cases_lt c from) [
      | inl earlier ↦ m.made c low right earlier
      | inr later ↦ m.left c later right ∙ sym (ap not (same c later right))
    ]
    ∙ sym (entry-list_by_index false 1 40 flag c low (omega (arith, right))))

-- ---- what is so of one of the columns before one

abbrev pub some_before : (ℕ → Bool) → ℕ → Bool
some_before meets from = list_any meets (take (from - 1) (range_with_len 1 40))

some_first : (meets : ℕ → Bool) (from : ℕ) → from ≤ 41 → ((c : ℕ) → 1 ≤ c → c < from → meets c ≡ false)
    → false ≡ some_before meets from
some_first meets from high none =
    sym (list_any_none meets (take (from - 1) (range_with_len 1 40)) (All-from_get_or (λ c. meets c ≡ false)
    (take (from - 1) (range_with_len 1 40)) 0 (λ i below.
    let inside : i < from - 1 =
    omega (arith, below, high, length-range_with_len 1 40, length-take-le (from - 1) (range_with_len 1 40)) in
    ap meets (get_or-take (from - 1) (range_with_len 1 40) i 0 inside
    ∙ get_or-range_with_len 1 40 i 0 (omega (arith, inside, high))) ∙ none (1 + i) (omega arith) (omega (arith, inside)))))

some_more : {found b : Bool} (meets : ℕ → Bool) (column : ℕ) → 1 ≤ column → column ≤ 40
    → found ≡ some_before meets column → b ≡ meets column → (found || b) ≡ some_before meets (column + 1)
some_more meets column low high so here =
    let at : column - 1 + 1 ≡ column = omega arith in
    let next : column - 1 + 1 ≡ column + 1 - 1 = omega arith in
    searched_more meets (column - 1) (omega (arith, low, high)) so (here ∙ ap meets (sym at))
    ∙ ap (λ n. list_any meets (take n (range_with_len 1 40))) next

none_more : {found : Bool} (meets : ℕ → Bool) (column : ℕ) → 1 ≤ column → column ≤ 40
    → found ≡ some_before meets column → meets column ≡ false → found ≡ some_before meets (column + 1)
none_more {found} meets column low high so none =
    or_none found (meets column) none ∙ some_more meets column low high so refl

or_last : (a b : Bool) → b ≡ true → true ≡ (a || b)
or_last true b last = refl
or_last false b last = sym last

and_last : (a b : Bool) → b ≡ true → a ≡ (a && b)
and_last true b last = sym last
and_last false b last = refl

-- ---- all of it

-- in which columns before one two rows differ, whether in any, and whether one of the looks that differ covers the place
-- below it
pub record ComparedBelow (was now : List Look) (columns : List Bool) (any covering : Bool) (from : ℕ)
    : Type 0 where
  pub flags : DifferBelow was now columns from
  pub some : any ≡ some_before (differs_in was now) from
  pub covers : covering ≡ some_before (covers_in was now) from

pub ComparedBelow-first : (was now : List Look) (from : ℕ) → 1 ≤ from → from ≤ 41 → AreSameBefore was now from
    → ComparedBelow was now (replicate 40 false) false false from
ComparedBelow-first was now from low high same = record {
  flags = DifferBelow-first was now from low same;
  some = some_first (differs_in was now) from high (λ c left below. ap not (same_there was now from c same left below));
  covers = some_first (covers_in was now) from high (λ c left below.
      and_right (one_covers was now c) (differs_in was now c) (ap not (same_there was now from c same left below)));
}

-- a column in which they are the same
pub ComparedBelow-same : {was now : List Look} {columns : List Bool} {some covers : Bool} {column : ℕ}
    → ComparedBelow was now columns some covers column → column ≤ 40 → is_same_in was now column ≡ true
    → ComparedBelow was now columns some covers (column + 1)
ComparedBelow-same {was} {now} {columns} {some} {covers} {column} m high same = record {
  flags = DifferBelow-same m.flags same;
  some = none_more (differs_in was now) column m.flags.low high m.some (ap not same);
  covers = none_more (covers_in was now) column m.flags.low high m.covers
      (and_right (one_covers was now column) (differs_in was now column) (ap not same));
}

-- one in which they differ
pub ComparedBelow-more : {was now : List Look} {columns : List Bool} {some covers : Bool} {column : ℕ}
    → ComparedBelow was now columns some covers column → column ≤ 40 → is_same_in was now column ≡ false
    → (at : ℕ) (more : Bool) → at ≡ column - 1 → more ≡ (covers || one_covers was now column)
    → ComparedBelow was now (set columns at true) true more (column + 1)
ComparedBelow-more {was} {now} {columns} {some} {covers} {column} m high other at more here is = record {
  flags = DifferBelow-more m.flags column at (omega arith) high here other (λ d past below. absurd (omega (arith, past, below)));
  some = or_last some (differs_in was now column) (ap not other)
      ∙ some_more (differs_in was now) column m.flags.low high m.some refl;
  covers = is ∙ some_more (covers_in was now) column m.flags.low high m.covers
      (and_last (one_covers was now column) (differs_in was now column) (ap not other));
}

-- the same of values that are these
pub ComparedBelow-as : {was now : List Look} {columns flags : List Bool} {some any covers over : Bool} {column : ℕ}
    → flags ≡ columns → any ≡ some → over ≡ covers → ComparedBelow was now columns some covers column
    → ComparedBelow was now flags any over column
ComparedBelow-as {was} {now} {columns} {flags} {some} {any} {covers} {over} {column} ef ea eo m =
    subst (λ (l : List Bool). ComparedBelow was now l any over column) (sym ef)
    (subst (λ b. ComparedBelow was now columns b over column) (sym ea)
    (subst (λ b. ComparedBelow was now columns some b column) (sym eo) m))

-- columns in which they are known to be the same
pub ComparedBelow-rest : {was now : List Look} {columns : List Bool} {some covers : Bool} {column : ℕ}
    → ComparedBelow was now columns some covers column
    → ((c : ℕ) → column ≤ c → c ≤ 40 → column_entry blank_look was c ≡ column_entry blank_look now c)
    → (n : ℕ) → column + n ≤ 41 → ComparedBelow was now columns some covers (column + n)
ComparedBelow-rest {was} {now} {columns} {some} {covers} {column} m same zero high =
    let e : column ≡ column + 0 = omega arith in subst (ComparedBelow was now columns some covers) e m
ComparedBelow-rest {was} {now} {columns} {some} {covers} {column} m same (suc n) high =
    let e : column + n + 1 ≡ column + suc n = omega arith in
    subst (ComparedBelow was now columns some covers) e
    (ComparedBelow-same (ComparedBelow-rest m same n (omega (arith, high))) (omega (arith, high))
    ((look_decides (column_entry blank_look was (column + n)) (column_entry blank_look now (column + n))).1
    (same (column + n) (omega arith) (omega (arith, high)))))

-- to the right of a column
pub ComparedBelow-end : {was now : List Look} {columns : List Bool} {some covers : Bool} {column : ℕ} (until : ℕ)
    → ComparedBelow was now columns some covers column → column ≤ 41 → until < column
    → ((c : ℕ) → until < c → c ≤ 40 → column_entry blank_look was c ≡ column_entry blank_look now c)
    → ComparedBelow was now columns some covers 41
ComparedBelow-end {was} {now} {columns} {some} {covers} {column} until m high past same =
    let e : column + (41 - column) ≡ 41 = omega (arith, high) in
    subst (ComparedBelow was now columns some covers) e
    (ComparedBelow-rest m (λ c low right. same c (omega (arith, past, low)) right) (41 - column) (omega (arith, high)))

-- no column is left
pub ComparedBelow-columns : {was now : List Look} {columns : List Bool} {some covers : Bool} {column : ℕ}
    → ComparedBelow was now columns some covers column → 41 ≤ column
    → columns ≡ list_by_index 1 40 (λ c. not (same_look (column_entry blank_look was c) (column_entry blank_look now c)))
ComparedBelow-columns m past = DifferBelow-all m.flags (λ c low high. absurd (omega (arith, past, low, high)))

pub ComparedBelow-some : {was now : List Look} {columns : List Bool} {some covers : Bool} {column : ℕ}
    → ComparedBelow was now columns some covers column → 41 ≤ column → some ≡ some_place (differs_in was now)
ComparedBelow-some {was} {now} {column = column} m past =
    searched_all (differs_in was now) (column - 1) (omega (arith, past)) m.some

pub ComparedBelow-covers : {was now : List Look} {columns : List Bool} {some covers : Bool} {column : ℕ}
    → ComparedBelow was now columns some covers column → 41 ≤ column → covers ≡ some_place (covers_in was now)
ComparedBelow-covers {was} {now} {column = column} m past =
    searched_all (covers_in was now) (column - 1) (omega (arith, past)) m.covers

alike : (b found : Bool) → (not b ≡ true → found ≡ true) → found ≡ false → b ≡ true
alike true found there none = refl
alike false found there none = let f : found ≡ true = there refl in cc

-- rows that differ in no column are the same
pub rows_alike : (was now : List Look) → length was ≡ 40 → length now ≡ 40
    → some_place (differs_in was now) ≡ false → was ≡ now
rows_alike was now long other none =
    same_lists blank_look 1 was now (long ∙ sym other) (λ c low high.
    let right : c ≤ 40 = omega (arith, high, long) in
    let same : is_same_in was now c ≡ true =
    alike (is_same_in was now c) (some_place (differs_in was now)) (found_there (differs_in was now) c low right) none in
    entry_from blank_look 1 was c low ∙ sym (column_entry-at blank_look was c low)
    ∙ (look_decides (column_entry blank_look was c) (column_entry blank_look now c)).0 same
    ∙ column_entry-at blank_look now c low ∙ sym (entry_from blank_look 1 now c low))
