-- Old values noted one after the other, until all of a part are noted.
use Rattle.std.proofs.Common.{◌≡◌, ℕ, ◌+◌, ◌-◌, ◌≤◌, ◌&&◌, ◌==◌, Bool, true, false, nat_le, nat_lt, Option}
use Rattle.std.proofs.Common.{None, List, get_or, length, inl, inr, refl, sym, ap, ◌∙◌, arith}
use Rattle.std.proofs.lemmas.Bool.{cases_eq, eqb-true}
use Rattle.std.proofs.lemmas.Bool.Decides.{nat_tests}
use Rattle.std.proofs.lemmas.List.{get_or_default}
use Rattle.cept_codes.specs.declared.attribute.Pen.{Pen}
use Rattle.cept_codes.specs.declared.cell.Cell.{Cell}
use Rattle.cept_codes.specs.declared.look.Paint.{Paint}
use Rattle.cept_codes.specs.declared.look.Pattern.{Pattern}
use Rattle.cept_codes.specs.Attribute.{unset_pen}
use Rattle.cept_codes.specs.Place.{OnScreen}
use Rattle.cept_codes.specs.Table.{IsTable, entry, list_by_index, table, value_at}
use Rattle.cept_codes.proofs.Laws.{entry-list_by_index, list_by_index-entry, same_indexed, same_table, table-value_at}
use Rattle.cept_codes.proofs.Laws.{entry_from, value_at-table}
use Rattle.cept_profile.specs.OldValues.{OldValues, first_noted, noted_where, old_cell, old_row_pen, with_cells, with_dclut}
use Rattle.cept_profile.specs.OldValues.{with_paints, with_patterns, with_row_pens}
use Rattle.cept_profile.specs.PageParts.{row_pen_in}

-- ---- one location

-- whether it is noted, by a test that holds
noted_if : {X : Type 0} (a b : Bool) (value : X) (old : Option X) → a ≡ b
    → noted_where a value old ≡ noted_where b value old
noted_if a b value old e = ap (λ k. noted_where k value old) e

-- the same value, where it is noted
value_alike : {X : Type 0} (here : Bool) (x y : X) (old : Option X) → (here ≡ true → x ≡ y)
    → noted_where here x old ≡ noted_where here y old
value_alike true x y old same = ap (λ v. first_noted old v) (same refl)
value_alike false x y old same = refl

-- those before k, and k, are those before the next
noted_next : {X : Type 0} (k j m : ℕ) (x : X) (old : Option X) → m ≡ k + 1
    → noted_where (k == j) x (noted_where (nat_lt j k) x old) ≡ noted_where (nat_lt j m) x old
noted_next {X} k j m x old next =
    elim (cases_eq k j) [
      | inl e ↦
          let here : (k == j) ≡ true = grind (arith, nat_tests) in
          let before : nat_lt j k ≡ false = grind (arith, nat_tests) in
          let within : nat_lt j m ≡ true = grind (arith, nat_tests) in
          noted_if (k == j) true x (noted_where (nat_lt j k) x old) here
          ∙ ap (λ (o : Option X). first_noted o x) (noted_if (nat_lt j k) false x old before)
          ∙ sym (noted_if (nat_lt j m) true x old within)
      | inr ne ↦
          let there : (k == j) ≡ false = grind (arith, nat_tests) in
          let alike : nat_lt j k ≡ nat_lt j m = grind (arith, nat_tests) in
          noted_if (k == j) false x (noted_where (nat_lt j k) x old) there
          ∙ noted_if (nat_lt j k) (nat_lt j m) x old alike
    ]

-- ---- a list

list_none : {X : Type 0} (from count k : ℕ) (f : ℕ → X) (olds : List (Option X)) → length olds ≡ count → k ≡ from
    → olds ≡ list_by_index from count (λ j. noted_where (nat_lt j k) (f j) (entry None from olds j))
list_none from count k f olds long e =
    sym (list_by_index-entry None from count olds long)
    ∙ same_indexed from count (entry None from olds) (λ j. noted_where (nat_lt j k) (f j) (entry None from olds j))
    (λ j low high.
    let before : nat_lt j k ≡ false = grind (arith, nat_tests) in
    sym (noted_if (nat_lt j k) false (f j) (entry None from olds j) before))

list_more : {X : Type 0} (from count k m : ℕ) (f : ℕ → X) (olds : List (Option X)) → m ≡ k + 1
    → list_by_index from count (λ j. noted_where (k == j) (f j) (entry None from
    (list_by_index from count (λ j. noted_where (nat_lt j k) (f j) (entry None from olds j))) j))
    ≡ list_by_index from count (λ j. noted_where (nat_lt j m) (f j) (entry None from olds j))
list_more {X} from count k m f olds next =
    let before : ℕ → Option X = λ j. noted_where (nat_lt j k) (f j) (entry None from olds j) in
    same_indexed from count (λ j. noted_where (k == j) (f j) (entry None from (list_by_index from count before) j))
    (λ j. noted_where (nat_lt j m) (f j) (entry None from olds j))
    (λ j low high.
    ap (λ (o : Option X). noted_where (k == j) (f j) o) (entry-list_by_index None from count before j low high)
    ∙ noted_next k j m (f j) (entry None from olds j) next)

list_all : {X : Type 0} (from count k : ℕ) (f : ℕ → X) (olds : List (Option X)) → from + count ≤ k
    → list_by_index from count (λ j. noted_where (nat_lt j k) (f j) (entry None from olds j))
    ≡ list_by_index from count (λ j. noted_where true (f j) (entry None from olds j))
list_all from count k f olds past =
    same_indexed from count (λ j. noted_where (nat_lt j k) (f j) (entry None from olds j))
    (λ j. noted_where true (f j) (entry None from olds j))
    (λ j low high.
    let within : nat_lt j k ≡ true = grind (arith, nat_tests) in
    noted_if (nat_lt j k) true (f j) (entry None from olds j) within)

-- ---- attributes of rows

-- attributes noted that are those of other rows, which are the same
row_pens_alike : (these others : ℕ → Bool) (pen : ℕ → Pen) (old : OldValues)
    → ((r : ℕ) → 1 ≤ r → r ≤ 24 → these r ≡ others r) → with_row_pens these pen old ≡ with_row_pens others pen old
row_pens_alike these others pen old alike =
    ap (λ (l : List (Option Pen)). record old { row_pens = l })
    (same_indexed 1 24 (λ r. noted_where (these r) (pen r) (old_row_pen old r))
    (λ r. noted_where (others r) (pen r) (old_row_pen old r))
    (λ r low high. noted_if (these r) (others r) (pen r) (old_row_pen old r) (alike r low (omega (arith, high)))))

pub row_pens_none : (old : OldValues) (pen : ℕ → Pen) (first k : ℕ) → length old.row_pens ≡ 24 → k ≡ first
    → old ≡ with_row_pens (λ r. nat_le first r && nat_lt r k) pen old
row_pens_none old pen first k long e =
    ap (λ (l : List (Option Pen)). record old { row_pens = l }) (sym (list_by_index-entry None 1 24 old.row_pens long))
    ∙ row_pens_alike (λ _. false) (λ r. nat_le first r && nat_lt r k) pen old
    (λ r low high. grind (arith, nat_tests))

-- the attributes of the row that is noted, or of one of those before it
pen_next : (first k m r : ℕ) (x : Pen) (old : Option Pen) → first ≤ k → m ≡ k + 1
    → noted_where (k == r) x (noted_where (nat_le first r && nat_lt r k) x old)
    ≡ noted_where (nat_le first r && nat_lt r m) x old
pen_next first k m r x old from next =
    elim (cases_eq k r) [
      | inl e ↦
          let here : (k == r) ≡ true = grind (arith, nat_tests) in
          let before : (nat_le first r && nat_lt r k) ≡ false = grind (arith, nat_tests) in
          let within : (nat_le first r && nat_lt r m) ≡ true = grind (arith, nat_tests) in
          noted_if (k == r) true x (noted_where (nat_le first r && nat_lt r k) x old) here
          ∙ ap (λ (o : Option Pen). first_noted o x) (noted_if (nat_le first r && nat_lt r k) false x old before)
          ∙ sym (noted_if (nat_le first r && nat_lt r m) true x old within)
      | inr ne ↦
          let there : (k == r) ≡ false = grind (arith, nat_tests) in
          let alike : (nat_le first r && nat_lt r k) ≡ (nat_le first r && nat_lt r m) = grind (arith, nat_tests) in
          noted_if (k == r) false x (noted_where (nat_le first r && nat_lt r k) x old) there
          ∙ noted_if (nat_le first r && nat_lt r k) (nat_le first r && nat_lt r m) x old alike
    ]

pub row_pens_more : (old before after : OldValues) (pen : ℕ → Pen) (first k m : ℕ)
    → before ≡ with_row_pens (λ r. nat_le first r && nat_lt r k) pen old
    → after ≡ with_row_pens (λ r. k == r) pen before → first ≤ k → m ≡ k + 1
    → after ≡ with_row_pens (λ r. nat_le first r && nat_lt r m) pen old
row_pens_more old before after pen first k m was is from next =
    let noted : ℕ → Option Pen = λ r. noted_where (nat_le first r && nat_lt r k) (pen r) (old_row_pen old r) in
    is ∙ ap (with_row_pens (λ r. k == r) pen) was
    ∙ ap (λ (l : List (Option Pen)). record old { row_pens = l })
    (same_indexed 1 24 (λ r. noted_where (k == r) (pen r) (entry None 1 (list_by_index 1 24 noted) r))
    (λ r. noted_where (nat_le first r && nat_lt r m) (pen r) (old_row_pen old r))
    (λ r low high.
    ap (λ (o : Option Pen). noted_where (k == r) (pen r) o) (entry-list_by_index None 1 24 noted r low high)
    ∙ pen_next first k m r (pen r) (old_row_pen old r) from next))

pub row_pens_all : (old after : OldValues) (pen : ℕ → Pen) (first last k : ℕ)
    → after ≡ with_row_pens (λ r. nat_le first r && nat_lt r k) pen old → k ≡ last + 1
    → after ≡ with_row_pens (λ r. nat_le first r && nat_le r last) pen old
row_pens_all old after pen first last k is e =
    is
    ∙ row_pens_alike (λ r. nat_le first r && nat_lt r k) (λ r. nat_le first r && nat_le r last) pen old
    (λ r low high. grind (arith, nat_tests))

pub row_pens_whole : (old : OldValues) (pen : ℕ → Pen)
    → with_row_pens (λ r. nat_le 1 r && nat_le r 24) pen old ≡ with_row_pens (λ _. true) pen old
row_pens_whole old pen =
    row_pens_alike (λ r. nat_le 1 r && nat_le r 24) (λ _. true) pen old (λ r low high. grind (arith, nat_tests))

-- the attributes of a row, read in their place
pub pen_read : (pens : List Pen) (i k : ℕ) (d : Pen) → length pens ≡ 24 → 1 ≤ k → k ≤ 24 → i + 1 ≡ k
    → get_or pens i d ≡ row_pen_in pens k
pen_read pens i k d long low high e =
    let back : i ≡ k - 1 = omega arith in
    get_or_default pens i d unset_pen (omega (arith, high, long)) ∙ ap (λ n. get_or pens n unset_pen) back
    ∙ sym (entry_from unset_pen 1 pens k low)

-- ---- colour entries

pub paints_none : (old : OldValues) (paint : ℕ → Paint) (k : ℕ) → length old.paints ≡ 32 → k ≡ 0
    → old ≡ with_paints (λ i. nat_lt i k) paint old
paints_none old paint k long e =
    ap (λ (l : List (Option Paint)). record old { paints = l }) (list_none 0 32 k paint old.paints long e)

pub paints_more : (old before after : OldValues) (paint : ℕ → Paint) (k m : ℕ)
    → before ≡ with_paints (λ i. nat_lt i k) paint old → after ≡ with_paints (λ i. k == i) paint before
    → m ≡ k + 1 → after ≡ with_paints (λ i. nat_lt i m) paint old
paints_more old before after paint k m was is next =
    is ∙ ap (with_paints (λ i. k == i) paint) was
    ∙ ap (λ (l : List (Option Paint)). record old { paints = l }) (list_more 0 32 k m paint old.paints next)

pub paints_all : (old after : OldValues) (paint : ℕ → Paint) (k : ℕ) → after ≡ with_paints (λ i. nat_lt i k) paint old
    → 32 ≤ k → after ≡ with_paints (λ _. true) paint old
paints_all old after paint k is past =
    is ∙ ap (λ (l : List (Option Paint)). record old { paints = l })
    (list_all 0 32 k paint old.paints (omega (arith, past)))

-- ---- entries of the DCLUT

pub dclut_none : (old : OldValues) (colour : ℕ → ℕ) (k : ℕ) → length old.dclut ≡ 4 → k ≡ 0
    → old ≡ with_dclut (λ i. nat_lt i k) colour old
dclut_none old colour k long e =
    ap (λ (l : List (Option ℕ)). record old { dclut = l }) (list_none 0 4 k colour old.dclut long e)

pub dclut_more : (old before after : OldValues) (colour : ℕ → ℕ) (k m : ℕ)
    → before ≡ with_dclut (λ i. nat_lt i k) colour old → after ≡ with_dclut (λ i. k == i) colour before
    → m ≡ k + 1 → after ≡ with_dclut (λ i. nat_lt i m) colour old
dclut_more old before after colour k m was is next =
    is ∙ ap (with_dclut (λ i. k == i) colour) was
    ∙ ap (λ (l : List (Option ℕ)). record old { dclut = l }) (list_more 0 4 k m colour old.dclut next)

pub dclut_all : (old after : OldValues) (colour : ℕ → ℕ) (k : ℕ) → after ≡ with_dclut (λ i. nat_lt i k) colour old
    → 4 ≤ k → after ≡ with_dclut (λ _. true) colour old
dclut_all old after colour k is past =
    is ∙ ap (λ (l : List (Option ℕ)). record old { dclut = l }) (list_all 0 4 k colour old.dclut (omega (arith, past)))

-- ---- patterns

pub patterns_none : (old : OldValues) (pattern : ℕ → Option Pattern) (k : ℕ) → length old.patterns ≡ 94 → k ≡ 0x21
    → old ≡ with_patterns (λ d. nat_lt d k) pattern old
patterns_none old pattern k long e =
    ap (λ (l : List (Option (Option Pattern))). record old { patterns = l })
    (list_none 0x21 94 k pattern old.patterns long e)

pub patterns_more : (old before after : OldValues) (pattern : ℕ → Option Pattern) (k m : ℕ)
    → before ≡ with_patterns (λ d. nat_lt d k) pattern old → after ≡ with_patterns (λ d. k == d) pattern before
    → m ≡ k + 1 → after ≡ with_patterns (λ d. nat_lt d m) pattern old
patterns_more old before after pattern k m was is next =
    is ∙ ap (with_patterns (λ d. k == d) pattern) was
    ∙ ap (λ (l : List (Option (Option Pattern))). record old { patterns = l }) (list_more 0x21 94 k m pattern old.patterns next)

pub patterns_all : (old after : OldValues) (pattern : ℕ → Option Pattern) (k : ℕ)
    → after ≡ with_patterns (λ d. nat_lt d k) pattern old → 0x7F ≤ k → after ≡ with_patterns (λ _. true) pattern old
patterns_all old after pattern k is past =
    is ∙ ap (λ (l : List (Option (Option Pattern))). record old { patterns = l })
    (list_all 0x21 94 k pattern old.patterns (omega (arith, past)))

-- ---- cells, row by row

pub rows_none : (old : OldValues) (was : ℕ → ℕ → Cell) (first k : ℕ) → IsTable old.cells → k ≡ first
    → old ≡ with_cells (λ r _. nat_le first r && nat_lt r k) was old
rows_none old was first k is e =
    ap (λ (t : List (List (Option Cell))). record old { cells = t })
    (sym (table-value_at old.cells None is)
    ∙ same_table (value_at None old.cells)
    (λ r c. noted_where (nat_le first r && nat_lt r k) (was r c) (old_cell old r c))
    (λ r c on.
    let none : (nat_le first r && nat_lt r k) ≡ false = grind (arith, nat_tests) in
    sym (noted_if (nat_le first r && nat_lt r k) false (was r c) (old_cell old r c) none)))

-- a cell of the row that is noted, or of those before it
row_next : (first k m r c : ℕ) (x : Cell) (old : Option Cell) → first ≤ k → m ≡ k + 1 → 1 ≤ c
    → noted_where (k == r && nat_le 1 c) x (noted_where (nat_le first r && nat_lt r k) x old)
    ≡ noted_where (nat_le first r && nat_lt r m) x old
row_next first k m r c x old from next low =
    elim (cases_eq k r) [
      | inl e ↦
          let here : (k == r && nat_le 1 c) ≡ true = grind (arith, nat_tests) in
          let before : (nat_le first r && nat_lt r k) ≡ false = grind (arith, nat_tests) in
          let within : (nat_le first r && nat_lt r m) ≡ true = grind (arith, nat_tests) in
          noted_if (k == r && nat_le 1 c) true x (noted_where (nat_le first r && nat_lt r k) x old) here
          ∙ ap (λ (o : Option Cell). first_noted o x) (noted_if (nat_le first r && nat_lt r k) false x old before)
          ∙ sym (noted_if (nat_le first r && nat_lt r m) true x old within)
      | inr ne ↦
          let there : (k == r && nat_le 1 c) ≡ false = grind (arith, nat_tests) in
          let alike : (nat_le first r && nat_lt r k) ≡ (nat_le first r && nat_lt r m) = grind (arith, nat_tests) in
          noted_if (k == r && nat_le 1 c) false x (noted_where (nat_le first r && nat_lt r k) x old) there
          ∙ noted_if (nat_le first r && nat_lt r k) (nat_le first r && nat_lt r m) x old alike
    ]

pub rows_more : (old before after : OldValues) (was : ℕ → ℕ → Cell) (first k m : ℕ)
    → before ≡ with_cells (λ r _. nat_le first r && nat_lt r k) was old
    → after ≡ with_cells (λ r c. k == r && nat_le 1 c) was before → first ≤ k → m ≡ k + 1
    → after ≡ with_cells (λ r _. nat_le first r && nat_lt r m) was old
rows_more old before after was first k m then_is now_is from next =
    let noted : ℕ → ℕ → Option Cell = λ r c. noted_where (nat_le first r && nat_lt r k) (was r c) (old_cell old r c) in
    now_is ∙ ap (with_cells (λ r c. k == r && nat_le 1 c) was) then_is
    ∙ ap (λ (t : List (List (Option Cell))). record old { cells = t })
    (same_table
    (λ r c. noted_where (k == r && nat_le 1 c) (was r c) (value_at None (table noted) r c))
    (λ r c. noted_where (nat_le first r && nat_lt r m) (was r c) (old_cell old r c))
    (λ r c on.
    ap (λ (o : Option Cell). noted_where (k == r && nat_le 1 c) (was r c) o) (value_at-table noted None r c on)
    ∙ row_next first k m r c (was r c) (old_cell old r c) from next on.from_left))

pub rows_all : (old after : OldValues) (was : ℕ → ℕ → Cell) (first last k : ℕ)
    → after ≡ with_cells (λ r _. nat_le first r && nat_lt r k) was old → k ≡ last + 1
    → after ≡ with_cells (λ r _. nat_le first r && nat_le r last) was old
rows_all old after was first last k is e =
    is
    ∙ ap (λ (t : List (List (Option Cell))). record old { cells = t })
    (same_table (λ r c. noted_where (nat_le first r && nat_lt r k) (was r c) (old_cell old r c))
    (λ r c. noted_where (nat_le first r && nat_le r last) (was r c) (old_cell old r c))
    (λ r c on.
    let alike : (nat_le first r && nat_lt r k) ≡ (nat_le first r && nat_le r last) = grind (arith, nat_tests) in
    noted_if (nat_le first r && nat_lt r k) (nat_le first r && nat_le r last) (was r c) (old_cell old r c) alike))

-- ---- the same values

-- cells noted that are those of another function, at other places that are the same
pub cells_alike : (these others : ℕ → ℕ → Bool) (cell was : ℕ → ℕ → Cell) (old : OldValues)
    → ((r c : ℕ) → OnScreen r c → these r c ≡ others r c)
    → ((r c : ℕ) → OnScreen r c → these r c ≡ true → cell r c ≡ was r c)
    → with_cells these cell old ≡ with_cells others was old
cells_alike these others cell was old alike same =
    ap (λ (t : List (List (Option Cell))). record old { cells = t })
    (same_table (λ r c. noted_where (these r c) (cell r c) (old_cell old r c))
    (λ r c. noted_where (others r c) (was r c) (old_cell old r c))
    (λ r c on.
    value_alike (these r c) (cell r c) (was r c) (old_cell old r c) (same r c on)
    ∙ noted_if (these r c) (others r c) (was r c) (old_cell old r c) (alike r c on)))

-- one entry of a list
list_one : {X : Type 0} (from count k : ℕ) (x : X) (f : ℕ → X) (olds : List (Option X)) → x ≡ f k
    → list_by_index from count (λ j. noted_where (k == j) x (entry None from olds j))
    ≡ list_by_index from count (λ j. noted_where (k == j) (f j) (entry None from olds j))
list_one from count k x f olds same =
    same_indexed from count (λ j. noted_where (k == j) x (entry None from olds j))
    (λ j. noted_where (k == j) (f j) (entry None from olds j))
    (λ j low high. value_alike (k == j) x (f j) (entry None from olds j) (λ here. same ∙ ap f (eqb-true k j here)))

pub row_pen_one : (old : OldValues) (k : ℕ) (x : Pen) (pen : ℕ → Pen) → x ≡ pen k
    → with_row_pens (λ r. k == r) (λ _. x) old ≡ with_row_pens (λ r. k == r) pen old
row_pen_one old k x pen same =
    ap (λ (l : List (Option Pen)). record old { row_pens = l }) (list_one 1 24 k x pen old.row_pens same)

pub paint_one : (old : OldValues) (k : ℕ) (x : Paint) (paint : ℕ → Paint) → x ≡ paint k
    → with_paints (λ i. k == i) (λ _. x) old ≡ with_paints (λ i. k == i) paint old
paint_one old k x paint same =
    ap (λ (l : List (Option Paint)). record old { paints = l }) (list_one 0 32 k x paint old.paints same)

pub dclut_one : (old : OldValues) (k x : ℕ) (colour : ℕ → ℕ) → x ≡ colour k
    → with_dclut (λ i. k == i) (λ _. x) old ≡ with_dclut (λ i. k == i) colour old
dclut_one old k x colour same =
    ap (λ (l : List (Option ℕ)). record old { dclut = l }) (list_one 0 4 k x colour old.dclut same)

pub pattern_one : (old : OldValues) (k : ℕ) (x : Option Pattern) (pattern : ℕ → Option Pattern) → x ≡ pattern k
    → with_patterns (λ d. k == d) (λ _. x) old ≡ with_patterns (λ d. k == d) pattern old
pattern_one old k x pattern same =
    ap (λ (l : List (Option (Option Pattern))). record old { patterns = l })
    (list_one 0x21 94 k x pattern old.patterns same)
