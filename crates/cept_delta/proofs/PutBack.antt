-- Old values put back one after the other, until all of a part are.
use Rattle.std.proofs.Common.{◌≡◌, ℕ, ◌+◌, ◌-◌, ◌≤◌, ◌<◌, ◌&&◌, ◌||◌, ◌==◌, Bool, true, false, cond, nat_lt, Option, Some}
use Rattle.std.proofs.Common.{None, List, get_or, length, unwrap_or, refl, sym, ap, ◌∙◌, arith}
use Rattle.std.proofs.lemmas.Bool.{and_parts, eqb-true}
use Rattle.std.proofs.lemmas.Bool.Decides.{nat_tests}
use Rattle.std.proofs.lemmas.List.{get_or_default}
use Rattle.cept_codes.specs.declared.cell.Cell.{Cell}
use Rattle.cept_codes.specs.Cell.{blank_cell}
use Rattle.cept_codes.specs.Place.{OnScreen, Place}
use Rattle.cept_codes.specs.Table.{IsTable, entry, list_by_index, table, value_at}
use Rattle.cept_codes.proofs.Laws.{entry-list_by_index, list_by_index-entry, same_indexed, same_table, table-value_at}
use Rattle.cept_codes.proofs.Laws.{entry_from, value_at-table}
use Rattle.cept_profile.specs.Cells.{is_at}
use Rattle.cept_delta.specs.inside.PutBack.{cells_back, entries_back, value_back}

-- ---- one location

or_none : (b : Bool) → (b || false) ≡ b
or_none true = refl
or_none false = refl

-- put back twice is put back once
back_next : {X : Type 0} (done here next : Bool) (old : Option X) (value : X) → next ≡ (done || here)
    → value_back here old (value_back done old value) ≡ value_back next old value
back_next done false next old value e = sym (ap (λ b. value_back b old value) (e ∙ or_none done))
back_next false true next old value e = sym (ap (λ b. value_back b old value) e)
back_next true true next None value e = sym (ap (λ b. value_back b None value) e)
back_next true true next (Some first) value e = sym (ap (λ b. value_back b (Some first) value) e)

back_if : {X : Type 0} (here there : Bool) (old : Option X) (value : X) → here ≡ there
    → value_back here old value ≡ value_back there old value
back_if here there old value e = ap (λ b. value_back b old value) e

-- the same old value, where it is put back
back_alike : {X : Type 0} (here : Bool) (old other : Option X) (value : X) → (here ≡ true → old ≡ other)
    → value_back here old value ≡ value_back here other value
back_alike true old other value same = ap (λ o. unwrap_or o value) (same refl)
back_alike false old other value same = refl

none_back : {X : Type 0} (here : Bool) (value : X) → value_back here None value ≡ value
none_back true value = refl
none_back false value = refl

-- a choice of the same
this_one : {X : Type 0} (here : Bool) (x y z : X) → (here ≡ true → x ≡ y) → cond here x z ≡ cond here y z
this_one true x y z same = same refl
this_one false x y z same = refl

-- ---- cells

pub cells_back-none : (these : ℕ → ℕ → Bool) (old : ℕ → ℕ → Option Cell) (cells : List (List Cell)) → IsTable cells
    → ((r c : ℕ) → OnScreen r c → these r c ≡ false) → cells ≡ cells_back these old cells
cells_back-none these old cells is none =
    sym (table-value_at cells blank_cell is)
    ∙ same_table (value_at blank_cell cells)
    (λ r c. value_back (these r c) (old r c) (value_at blank_cell cells r c))
    (λ r c on. sym (back_if (these r c) false (old r c) (value_at blank_cell cells r c) (none r c on)))

pub cells_back-more : (these here next : ℕ → ℕ → Bool) (old : ℕ → ℕ → Option Cell) (cells before after : List (List Cell))
    → before ≡ cells_back these old cells → after ≡ cells_back here old before
    → ((r c : ℕ) → OnScreen r c → next r c ≡ (these r c || here r c)) → after ≡ cells_back next old cells
cells_back-more these here next old cells before after was is both =
    let done : ℕ → ℕ → Cell = λ r c. value_back (these r c) (old r c) (value_at blank_cell cells r c) in
    is ∙ ap (cells_back here old) was
    ∙ same_table (λ r c. value_back (here r c) (old r c) (value_at blank_cell (table done) r c))
    (λ r c. value_back (next r c) (old r c) (value_at blank_cell cells r c))
    (λ r c on.
    ap (value_back (here r c) (old r c)) (value_at-table done blank_cell r c on)
    ∙ back_next (these r c) (here r c) (next r c) (old r c) (value_at blank_cell cells r c) (both r c on))

pub cells_back-alike : (these others : ℕ → ℕ → Bool) (old other : ℕ → ℕ → Option Cell) (cells : List (List Cell))
    → ((r c : ℕ) → OnScreen r c → these r c ≡ others r c)
    → ((r c : ℕ) → OnScreen r c → these r c ≡ true → old r c ≡ other r c)
    → cells_back these old cells ≡ cells_back others other cells
cells_back-alike these others old other cells alike same =
    same_table (λ r c. value_back (these r c) (old r c) (value_at blank_cell cells r c))
    (λ r c. value_back (others r c) (other r c) (value_at blank_cell cells r c))
    (λ r c on.
    back_alike (these r c) (old r c) (other r c) (value_at blank_cell cells r c) (same r c on)
    ∙ back_if (these r c) (others r c) (other r c) (value_at blank_cell cells r c) (alike r c on))

-- ---- lists

pub entries_back-none : {X : Type 0} (d : X) (from count : ℕ) (these : ℕ → Bool) (old : ℕ → Option X) (list : List X)
    → length list ≡ count → ((k : ℕ) → from ≤ k → these k ≡ false) → list ≡ entries_back d from count these old list
entries_back-none d from count these old list long none =
    sym (list_by_index-entry d from count list long)
    ∙ same_indexed from count (entry d from list) (λ k. value_back (these k) (old k) (entry d from list k))
    (λ k low high. sym (back_if (these k) false (old k) (entry d from list k) (none k low)))

-- an entry that is chosen where it is this one
chosen_at : {X : Type 0} (d : X) (from k j : ℕ) (old : ℕ → Option X) (list : List X)
    → cond (k == j) (unwrap_or (old k) (entry d from list k)) (entry d from list j)
    ≡ value_back (k == j) (old j) (entry d from list j)
chosen_at d from k j old list =
    this_one (k == j) (unwrap_or (old k) (entry d from list k)) (unwrap_or (old j) (entry d from list j))
    (entry d from list j) (λ here. ap (λ n. unwrap_or (old n) (entry d from list n)) (eqb-true k j here))

pub entries_back-more : {X : Type 0} (d : X) (from count k m : ℕ) (old : ℕ → Option X) (x : X)
    (list before after : List X) → before ≡ entries_back d from count (λ j. nat_lt j k) old list
    → after ≡ list_by_index from count (λ j. cond (k == j) x (entry d from before j)) → m ≡ k + 1 → from ≤ k
    → k < from + count → x ≡ unwrap_or (old k) (entry d from before k)
    → after ≡ entries_back d from count (λ j. nat_lt j m) old list
entries_back-more {X} d from count k m old x list before after was is next low high value =
    let done : ℕ → X = λ j. value_back (nat_lt j k) (old j) (entry d from list j) in
    is
    ∙ same_indexed from count (λ j. cond (k == j) x (entry d from before j))
    (λ j. value_back (nat_lt j m) (old j) (entry d from list j))
    (λ j from_low to_high.
    let both : nat_lt j m ≡ (nat_lt j k || (k == j)) = grind (arith, nat_tests) in
    ap (λ (v : X). cond (k == j) v (entry d from before j)) value
    ∙ chosen_at d from k j old before
    ∙ ap (value_back (k == j) (old j)) (ap (λ (l : List X). entry d from l j) was
    ∙ entry-list_by_index d from count done j from_low to_high)
    ∙ back_next (nat_lt j k) (k == j) (nat_lt j m) (old j) (entry d from list j) both)

pub entries_back-all : {X : Type 0} (d : X) (from count k : ℕ) (old : ℕ → Option X) (list after : List X)
    → after ≡ entries_back d from count (λ j. nat_lt j k) old list → from + count ≤ k
    → after ≡ list_by_index from count (λ j. unwrap_or (old j) (entry d from list j))
entries_back-all d from count k old list after is past =
    is
    ∙ same_indexed from count (λ j. value_back (nat_lt j k) (old j) (entry d from list j))
    (λ j. unwrap_or (old j) (entry d from list j))
    (λ j low high.
    let within : nat_lt j k ≡ true = grind (arith, nat_tests) in
    back_if (nat_lt j k) true (old j) (entry d from list j) within)

-- where none is noted, a list stays
pub entries_back-empty : {X : Type 0} (d : X) (from count : ℕ) (olds : List (Option X)) (list : List X)
    → length list ≡ count → olds ≡ list_by_index from count (λ _. None)
    → list ≡ list_by_index from count (λ k. unwrap_or (entry None from olds k) (entry d from list k))
entries_back-empty {X} d from count olds list long none =
    sym (list_by_index-entry d from count list long)
    ∙ same_indexed from count (entry d from list) (λ k. unwrap_or (entry None from olds k) (entry d from list k))
    (λ k low high.
    sym (ap (λ (o : Option X). unwrap_or o (entry d from list k))
    (ap (λ (l : List (Option X)). entry None from l k) none
    ∙ entry-list_by_index None from count (λ _. None) k low high)))

-- and so do cells
pub cells_back-empty : (these : ℕ → ℕ → Bool) (old : ℕ → ℕ → Option Cell) (cells : List (List Cell)) → IsTable cells
    → ((r c : ℕ) → OnScreen r c → these r c ≡ true → old r c ≡ None) → cells ≡ cells_back these old cells
cells_back-empty these old cells is none =
    sym (table-value_at cells blank_cell is)
    ∙ same_table (value_at blank_cell cells)
    (λ r c. value_back (these r c) (old r c) (value_at blank_cell cells r c))
    (λ r c on.
    sym (back_alike (these r c) (old r c) None (value_at blank_cell cells r c) (none r c on)
    ∙ none_back (these r c) (value_at blank_cell cells r c)))

-- ---- a row, cell by cell

-- an old cell read in its place
pub old_read : (olds : List (Option Cell)) (i k : ℕ) (d : Option Cell) → length olds ≡ 40 → 1 ≤ k → k ≤ 40
    → i + 1 ≡ k → get_or olds i d ≡ entry None 1 olds k
old_read olds i k d long low high e =
    let back : i ≡ k - 1 = omega arith in
    get_or_default olds i d None (omega (arith, high, long)) ∙ ap (λ n. get_or olds n None) back
    ∙ sym (entry_from None 1 olds k low)

-- the columns before the next
next_column : (a b row k m r c : ℕ) → a ≡ row → b ≡ k → m ≡ k + 1
    → (row == r && nat_lt c m) ≡ ((row == r && nat_lt c k) || (a == r && b == c))
next_column a b row k m r c ea eb next = grind (arith, nat_tests)

pub row_back-more : (p : Place) (row k m : ℕ) (olds : List (Option Cell)) (item : Option Cell)
    (grid before after : List (List Cell)) → (p.row ≡ row) × (p.column ≡ k) → m ≡ k + 1
    → item ≡ entry None 1 olds k
    → before ≡ cells_back (λ r c. row == r && nat_lt c k) (λ _ c. entry None 1 olds c) grid
    → after ≡ cells_back (is_at p) (λ _ _. item) before
    → after ≡ cells_back (λ r c. row == r && nat_lt c m) (λ _ c. entry None 1 olds c) grid
row_back-more p row k m olds item grid before after at next read was is =
    let same_row : p.row ≡ row = at.0 in
    let same_column : p.column ≡ k = at.1 in
    cells_back-more (λ r c. row == r && nat_lt c k) (is_at p) (λ r c. row == r && nat_lt c m)
    (λ _ c. entry None 1 olds c) grid before after was
    (is
    ∙ cells_back-alike (is_at p) (is_at p) (λ _ _. item) (λ _ c. entry None 1 olds c) before (λ r c on. refl)
    (λ r c on here.
    let parts = and_parts (p.row == r) (p.column == c) here in
    read ∙ ap (λ n. entry None 1 olds n) (sym same_column ∙ eqb-true p.column c parts.1)))
    (λ r c on. next_column p.row p.column row k m r c same_row same_column next)

-- a value put back, by what it is made of
pub value_put : {X : Type 0} (x there now : X) (o old : Option X) → x ≡ unwrap_or o there → o ≡ old → there ≡ now
    → x ≡ unwrap_or old now
value_put x there now o old is from same = is ∙ ap (λ v. unwrap_or v there) from ∙ ap (unwrap_or old) same
