-- Old values exchanged one after the other, until all of a part are.
use Rattle.std.proofs.Common.{◌≡◌, ℕ, ◌+◌, ◌-◌, ◌≤◌, ◌<◌, ◌&&◌, ◌==◌, true, false, cond, nat_lt, Option}
use Rattle.std.proofs.Common.{None, List, [], get_or, set, length, unwrap_or, refl, sym, ap, subst, ◌∙◌, arith}
use Rattle.std.proofs.lemmas.Bool.{eqb-true}
use Rattle.std.proofs.lemmas.Bool.Decides.{nat_tests}
use Rattle.std.proofs.lemmas.List.{get_or_default}
use Rattle.cept_codes.specs.declared.cell.Cell.{Cell}
use Rattle.cept_codes.specs.Cell.{blank_cell}
use Rattle.cept_codes.specs.Place.{OnScreen, Place}
use Rattle.cept_codes.specs.Table.{HasMadeEntries, HasMadeRows, IsTable, entry, list_by_index, row_of, table, value_at}
use Rattle.cept_codes.proofs.Laws.{HasMadeEntries-all, HasMadeEntries-more, HasMadeEntries-none, entry_from}
use Rattle.cept_codes.proofs.Laws.{HasMadeRows-all, HasMadeRows-more, HasMadeRows-none}
use Rattle.cept_codes.proofs.Laws.{entry-list_by_index, list_by_index-entry, row_of-list_by_index, same_indexed, set-entry}
use Rattle.cept_codes.proofs.Laws.{value_at-table}
use Rattle.cept_profile.specs.Cells.{is_at}
use Rattle.cept_delta.specs.Exchanged.{noted_instead}
use Rattle.cept_delta.specs.inside.PutBack.{cells_back, value_back}
use Rattle.cept_delta.proofs.PutBack.{cells_back-alike, cells_back-more, cells_back-none, row_back-more}

-- ---- a list

-- the first n entries of two lists exchanged, and the others as they were
pub record AreExchanged {X : Type 0} (d : X) (from count : ℕ) (olds : List (Option X)) (values : List X) (n : ℕ)
    (olds_now : List (Option X)) (now : List X) : Type 0 where
  pub noted : HasMadeEntries None from count (λ k. noted_instead (entry None from olds k) (entry d from values k))
      (entry None from olds) olds_now n
  pub put : HasMadeEntries d from count (λ k. unwrap_or (entry None from olds k) (entry d from values k))
      (entry d from values) now n

pub AreExchanged-none : {X : Type 0} (d : X) (from count n : ℕ) (olds : List (Option X)) (values : List X)
    → length olds ≡ count → length values ≡ count → n ≡ 0 → AreExchanged d from count olds values n olds values
AreExchanged-none {X} d from count n olds values long all none =
    subst (λ k. AreExchanged d from count olds values k olds values) (sym none) (record {
      noted = HasMadeEntries-none None from count
          (λ k. noted_instead (entry None from olds k) (entry d from values k)) olds long;
      put = HasMadeEntries-none d from count (λ k. unwrap_or (entry None from olds k) (entry d from values k)) values
          all;
    })

pub AreExchanged-more : {X : Type 0} (d : X) (from count n m i k : ℕ) (olds noted : List (Option X))
    (values now after : List X) (o new : Option X) (x y : X) → AreExchanged d from count olds values n noted now
    → n < count → m ≡ n + 1 → i ≡ n → from + n ≡ k → o ≡ entry None from noted k → y ≡ entry d from now k
    → new ≡ noted_instead o y → x ≡ unwrap_or o y
    → after ≡ list_by_index from count (λ j. cond (k == j) x (entry d from now j))
    → AreExchanged d from count olds values m (set noted i new) after
AreExchanged-more {X} d from count n m i k olds noted values now after o new x y was below next ei ek eo ey en ex made =
    let there : o ≡ entry None from olds k = eo ∙ was.noted.left k (omega arith) (omega arith) (omega arith) in
    let here : y ≡ entry d from values k = ey ∙ was.put.left k (omega arith) (omega arith) (omega arith) in
    let f : ℕ → Option X = λ j. noted_instead (entry None from olds j) (entry d from values j) in
    let g : ℕ → X = λ j. unwrap_or (entry None from olds j) (entry d from values j) in
    let put : set now i x ≡ after =
    set-entry d x from count i k now was.put.long (omega arith) (omega arith) ∙ sym made in
    subst (λ q. AreExchanged d from count olds values q (set noted i new) after) (sym next) (record {
      noted = HasMadeEntries-more None new from count f (entry None from olds) noted n i k was.noted below ei ek
          (en ∙ (λ t. noted_instead (there t) (here t)));
      put = subst (λ (l : List X). HasMadeEntries d from count g (entry d from values) l (n + 1)) put
          (HasMadeEntries-more d x from count g (entry d from values) now n i k was.put below ei ek
          (ex ∙ (λ t. unwrap_or (there t) (here t))));
    })

pub noted-all : {X : Type 0} (d : X) (from count n : ℕ) (olds noted : List (Option X)) (values now : List X)
    → AreExchanged d from count olds values n noted now → count ≤ n
    → noted ≡ list_by_index from count (λ k. noted_instead (entry None from olds k) (entry d from values k))
noted-all d from count n olds noted values now was all = HasMadeEntries-all None from count _ _ noted n was.noted all

pub values-all : {X : Type 0} (d : X) (from count n : ℕ) (olds noted : List (Option X)) (values now : List X)
    → AreExchanged d from count olds values n noted now → count ≤ n
    → now ≡ list_by_index from count (λ k. unwrap_or (entry None from olds k) (entry d from values k))
values-all d from count n olds noted values now was all = HasMadeEntries-all d from count _ _ now n was.put all

-- where none is noted, none is afterwards
pub noted-empty : {X : Type 0} (from count : ℕ) (f : ℕ → X) (olds : List (Option X)) → length olds ≡ count
    → ((k : ℕ) → from ≤ k → k < from + count → entry None from olds k ≡ None)
    → olds ≡ list_by_index from count (λ k. noted_instead (entry None from olds k) (f k))
noted-empty {X} from count f olds long none =
    sym (list_by_index-entry None from count olds long)
    ∙ same_indexed from count (entry None from olds) (λ k. noted_instead (entry None from olds k) (f k))
    (λ k low high.
    none k low high ∙ sym (ap (λ (o : Option X). noted_instead o (f k)) (none k low high)))

pub noted-none : {X : Type 0} (from count : ℕ) (f : ℕ → X) (olds : List (Option X)) → length olds ≡ count
    → olds ≡ list_by_index from count (λ _. None)
    → olds ≡ list_by_index from count (λ k. noted_instead (entry None from olds k) (f k))
noted-none {X} from count f olds long none =
    noted-empty from count f olds long (λ k low high.
    ap (λ (l : List (Option X)). entry None from l k) none
    ∙ entry-list_by_index None from count (λ _. None) k low high)

-- an entry of a list, by the index at which it is read
pub entry_read : {X : Type 0} (from i k : ℕ) (list : List X) (d e : X) → i < length list → from + i ≡ k
    → get_or list i d ≡ entry e from list k
entry_read from i k list d e below at =
    let back : i ≡ k - from = omega arith in
    get_or_default list i d e below ∙ ap (λ n. get_or list n e) back ∙ sym (entry_from e from list k (omega arith))

-- ---- a row of cells

-- the cells before column n of a row exchanged
pub record IsRowExchanged (row : ℕ) (olds : List (Option Cell)) (cells : List (List Cell)) (n : ℕ)
    (olds_now : List (Option Cell)) (now : List (List Cell)) : Type 0 where
  pub noted : HasMadeEntries None 1 40 (λ c. noted_instead (entry None 1 olds c) (value_at blank_cell cells row c))
      (entry None 1 olds) olds_now (n - 1)
  pub put : now ≡ cells_back (λ r c. row == r && nat_lt c n) (λ _ c. entry None 1 olds c) cells

pub IsRowExchanged-none : (row : ℕ) (olds : List (Option Cell)) (cells : List (List Cell)) → length olds ≡ 40
    → IsTable cells → IsRowExchanged row olds cells 1 olds cells
IsRowExchanged-none row olds cells long is = record {
  noted = HasMadeEntries-none None 1 40
      (λ c. noted_instead (entry None 1 olds c) (value_at blank_cell cells row c)) olds long;
  put = cells_back-none (λ r c. row == r && nat_lt c 1) (λ _ c. entry None 1 olds c) cells is
      (λ r c on. grind (arith, nat_tests));
}

-- a cell that isn't exchanged yet
cell_left : (row : ℕ) (olds noted : List (Option Cell)) (cells now : List (List Cell)) (n : ℕ)
    → IsRowExchanged row olds cells n noted now → OnScreen row n
    → value_at blank_cell now row n ≡ value_at blank_cell cells row n
cell_left row olds noted cells now n was on =
    let out : (row == row && nat_lt n n) ≡ false = grind (arith, nat_tests) in
    ap (λ (t : List (List Cell)). value_at blank_cell t row n) was.put
    ∙ value_at-table (λ r c. value_back (row == r && nat_lt c n) (entry None 1 olds c) (value_at blank_cell cells r c))
    blank_cell row n on
    ∙ ap (λ b. value_back b (entry None 1 olds n) (value_at blank_cell cells row n)) out

pub IsRowExchanged-more : (row : ℕ) (olds noted : List (Option Cell)) (cells now after : List (List Cell)) (n m i : ℕ)
    (p : Place) (o new : Option Cell) → IsRowExchanged row olds cells n noted now → 1 ≤ row → row ≤ 24 → 1 ≤ n
    → n ≤ 40 → m ≡ n + 1 → i + 1 ≡ n → (p.row ≡ row) × (p.column ≡ n) → o ≡ entry None 1 noted n
    → new ≡ noted_instead o (value_at blank_cell now p.row p.column) → after ≡ cells_back (is_at p) (λ _ _. o) now
    → IsRowExchanged row olds cells m (set noted i new) after
IsRowExchanged-more row olds noted cells now after n m i p o new was top bottom low high next ei at eo en made =
    let on : OnScreen row n = record { from_top = top; to_bottom = bottom; from_left = low; to_right = high } in
    let there : o ≡ entry None 1 olds n = eo ∙ was.noted.left n low (omega arith) (omega arith) in
    let here : value_at blank_cell now p.row p.column ≡ value_at blank_cell cells row n =
    (λ t. value_at blank_cell now (at.0 t) (at.1 t)) ∙ cell_left row olds noted cells now n was on in
    let f : ℕ → Option Cell = λ c. noted_instead (entry None 1 olds c) (value_at blank_cell cells row c) in
    let count : m - 1 ≡ n - 1 + 1 = omega arith in
    record {
      noted = subst (λ k. HasMadeEntries None 1 40 f (entry None 1 olds) (set noted i new) k) (sym count)
          (HasMadeEntries-more None new 1 40 f (entry None 1 olds) noted (n - 1) i n was.noted (omega arith) (omega arith)
          (omega arith) (en ∙ (λ t. noted_instead (there t) (here t))));
      put = row_back-more p row n m olds o cells now after at next there was.put made;
    }

pub noted_row-all : (row : ℕ) (olds noted : List (Option Cell)) (cells now : List (List Cell)) (n : ℕ)
    → IsRowExchanged row olds cells n noted now → 41 ≤ n
    → noted ≡ list_by_index 1 40 (λ c. noted_instead (entry None 1 olds c) (value_at blank_cell cells row c))
noted_row-all row olds noted cells now n was all =
    HasMadeEntries-all None 1 40 _ _ noted (n - 1) was.noted (omega arith)

pub cells_row-all : (row : ℕ) (olds noted : List (Option Cell)) (cells now : List (List Cell)) (n : ℕ)
    → IsRowExchanged row olds cells n noted now → 41 ≤ n
    → now ≡ cells_back (λ r _. row == r) (λ _ c. entry None 1 olds c) cells
cells_row-all row olds noted cells now n was all =
    was.put
    ∙ cells_back-alike (λ r c. row == r && nat_lt c n) (λ r _. row == r) (λ _ c. entry None 1 olds c)
    (λ _ c. entry None 1 olds c) cells (λ r c on. grind (arith, nat_tests)) (λ r c on here. refl)

-- ---- the rows

-- the rows before row n exchanged
pub record AreRowsExchanged (olds : List (List (Option Cell))) (cells : List (List Cell)) (n : ℕ)
    (olds_now : List (List (Option Cell))) (now : List (List Cell)) : Type 0 where
  pub noted : HasMadeRows None (λ r c. noted_instead (value_at None olds r c) (value_at blank_cell cells r c))
      (value_at None olds) olds_now (n - 1)
  pub put : now ≡ cells_back (λ r _. nat_lt r n) (value_at None olds) cells

pub AreRowsExchanged-none : (olds : List (List (Option Cell))) (cells : List (List Cell)) → IsTable olds
    → IsTable cells → AreRowsExchanged olds cells 1 olds cells
AreRowsExchanged-none olds cells places is = record {
  noted = HasMadeRows-none None (λ r c. noted_instead (value_at None olds r c) (value_at blank_cell cells r c)) olds
      places;
  put = cells_back-none (λ r _. nat_lt r 1) (value_at None olds) cells is (λ r c on. grind (arith, nat_tests));
}

-- a row of old cells that isn't exchanged yet, by its entries
row_left : (olds noted : List (List (Option Cell))) (cells now : List (List Cell)) (n i : ℕ)
    (row d : List (Option Cell)) → AreRowsExchanged olds cells n noted now → i + 1 ≡ n → row ≡ get_or noted i d
    → (c : ℕ) → OnScreen n c → entry None 1 row c ≡ value_at None olds n c
row_left olds noted cells now n i row d was at read c on =
    let index : i ≡ n - 1 = omega arith in
    entry_from None 1 row c on.from_left
    ∙ ap (λ (l : List (Option Cell)). get_or l (c - 1) None) (read
    ∙ get_or_default noted i d [] (omega (arith, was.noted.is.rows, on)) ∙ ap (λ k. get_or noted k []) index)
    ∙ was.noted.left n c on (omega (arith, on))

cell_of_row_left : (olds noted : List (List (Option Cell))) (cells now : List (List Cell)) (n : ℕ)
    → AreRowsExchanged olds cells n noted now → (c : ℕ) → OnScreen n c
    → value_at blank_cell now n c ≡ value_at blank_cell cells n c
cell_of_row_left olds noted cells now n was c on =
    let out : nat_lt n n ≡ false = grind (arith, nat_tests) in
    ap (λ (t : List (List Cell)). value_at blank_cell t n c) was.put
    ∙ value_at-table (λ r k. value_back (nat_lt r n) (value_at None olds r k) (value_at blank_cell cells r k))
    blank_cell n c on
    ∙ ap (λ b. value_back b (value_at None olds n c) (value_at blank_cell cells n c)) out

pub AreRowsExchanged-more : (olds noted : List (List (Option Cell))) (cells now after : List (List Cell)) (n m i : ℕ)
    (row new d : List (Option Cell)) → AreRowsExchanged olds cells n noted now → 1 ≤ n → n ≤ 24 → m ≡ n + 1
    → i + 1 ≡ n → row ≡ get_or noted i d
    → new ≡ list_by_index 1 40 (λ c. noted_instead (entry None 1 row c) (value_at blank_cell now n c))
    → after ≡ cells_back (λ r _. n == r) (λ _ c. entry None 1 row c) now
    → AreRowsExchanged olds cells m (set noted i new) after
AreRowsExchanged-more olds noted cells now after n m i row new d was low high next ei read en made =
    let f : ℕ → ℕ → Option Cell = λ r c. noted_instead (value_at None olds r c) (value_at blank_cell cells r c) in
    let on : (c : ℕ) → 1 ≤ c → c ≤ 40 → OnScreen n c =
    λ c left right. record { from_top = low; to_bottom = high; from_left = left; to_right = right } in
    let count : m - 1 ≡ n - 1 + 1 = omega arith in
    let made_row : new ≡ row_of (f n) =
    en
    ∙ same_indexed 1 40 (λ c. noted_instead (entry None 1 row c) (value_at blank_cell now n c)) (f n)
    (λ c left right.
    let there = on c left (omega (arith, right)) in
    (λ t. noted_instead (row_left olds noted cells now n i row d was ei read c there t)
    (cell_of_row_left olds noted cells now n was c there t)))
    ∙ sym (row_of-list_by_index (f n)) in
    let same : after ≡ cells_back (λ r _. n == r) (value_at None olds) now =
    made
    ∙ cells_back-alike (λ r _. n == r) (λ r _. n == r) (λ _ c. entry None 1 row c) (value_at None olds) now
    (λ r c there. refl)
    (λ r c there here.
    let at : n ≡ r = eqb-true n r here in
    row_left olds noted cells now n i row d was ei read c (on c there.from_left there.to_right)
    ∙ ap (λ k. value_at None olds k c) at) in
    record {
      noted = subst (λ k. HasMadeRows None f (value_at None olds) (set noted i new) k) (sym count)
          (HasMadeRows-more None f (value_at None olds) noted (n - 1) i n new was.noted (omega arith) (omega arith)
          (omega arith) made_row);
      put = cells_back-more (λ r _. nat_lt r n) (λ r _. n == r) (λ r _. nat_lt r m) (value_at None olds) cells now after
          was.put same (λ r c there. grind (arith, nat_tests));
    }

pub noted_cells-all : (olds noted : List (List (Option Cell))) (cells now : List (List Cell)) (n : ℕ)
    → AreRowsExchanged olds cells n noted now → 25 ≤ n
    → noted ≡ table (λ r c. noted_instead (value_at None olds r c) (value_at blank_cell cells r c))
noted_cells-all olds noted cells now n was all = HasMadeRows-all None _ _ noted (n - 1) was.noted (omega arith)

pub cells-all : (olds noted : List (List (Option Cell))) (cells now : List (List Cell)) (n : ℕ)
    → AreRowsExchanged olds cells n noted now → 25 ≤ n
    → now ≡ table (λ r c. unwrap_or (value_at None olds r c) (value_at blank_cell cells r c))
cells-all olds noted cells now n was all =
    was.put
    ∙ cells_back-alike (λ r _. nat_lt r n) (λ _ _. true) (value_at None olds) (value_at None olds) cells
    (λ r c on. grind (arith, nat_tests)) (λ r c on here. refl)
