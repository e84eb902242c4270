-- Tables of 24 rows of 40: made of a function, read by row and column from 1, compared place by place, written at a
-- place and row by row.
use Rattle.std.proofs.Common.{◌≡◌, ◌≢◌, ℕ, ◌+◌, ◌-◌, ◌<◌, ◌≤◌, ◌==◌, ◌&&◌, cond, true, false, List, [], length, get_or}
use Rattle.std.proofs.Common.{set, refl, sym, ap, subst, ◌∙◌, arith}
use Rattle.std.proofs.lemmas.Bool.Decides.{nat_tests}
use Rattle.std.proofs.lemmas.List.{ext_get_or, get_or_default, length-set, get_or-set_same, get_or-set_other}
use Rattle.std.proofs.lemmas.List.FromFn.{length-map-range_with_len, get_or-map-range_with_len}
use Rattle.cept_codes.specs.Place.{OnScreen}
use Rattle.cept_codes.specs.Table.{list_by_index, entry, table, row_of, value_at, IsTable, HasMadeRows}
use Rattle.cept_codes.proofs.Lists.{by_eq, entry_from}

-- ---- a row

pub length-row_of : {X : Type 0} (f : ℕ → X) → length (row_of f) ≡ 40
unfolding row_of
length-row_of f = length-map-range_with_len f 1 40

-- column j + 1 stands at the index j
pub get_or-row_of : {X : Type 0} (f : ℕ → X) (i j : ℕ) (d : X) → i < 40 → i + 1 ≡ j → get_or (row_of f) i d ≡ f j
unfolding row_of
get_or-row_of f i j d below e = get_or-map-range_with_len f 1 40 i j d below (omega arith)

-- 40 that are as wanted are the row
pub row_is : {X : Type 0} (f : ℕ → X) (xs : List X) (d : X) → length xs ≡ 40
    → ((c : ℕ) → 1 ≤ c → c ≤ 40 → get_or xs (c - 1) d ≡ f c) → xs ≡ row_of f
row_is f xs d long same =
    ext_get_or d xs (row_of f) (long ∙ sym (length-row_of f)) (λ i below.
    let last : i < 40 = omega (arith, below, long) in
    let back : (i + 1) - 1 ≡ i = omega arith in
    ap (λ k. get_or xs k d) (sym back) ∙ same (i + 1) (omega arith) (omega arith)
    ∙ sym (get_or-row_of f i (i + 1) d last refl))

-- ---- a table

pub length-table : {X : Type 0} (f : ℕ → ℕ → X) → length (table f) ≡ 24
unfolding table
length-table f = length-map-range_with_len (λ r. row_of (f r)) 1 24

-- row i + 1 stands at the index i
pub get_or-table : {X : Type 0} (f : ℕ → ℕ → X) (i r : ℕ) (d : List X) → i < 24 → i + 1 ≡ r
    → get_or (table f) i d ≡ row_of (f r)
unfolding table
get_or-table f i r d below e = get_or-map-range_with_len (λ q. row_of (f q)) 1 24 i r d below (omega arith)

pub IsTable-table : {X : Type 0} (f : ℕ → ℕ → X) → IsTable (table f)
IsTable-table f = record {
  rows = length-table f;
  columns = λ i d below. ap length (get_or-table f i (i + 1) d below refl) ∙ length-row_of (f (i + 1));
}

pub value_at-table : {X : Type 0} (f : ℕ → ℕ → X) (d : X) (r c : ℕ) → OnScreen r c → value_at d (table f) r c ≡ f r c
value_at-table f d r c on =
    ap (λ row. get_or row (c - 1) d) (get_or-table f (r - 1) r [] (omega (arith, on)) (omega (arith, on)))
    ∙ get_or-row_of (f r) (c - 1) c d (omega (arith, on)) (omega (arith, on))

-- two tables with the same rows are the same
pub same_rows : {X : Type 0} {t u : List (List X)} → IsTable t → IsTable u
    → ((i : ℕ) → i < 24 → get_or t i [] ≡ get_or u i []) → t ≡ u
same_rows {t = t} {u = u} is ut same = ext_get_or [] t u (is.rows
    ∙ sym ut.rows) (λ i below. same i (omega (arith, below, is.rows)))

-- two tables that agree at each place are the same
pub same_tables : {X : Type 0} (t u : List (List X)) (d : X) → IsTable t → IsTable u
    → ((r c : ℕ) → OnScreen r c → value_at d t r c ≡ value_at d u r c) → t ≡ u
same_tables {X} t u d is iu same =
    same_rows is iu (λ i below. ext_get_or d (get_or t i []) (get_or u i []) (is.columns i [] below
    ∙ sym (iu.columns i [] below)) (λ j left.
    let long = is.columns i [] below in
    let on : OnScreen (i + 1) (j + 1) = record {
      from_top = omega arith;
      to_bottom = omega (arith, below);
      from_left =
          omega arith;
      to_right = omega (arith, left, long);
    } in
    let ei : (i + 1) - 1 ≡ i = omega arith in
    let ej : (j + 1) - 1 ≡ j = omega arith in
    ap (λ k. get_or (get_or t k []) j d) (sym ei) ∙ ap (λ k. get_or (get_or t ((i + 1) - 1) []) k d) (sym ej)
    ∙ same (i + 1) (j + 1) on ∙ ap (λ k. get_or (get_or u ((i + 1) - 1) []) k d) ej
    ∙ ap (λ k. get_or (get_or u k []) j d) ei))

-- a table that is as wanted at each place is the wanted one
pub table_is : {X : Type 0} {t : List (List X)} → IsTable t → (f : ℕ → ℕ → X) (d : X)
    → ((r c : ℕ) → OnScreen r c → value_at d t r c ≡ f r c) → t ≡ table f
table_is {t = t} is f d same = same_tables t (table f) d is (IsTable-table f) (λ r c on. same r c on
    ∙ sym (value_at-table f d r c on))

pub same_table : {X : Type 0} (f g : ℕ → ℕ → X) → ((r c : ℕ) → OnScreen r c → f r c ≡ g r c) → table f ≡ table g
same_table f g same = table_is (IsTable-table f) g (f 1 1) (λ r c on. value_at-table f (f 1 1) r c on ∙ same r c on)

pub table-value_at : {X : Type 0} (t : List (List X)) (d : X) → IsTable t → table (value_at d t) ≡ t
table-value_at t d is = sym (table_is is (value_at d t) d (λ r c on. refl))

-- ---- a row replaced

pub IsTable-set_row : {X : Type 0} {t : List (List X)} → IsTable t → (i : ℕ) (row : List X) → length row ≡ 40
    → IsTable (set t i row)
IsTable-set_row {X} {t} is i row long = record {
  rows = length-set t i row ∙ is.rows;
  columns = λ k d below.
      by_eq k i
      (λ e. let here : get_or (set t i row) k d ≡ row = ap (λ n. get_or (set t i row) n d) e
      ∙ get_or-set_same t i row d (omega (arith, below, is.rows)) in ap length here ∙ long)
      (λ ne. ap length (get_or-set_other t i k row d ne) ∙ is.columns k d below);
}

-- what is read in a table with a row replaced: in that row, and in the others
pub value_at-set_row : {X : Type 0} (t : List (List X)) (i : ℕ) (row : List X) (d : X) (r c : ℕ) → i < length t
    → i + 1 ≡ r → value_at d (set t i row) r c ≡ get_or row (c - 1) d
value_at-set_row {X} t i row d r c below e =
    let ei : r - 1 ≡ i = omega arith in
    let here : get_or (set t i row) (r - 1) [] ≡ row = ap (λ n. get_or (set t i row) n []) ei
    ∙ get_or-set_same t i row [] below in
    ap (λ (l : List X). get_or l (c - 1) d) here

pub value_at-set_row_other : {X : Type 0} (t : List (List X)) (i : ℕ) (row : List X) (d : X) (r c : ℕ) → 1 ≤ r
    → i + 1 ≢ r
    → value_at d (set t i row) r c ≡ value_at d t r c
value_at-set_row_other {X} t i row d r c above ne =
    let other : r - 1 ≢ i = λ e. ne (omega arith) in
    ap (λ (l : List X). get_or l (c - 1) d) (get_or-set_other t i (r - 1) row [] other)

-- ---- a place written

-- what `t[r - 1][c - 1] = x` leaves; the premises are what the code knows of its indices and of the row that it read,
-- whose default e is the row itself or []
pub set_is : {X : Type 0} (t : List (List X)) (d x : X) (i j r c : ℕ) (row e : List X) → IsTable t → OnScreen r c
    → i + 1 ≡ r → j + 1 ≡ c → row ≡ get_or t i e → set t i (set row j x)
    ≡ table (λ q k. cond ((r == q) && (c == k)) x (value_at d t q k))
set_is {X} t d x i j r c row e is on er ec read =
    let row_in : row ≡ get_or t i [] = read ∙ get_or_default t i e [] (omega (arith, on, is.rows)) in
    let long : length row ≡ 40 = ap length row_in ∙ is.columns i [] (omega (arith, on)) in
    let new_long : length (set row j x) ≡ 40 = length-set row j x ∙ long in
    let wanted : ℕ → ℕ → X = λ q k. cond ((r == q) && (c == k)) x (value_at d t q k) in
    table_is (IsTable-set_row is i (set row j x) new_long) wanted d (λ q k at_place.
    by_eq r q
    (λ (h : r ≡ q).
    let yes : (r == q) ≡ true = grind (arith, nat_tests) in
    value_at-set_row t i (set row j x) d q k (omega (arith, is.rows, on)) (omega arith) ∙
    by_eq c k
    (λ (g : c ≡ k).
    let also : (c == k) ≡ true = grind (arith, nat_tests) in
    let ej : k - 1 ≡ j = omega arith in
    ap (λ n. get_or (set row j x) n d) ej ∙ get_or-set_same row j x d (omega (arith, long, on))
    ∙ sym (ap (λ b. cond (b && (c == k)) x (value_at d t q k)) yes ∙ ap (λ b. cond b x (value_at d t q k)) also))
    (λ (g : c ≢ k).
    let not_here : (c == k) ≡ false = grind (arith, nat_tests) in
    let other : k - 1 ≢ j = λ e2. g (omega (arith, at_place)) in
    let eq : i ≡ q - 1 = omega arith in
    get_or-set_other row j (k - 1) x d other ∙ ap (λ (l : List X). get_or l (k - 1) d) (row_in
    ∙ ap (λ n. get_or t n []) eq) ∙ sym (ap (λ b. cond (b && (c == k)) x (value_at d t q k)) yes
    ∙ ap (λ b. cond b x (value_at d t q k)) not_here)))
    (λ (h : r ≢ q).
    let no : (r == q) ≡ false = grind (arith, nat_tests) in
    value_at-set_row_other t i (set row j x) d q k at_place.from_top (λ e2. h (omega arith))
    ∙ sym (ap (λ b. cond (b && (c == k)) x (value_at d t q k)) no)))

pub set-value_at : {X : Type 0} (t : List (List X)) (d x : X) (r c : ℕ) → IsTable t → OnScreen r c
    → set t (r - 1) (set (get_or t (r - 1) []) (c - 1) x)
    ≡ table (λ q k. cond ((r == q) && (c == k)) x (value_at d t q k))
set-value_at t d x r c is on =
    set_is t d x (r - 1) (c - 1) r c (get_or t (r - 1) []) [] is on (omega (arith, on)) (omega (arith, on)) refl

-- ---- rows

pub row_of-list_by_index : {X : Type 0} (f : ℕ → X) → row_of f ≡ list_by_index 1 40 f
unfolding row_of list_by_index
row_of-list_by_index f = refl

pub table-list_by_index : {X : Type 0} (f : ℕ → ℕ → X) → table f ≡ list_by_index 1 24 (λ r. row_of (f r))
unfolding table list_by_index
table-list_by_index f = refl

-- 24 rows that are those of a function
pub rows_are : {X : Type 0} (f : ℕ → ℕ → X) (t : List (List X)) → length t ≡ 24
    → ((i : ℕ) → i < 24 → get_or t i [] ≡ row_of (f (i + 1))) → t ≡ table f
rows_are f t long same =
    ext_get_or [] t (table f) (long ∙ sym (length-table f)) (λ i below.
    let last : i < 24 = omega (arith, below, long) in
    same i last ∙ sym (get_or-table f i (i + 1) [] last refl))

pub set_row_is : {X : Type 0} (t : List (List X)) (d : X) (i r : ℕ) (row : List X) → IsTable t → i < 24 → i + 1 ≡ r
    → length row ≡ 40 → set t i row ≡ table (λ q c. cond (r == q) (entry d 1 row c) (value_at d t q c))
set_row_is {X} t d i r row is below er long =
    table_is (IsTable-set_row is i row long) (λ q c. cond (r == q) (entry d 1 row c) (value_at d t q c)) d (λ q c on.
    by_eq r q
    (λ (same : r ≡ q).
    let yes : (r == q) ≡ true = grind (arith, nat_tests) in
    value_at-set_row t i row d q c (omega (arith, is.rows)) (omega arith)
    ∙ sym (entry_from d 1 row c on.from_left)
    ∙ sym (ap (λ b. cond b (entry d 1 row c) (value_at d t q c)) yes))
    (λ (other : r ≢ q).
    let no : (r == q) ≡ false = grind (arith, nat_tests) in
    value_at-set_row_other t i row d q c on.from_top (λ e. other (omega arith))
    ∙ sym (ap (λ b. cond b (entry d 1 row c) (value_at d t q c)) no)))

-- ---- made by replacing one row after the other

pub HasMadeRows-none : {X : Type 0} (d : X) (f : ℕ → ℕ → X) (t : List (List X)) → IsTable t
    → HasMadeRows d f (value_at d t) t 0
HasMadeRows-none d f t is = record {
  is = is;
  made = λ r c on none. absurd (omega (arith, on));
  left =
      λ r c on more. refl;
}

pub HasMadeRows-more : {X : Type 0} (d : X) (f g : ℕ → ℕ → X) (t : List (List X)) (n i r : ℕ) (row : List X)
    → HasMadeRows d f g t n → n < 24 → i ≡ n → n + 1 ≡ r → row ≡ row_of (f r)
    → HasMadeRows d f g (set t i row) (n + 1)
HasMadeRows-more {X} d f g t n i r row m below ei er same = record {
  is = IsTable-set_row m.is i row (ap length same ∙ length-row_of (f r));
  made = λ q c on le.
      by_eq q r
      (λ (e : q ≡ r). value_at-set_row t i row d q c (omega (arith, m.is.rows)) (omega arith)
      ∙ ap (λ (l : List X). get_or l (c - 1) d) same
      ∙ get_or-row_of (f r) (c - 1) c d (omega (arith, on)) (omega (arith, on)) ∙ ap (λ k. f k c) (sym e))
      (λ (ne : q ≢ r). value_at-set_row_other t i row d q c on.from_top (λ h. ne (omega arith))
      ∙ m.made q c on (omega arith));
  left = λ q c on more. value_at-set_row_other t i row d q c on.from_top (λ h. omega arith)
      ∙ m.left q c on (omega arith);
}

pub HasMadeRows-kept : {X : Type 0} (d : X) (f g : ℕ → ℕ → X) (t : List (List X)) (n r : ℕ) → HasMadeRows d f g t n
    → n < 24 → n + 1 ≡ r → ((c : ℕ) → OnScreen r c → g r c ≡ f r c) → HasMadeRows d f g t (n + 1)
HasMadeRows-kept {X} d f g t n r m below er same = record {
  is = m.is;
  made = λ q c on le.
      by_eq r q
      (λ (e : r ≡ q). m.left q c on (omega arith) ∙ subst (λ k. OnScreen k c → g k c ≡ f k c) e (same c) on)
      (λ (ne : r ≢ q). m.made q c on (omega arith));
  left = λ q c on more. m.left q c on (omega arith);
}

pub HasMadeRows-all : {X : Type 0} (d : X) (f g : ℕ → ℕ → X) (t : List (List X)) (n : ℕ) → HasMadeRows d f g t n
    → 24 ≤ n → t ≡ table f
HasMadeRows-all d f g t n m whole = table_is m.is f d (λ r c on. m.made r c on (omega (arith, on)))
