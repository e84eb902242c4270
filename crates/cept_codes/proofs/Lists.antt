-- Lists made of a function of an index and read by that index, and lists that loops make of them one entry after the
-- other.
use Rattle.std.proofs.Common.{◌≡◌, ◌≢◌, inl, inr, ℕ, ◌+◌, ◌-◌, ◌<◌, ◌≤◌, ◌==◌, cond, true, false, List, [], ◌∷◌, ◌++◌}
use Rattle.std.proofs.Common.{length, get_or, set, ltb, refl, sym, ap, ◌∙◌, suc, zero, arith}
use Rattle.std.proofs.lemmas.Bool.{cases_eq, cond-false, cond-true, le-ltb, lt-ltb}
use Rattle.std.proofs.lemmas.Bool.Decides.{nat_tests}
use Rattle.std.proofs.lemmas.List.{ext_get_or, get_or_past, length-set, get_or-set_same, get_or-set_other}
use Rattle.std.proofs.lemmas.List.FromFn.{length-map-range_with_len, get_or-map-range_with_len, map-range_with_len_more}
use Rattle.cept_codes.specs.Table.{list_by_index, entry, HasMadeEntries}

-- a claim by cases of whether two numbers are equal
pub by_eq : {P : Type 0} (a b : ℕ) → (a ≡ b → P) → (a ≢ b → P) → P
by_eq a b same other = elim (cases_eq a b) [ inl e ↦ same e | inr ne ↦ other ne ]

pub length-list_by_index : {X : Type 0} (from count : ℕ) (f : ℕ → X) → length (list_by_index from count f) ≡ count
unfolding list_by_index
length-list_by_index from count f = length-map-range_with_len f from count

pub entry_from : {X : Type 0} (d : X) (from : ℕ) (list : List X) (k : ℕ) → from ≤ k
    → entry d from list k ≡ get_or list (k - from) d
entry_from d from list k low = cond-false (ltb k from) d (get_or list (k - from) d) (le-ltb k from low)

pub entry_below : {X : Type 0} (d : X) (from : ℕ) (list : List X) (k : ℕ) → k < from → entry d from list k ≡ d
entry_below d from list k below = cond-true (ltb k from) d (get_or list (k - from) d) (lt-ltb k from below)

pub entry-list_by_index : {X : Type 0} (d : X) (from count : ℕ) (f : ℕ → X) (k : ℕ) → from ≤ k → k < from + count
    → entry d from (list_by_index from count f) k ≡ f k
unfolding list_by_index
entry-list_by_index d from count f k low high =
    entry_from d from (list_by_index from count f) k low ∙ get_or-map-range_with_len f from count (k - from) k d (omega arith) (omega arith)

pub entry_past : {X : Type 0} (d : X) (from : ℕ) (list : List X) (k : ℕ) → from + length list ≤ k
    → entry d from list k ≡ d
entry_past d from list k past = entry_from d from list k (omega arith) ∙ get_or_past list (k - from) d (omega arith)

-- lists that agree at each index
pub same_lists : {X : Type 0} (d : X) (from : ℕ) (list other : List X) → length list ≡ length other
    → ((k : ℕ) → from ≤ k → k < from + length list → entry d from list k ≡ entry d from other k) → list ≡ other
same_lists d from list other long agree =
    ext_get_or d list other long (λ i below.
    let back : from + i - from ≡ i = omega arith in
    ap (λ j. get_or list j d) (sym back) ∙ sym (entry_from d from list (from + i) (omega arith))
    ∙ agree (from + i) (omega arith) (omega (arith, below)) ∙ entry_from d from other (from + i) (omega arith)
    ∙ ap (λ j. get_or other j d) back)

-- a list that shows a function at each index
pub indexed_is : {X : Type 0} (d : X) (from count : ℕ) (f : ℕ → X) (list : List X) → length list ≡ count
    → ((k : ℕ) → from ≤ k → k < from + count → entry d from list k ≡ f k) → list ≡ list_by_index from count f
indexed_is d from count f list long same =
    same_lists d from list (list_by_index from count f) (long ∙ sym (length-list_by_index from count f)) (λ k low high.
    let below : k < from + count = omega (arith, high, long) in
    same k low below ∙ sym (entry-list_by_index d from count f k low below))

pub list_by_index-entry : {X : Type 0} (d : X) (from count : ℕ) (list : List X) → length list ≡ count
    → list_by_index from count (entry d from list) ≡ list
list_by_index-entry d from count list long =
    sym (indexed_is d from count (entry d from list) list long (λ k low high. refl))

pub indexed_none : {X : Type 0} (from : ℕ) (f : ℕ → X) → list_by_index from 0 f ≡ []
unfolding list_by_index
indexed_none from f = refl

pub same_indexed : {X : Type 0} (from count : ℕ) (f g : ℕ → X) → ((k : ℕ) → from ≤ k → k < from + count → f k ≡ g k)
    → list_by_index from count f ≡ list_by_index from count g
same_indexed from zero f g agree = indexed_none from f ∙ sym (indexed_none from g)
same_indexed from (suc n) f g agree =
    indexed_is (g from) from (suc n) g (list_by_index from (suc n) f) (length-list_by_index from (suc n) f)
    (λ k low high. entry-list_by_index (g from) from (suc n) f k low high ∙ agree k low high)

-- a list in which one is written, read at its index and at another
entry-set_same : {X : Type 0} (d x : X) (from i k : ℕ) (list : List X) → i < length list → from + i ≡ k
    → entry d from (set list i x) k ≡ x
entry-set_same d x from i k list below e =
    let here : k - from ≡ i = omega arith in
    entry_from d from (set list i x) k (omega arith) ∙ ap (λ n. get_or (set list i x) n d) here
    ∙ get_or-set_same list i x d below

entry-set_other : {X : Type 0} (d x : X) (from i k : ℕ) (list : List X) → from ≤ k → k - from ≢ i
    → entry d from (set list i x) k ≡ entry d from list k
entry-set_other d x from i k list low other =
    entry_from d from (set list i x) k low ∙ get_or-set_other list i (k - from) x d other
    ∙ sym (entry_from d from list k low)

-- an entry written
pub set-entry : {X : Type 0} (d x : X) (from count i k : ℕ) (list : List X) → length list ≡ count → i < count
    → from + i ≡ k → set list i x ≡ list_by_index from count (λ j. cond (k == j) x (entry d from list j))
set-entry {X} d x from count i k list long below e =
    indexed_is d from count (λ j. cond (k == j) x (entry d from list j)) (set list i x) (length-set list i x
    ∙ long) (λ j low high.
    by_eq k j
    (λ (same : k ≡ j).
    let yes : (k == j) ≡ true = grind (arith, nat_tests) in
    entry-set_same d x from i j list (omega (arith, below, long)) (omega arith)
    ∙ sym (ap (λ b. cond b x (entry d from list j)) yes))
    (λ (other : k ≢ j).
    let no : (k == j) ≡ false = grind (arith, nat_tests) in
    let apart : j - from ≢ i = λ h. other (omega (arith, low)) in
    entry-set_other d x from i j list low apart ∙ sym (ap (λ b. cond b x (entry d from list j)) no)))

-- ---- made by adding

pub indexed_more : {X : Type 0} (from n k : ℕ) (f : ℕ → X) → from + n ≡ k
    → list_by_index from n f ++ f k ∷ [] ≡ list_by_index from (n + 1) f
unfolding list_by_index
indexed_more from n k f e = sym (map-range_with_len_more f from n k e)

-- ---- made by replacing

pub HasMadeEntries-none : {X : Type 0} (d : X) (from count : ℕ) (f : ℕ → X) (list : List X) → length list ≡ count
    → HasMadeEntries d from count f (entry d from list) list 0
HasMadeEntries-none d from count f list long =
    record { long = long; made = λ k low high none. absurd (omega arith); left = λ k low high more. refl }

pub HasMadeEntries-more : {X : Type 0} (d x : X) (from count : ℕ) (f g : ℕ → X) (list : List X) (n i k : ℕ)
    → HasMadeEntries d from count f g list n → n < count → i ≡ n → from + n ≡ k → x ≡ f k
    → HasMadeEntries d from count f g (set list i x) (n + 1)
HasMadeEntries-more {X} d x from count f g list n i k m below ei ek same = record {
  long = length-set list i x ∙ m.long;
  made = λ j low high le.
      by_eq j k
      (λ (e : j ≡ k). entry-set_same d x from i j list (omega (arith, m.long)) (omega arith) ∙ same ∙ ap f (sym e))
      (λ (ne : j ≢ k). let other : j - from ≢ i = λ h. ne (omega arith) in
      entry-set_other d x from i j list low other ∙ m.made j low high (omega arith));
  left = λ j low high more. let other : j - from ≢ i = λ h. omega arith in
      entry-set_other d x from i j list low other ∙ m.left j low high (omega arith);
}

pub HasMadeEntries-all : {X : Type 0} (d : X) (from count : ℕ) (f g : ℕ → X) (list : List X) (n : ℕ)
    → HasMadeEntries d from count f g list n → count ≤ n → list ≡ list_by_index from count f
HasMadeEntries-all d from count f g list n m whole =
    indexed_is d from count f list m.long (λ k low high. m.made k low high (omega arith))
