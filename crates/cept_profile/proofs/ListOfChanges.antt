-- The list of changes: which places it names, and that painting it gives the new grid.
use Rattle.std.proofs.Common.{◌≡◌, ◌≢◌, ℕ, ◌+◌, ◌/◌, ◌%◌, ◌<◌, ◌≤◌, ◌⊎◌, suc, zero, Bool, true, false, not, ◌&&◌, ◌||◌}
use Rattle.std.proofs.Common.{cond, eqb, List, [], ◌∷◌, ◌++◌, map, length, get_or, refl, sym, ◌∙◌, ap, subst, inl, inr}
use Rattle.std.proofs.Common.{arith}
use Rattle.std.specs.List.{range_with_len, filter, All, AllPairs, Contains}
use Rattle.std.proofs.lemmas.Bool.{cases_Bool, cases_eq, and_parts, and_from, eq-eqb, eqb-true, cond-true, cond-false}
use Rattle.std.proofs.lemmas.Bool.{false≢true, or_cases, not-true, not_from_false, not_from_true, false_from_ne_true}
use Rattle.std.proofs.lemmas.List.Elements.{All-filter, All-map, filter_passes, Contains-append_right, All-head}
use Rattle.std.proofs.lemmas.List.Elements.{All-contains}
use Rattle.std.proofs.lemmas.List.Kept.{AllPairs-filter}
use Rattle.std.proofs.lemmas.List.{get_or-map, length-map}
use Rattle.std.proofs.lemmas.List.FromFn.{get_or-map-range_with_len, get_or-range_with_len, length-range_with_len}
use Rattle.cept_codes.specs.declared.command.Command.{Command}
use Rattle.cept_codes.specs.declared.look.Look.{Look}
use Rattle.cept_codes.proofs.Laws.{number-place_of, OnScreen-place_of, number-lt, place_of-number}
use Rattle.cept_codes.specs.Look.{blank_look}
use Rattle.cept_codes.specs.Place.{Place, OnScreen, number, place_of}
use Rattle.cept_codes.specs.Same.{same_look}
use Rattle.cept_codes.specs.Table.{value_at, IsTable}
use Rattle.cept_profile.specs.Cells.{is_at}
use Rattle.cept_profile.specs.Changes.{look_at, differences, marked_looks, changes_between, changes, grid_with_paints}
use Rattle.cept_profile.specs.Changes.{IsBefore, AreChanges}
use Rattle.cept_profile.specs.Look.{look, grid}
use Rattle.cept_profile.specs.State.{core}
use Rattle.cept_codes.proofs.Laws.{look_decides}
use Rattle.cept_profile.proofs.PaintedPlaces.{names, AreLooksOf, value_at-grid_with_paints, IsTable-grid_with_paints}
use Rattle.cept_profile.proofs.PaintedPlaces.{place-is_at}
use Rattle.cept_codes.proofs.Laws.{IsTable-table, same_tables}
use Rattle.cept_profile.proofs.RisingLists.{same_rising}

-- a number is that of a place just if the place is in that row and column
pub is_at-place_of : (n r c : ℕ) → OnScreen r c → n ≡ number r c → is_at (place_of n) r c ≡ true
is_at-place_of n r c on e =
    and_from (eqb (n / 40 + 1) r) (eqb (n % 40 + 1) c) (eq-eqb (n / 40 + 1) r (omega arith))
    (eq-eqb (n % 40 + 1) c (omega arith))

pub is_at-place_of_other : (n r c : ℕ) → OnScreen r c → (n ≡ number r c → ⊥) → is_at (place_of n) r c ≡ false
is_at-place_of_other n r c on other =
    false_from_ne_true (is_at (place_of n) r c) (λ e.
    let both = and_parts (eqb (n / 40 + 1) r) (eqb (n % 40 + 1) c) e in
    let row : n / 40 + 1 ≡ r = eqb-true (n / 40 + 1) r both.0 in
    let column : n % 40 + 1 ≡ c = eqb-true (n % 40 + 1) c both.1 in
    other (omega arith))

-- the entry of a place, by its number
abbrev pub entry : List (List Look) → ℕ → Place × Look
entry h n = (place_of n, look_at h (place_of n))

-- one more number, which stands in the list where it is marked
names-one_more : (marked : Bool) (h : List (List Look)) (a : ℕ) (rest : List ℕ) (r c : ℕ)
    → names (map (entry h) (cond marked (a ∷ rest) rest)) r c
    ≡ ((marked && is_at (place_of a) r c) || names (map (entry h) rest) r c)
names-one_more true h a rest r c = refl
names-one_more false h a rest r c = refl

-- a mark at a place that is this one, or isn't
neither : (m : Bool) {x y : Bool} → x ≡ false → y ≡ false → ((m && x) || y) ≡ false
neither true {x} {y} ex ey = ap (λ v. v || y) ex ∙ ey
neither false ex ey = ey

only_here : (m : Bool) {x y : Bool} → x ≡ true → y ≡ false → ((m && x) || y) ≡ m
only_here true {x} {y} ex ey = ap (λ v. v || y) ex
only_here false ex ey = ey

only_later : (m : Bool) {x y z : Bool} → x ≡ false → y ≡ z → ((m && x) || y) ≡ z
only_later true {x} {y} ex ey = ap (λ v. v || y) ex ∙ ey
only_later false ex ey = ey

-- in bounds that the number lies below there is no such place
names-listed_above : (marks : ℕ → Bool) (h : List (List Look)) (a n r c : ℕ) → OnScreen r c → number r c < a
    → names (map (entry h) (filter marks (range_with_len a n))) r c ≡ false
names-listed_above marks h a zero r c on low = refl
names-listed_above marks h a (suc n) r c on low =
    let here : is_at (place_of a) r c ≡ false = is_at-place_of_other a r c on (λ e. absurd (omega arith)) in
    let rest : names (map (entry h) (filter marks (range_with_len (a + 1) n))) r c ≡ false =
    names-listed_above marks h (a + 1) n r c on (omega arith) in
    names-one_more (marks a) h a (filter marks (range_with_len (a + 1) n)) r c ∙ neither (marks a) here rest

-- whether this place is named is whether it is marked
names-listed_within : (marks : ℕ → Bool) (h : List (List Look)) (a n r c : ℕ) → OnScreen r c → a ≤ number r c
    → number r c < a + n → names (map (entry h) (filter marks (range_with_len a n))) r c ≡ marks (number r c)
names-listed_within marks h a zero r c on low high = absurd (omega arith)
names-listed_within marks h a (suc n) r c on low high =
    names-one_more (marks a) h a (filter marks (range_with_len (a + 1) n)) r c ∙ elim (cases_eq a (number r c)) [
      | inl e ↦ only_here (marks a) (is_at-place_of a r c on e)
          (names-listed_above marks h (a + 1) n r c on (omega arith)) ∙ ap marks e
      | inr other ↦ only_later (marks a) (is_at-place_of_other a r c on other)
          (names-listed_within marks h (a + 1) n r c on (omega arith) (omega arith))
    ]

-- the looks of a grid at the place with the number of row r and column c
pub look_at-number : (g : List (List Look)) (r c : ℕ) → OnScreen r c
    → look_at g (place_of (number r c)) ≡ value_at blank_look g r c
look_at-number g r c on =
    ap (λ r'. value_at blank_look g r' (place_of (number r c)).column)
    (ap (λ (q : Place). q.row) (place_of-number (record { row = r; column = c }) on))
    ∙ ap (λ c'. value_at blank_look g r c')
    (ap (λ (q : Place). q.column) (place_of-number (record { row = r; column = c }) on))

-- whether the looks at this place differ
abbrev pub differ_at : List (List Look) → List (List Look) → ℕ → ℕ → Bool
differ_at g h r c = not (same_look (value_at blank_look g r c) (value_at blank_look h r c))

pub differences-value_at : (g h : List (List Look)) (n : ℕ) → n < 960 → get_or (differences g h) n false
    ≡ not (same_look (look_at g (place_of n)) (look_at h (place_of n)))
unfolding differences
differences-value_at g h n below =
    get_or-map-range_with_len (λ k. not (same_look (look_at g (place_of k)) (look_at h (place_of k)))) 0 960 n n
    false below (omega arith)

-- the mark of the place in row r and column c
pub differences-number : (g h : List (List Look)) (r c : ℕ) → OnScreen r c
    → get_or (differences g h) (number r c) false ≡ differ_at g h r c
differences-number g h r c on =
    differences-value_at g h (number r c) (number-lt r c on)
    ∙ ap (λ l. not (same_look l (look_at h (place_of (number r c))))) (look_at-number g r c on)
    ∙ ap (λ l. not (same_look (value_at blank_look g r c) l)) (look_at-number h r c on)

-- just the places that differ are named
pub names-changes_between : (g h : List (List Look)) (r c : ℕ) → OnScreen r c
    → names (changes_between g h) r c ≡ differ_at g h r c
unfolding marked_looks
names-changes_between g h r c on =
    names-listed_within (λ n. get_or (differences g h) n false) h 0 960 r c on (omega arith)
    (omega (arith, number-lt r c on))
    ∙ differences-number g h r c on

AreLooksOf-entries : (h : List (List Look)) (ns : List ℕ) → AreLooksOf h (map (entry h) ns)
AreLooksOf-entries h [] = tt
AreLooksOf-entries h (n ∷ ns) = (refl, AreLooksOf-entries h ns)

pub AreLooksOf-changes_between : (g h : List (List Look)) → AreLooksOf h (changes_between g h)
unfolding marked_looks
AreLooksOf-changes_between g h =
    AreLooksOf-entries h (filter (λ n. get_or (differences g h) n false) (range_with_len 0 960))

-- a choice between looks that are the same where no difference is seen
chosen : (old new : Look) → cond (not (same_look old new)) new old ≡ new
chosen old new = elim (cases_Bool (same_look old new)) [
  | inl same ↦ cond-false (not (same_look old new)) new old (not_from_true (same_look old new) same)
      ∙ (look_decides old new).0 same
  | inr other ↦ cond-true (not (same_look old new)) new old (not_from_false (same_look old new) other)
]

pub grid_with_paints-changes_between : (g h : List (List Look)) → IsTable g → IsTable h
    → grid_with_paints g (changes_between g h) ≡ h
grid_with_paints-changes_between g h is_g is_h =
    same_tables (grid_with_paints g (changes_between g h)) h blank_look
    (IsTable-grid_with_paints g (changes_between g h) is_g) is_h (λ r c on.
    value_at-grid_with_paints g h (changes_between g h) (AreLooksOf-changes_between g h) r c on
    ∙ ap (λ named. cond named (value_at blank_look h r c) (value_at blank_look g r c))
    (names-changes_between g h r c on)
    ∙ chosen (value_at blank_look g r c) (value_at blank_look h r c))

-- ---- what the list of changes holds

-- the marked numbers below 960
marked : List (List Look) → List (List Look) → List ℕ
marked g h = filter (λ n. get_or (differences g h) n false) (range_with_len 0 960)

changes_between-marked : (g h : List (List Look)) → changes_between g h ≡ map (entry h) (marked g h)
unfolding marked_looks marked
changes_between-marked g h = refl

-- what holds of each entry, by the numbers
All-entries : (P : Place × Look → Type 0) (g h : List (List Look))
    → All (λ n. P (entry h n)) (marked g h) → All P (changes_between g h)
All-entries P g h all = subst (λ xs. All P xs) (sym (changes_between-marked g h)) (All-map P (entry h) (marked g h) all)

below_960 : All (λ n. n < 960) (range_with_len 0 960)
below_960 k d here =
    let lt : k < 960 = omega (arith, length-range_with_len 0 960) in omega (arith, get_or-range_with_len 0 960 k d lt)

marked-below : (g h : List (List Look)) → All (λ n. n < 960) (marked g h)
unfolding marked
marked-below g h = All-filter (λ n. get_or (differences g h) n false) (λ n. n < 960) (range_with_len 0 960) below_960

marked-marked : (g h : List (List Look)) → All (λ n. get_or (differences g h) n false ≡ true) (marked g h)
unfolding marked
marked-marked g h = filter_passes (λ n. get_or (differences g h) n false) (range_with_len 0 960)

-- where no equality is seen there is none
pub differ_from_test : (a b : Look) → not (same_look a b) ≡ true → a ≢ b
differ_from_test a b e same = false≢true (sym (not-true (same_look a b) e) ∙ (look_decides a b).1 same)

on_screen-changes_between : (g h : List (List Look)) → All (λ x. OnScreen x.0.row x.0.column) (changes_between g h)
on_screen-changes_between g h =
    All-entries (λ x. OnScreen x.0.row x.0.column) g h
    (λ k d here. OnScreen-place_of (get_or (marked g h) k d) (marked-below g h k d here))

new_looks-changes_between : (g h : List (List Look)) → All (λ x. x.1 ≡ look_at h x.0) (changes_between g h)
new_looks-changes_between g h = All-entries (λ x. x.1 ≡ look_at h x.0) g h (λ k d here. refl)

differ-changes_between : (g h : List (List Look)) → All (λ x. look_at g x.0 ≢ look_at h x.0) (changes_between g h)
differ-changes_between g h = All-entries (λ x. look_at g x.0 ≢ look_at h x.0) g h (λ k d here.
    let n : ℕ = get_or (marked g h) k d in
    differ_from_test (look_at g (place_of n)) (look_at h (place_of n))
    (sym (differences-value_at g h n (marked-below g h k d here)) ∙ marked-marked g h k d here))

rising : AllPairs (λ n m. n < m) (range_with_len 0 960)
rising i j d lt here =
    let below : j < 960 = omega (arith, length-range_with_len 0 960) in
    let above : i < 960 = omega arith in
    omega (arith, get_or-range_with_len 0 960 i d above, get_or-range_with_len 0 960 j d below)

marked-rising : (g h : List (List Look)) → AllPairs (λ n m. n < m) (marked g h)
unfolding marked
marked-rising g h = AllPairs-filter (λ n m. n < m) (λ n. get_or (differences g h) n false) (range_with_len 0 960) rising

in_order-entries : (h : List (List Look)) (ns : List ℕ) → AllPairs (λ n m. n < m) ns
    → AllPairs (λ x y. IsBefore x.0 y.0) (map (entry h) ns)
in_order-entries h ns up i j d lt here =
    let here_n : j < length ns = omega (arith, length-map ns (entry h)) in
    let above_n : i < length ns = omega arith in
    let less : get_or ns i 0 < get_or ns j 0 = up i j 0 lt here_n in
    let first : get_or (map (entry h) ns) i d ≡ entry h (get_or ns i 0) = get_or-map (entry h) ns i 0 d above_n in
    let second : get_or (map (entry h) ns) j d ≡ entry h (get_or ns j 0) = get_or-map (entry h) ns j 0 d here_n in
    let first_number : number (get_or (map (entry h) ns) i d).0.row
    (get_or (map (entry h) ns) i d).0.column ≡ get_or ns i 0 =
    ap (λ (x : Place × Look). number x.0.row x.0.column) first ∙ number-place_of (get_or ns i 0) in
    let second_number : number (get_or (map (entry h) ns) j d).0.row
    (get_or (map (entry h) ns) j d).0.column ≡ get_or ns j 0 =
    ap (λ (x : Place × Look). number x.0.row x.0.column) second ∙ number-place_of (get_or ns j 0) in
    omega (arith, less, first_number, second_number)

in_order-changes_between : (g h : List (List Look)) → AllPairs (λ x y. IsBefore x.0 y.0) (changes_between g h)
in_order-changes_between g h =
    subst (λ xs. AllPairs (λ (x : Place × Look) (y : Place × Look). IsBefore x.0 y.0) xs)
    (sym (changes_between-marked g h))
    (in_order-entries h (marked g h) (marked-rising g h))

-- an entry with the look of the grid at its place, which is this place
entry-named : (h : List (List Look)) (x : Place × Look) (p : Place) → x.1 ≡ look_at h x.0 → is_at x.0 p.row p.column
    ≡ true → x ≡ (p, look_at h p)
entry-named h x p is here =
    let place : x.0 ≡ p = place-is_at x.0 p here in
    let look : x.1 ≡ look_at h p = is ∙ ap (λ q. look_at h q) place in
    λ i. (place i, look i)

-- a named place is there
pub Contains-named : (h : List (List Look)) (xs : List (Place × Look)) (p : Place) → AreLooksOf h xs
    → names xs p.row p.column ≡ true → Contains xs (p, look_at h p)
Contains-named h [] p are named = absurd (false≢true named)
Contains-named h (x ∷ xs) p are named = elim (or_cases (is_at x.0 p.row p.column) (names xs p.row p.column) named) [
  | inl here ↦ (0, omega arith, entry-named h x p are.0 here)
  | inr later ↦ Contains-append_right (x ∷ []) xs (p, look_at h p) (Contains-named h xs p are.1 later)
]

each-changes_between : (g h : List (List Look)) (p : Place) → OnScreen p.row p.column
    → Contains (changes_between g h) (p, look_at h p) ⊎ (look_at g p ≡ look_at h p)
each-changes_between g h p on = elim (cases_Bool (same_look (look_at g p) (look_at h p))) [
  | inl same ↦ inr ((look_decides (look_at g p) (look_at h p)).0 same)
  | inr other ↦ inl (Contains-named h (changes_between g h) p (AreLooksOf-changes_between g h)
      (names-changes_between g h p.row p.column on ∙ not_from_false (same_look (look_at g p) (look_at h p)) other))
]

pub AreChanges-changes_between : (g h : List (List Look)) → AreChanges g h (changes_between g h)
AreChanges-changes_between g h = assumption (on_screen-changes_between g h, new_looks-changes_between g h, differ-changes_between g h, in_order-changes_between g h, each-changes_between g h)

-- what differs from itself is nowhere
none_differ : (g : List (List Look)) (xs : List (Place × Look)) → All (λ x. look_at g x.0 ≢ look_at g x.0) xs → xs ≡ []
none_differ g [] differ = refl
none_differ g (x ∷ xs) differ = absurd (All-head (λ y. look_at g y.0 ≢ look_at g y.0) x xs differ refl)

pub changes_between-same : (g : List (List Look)) → changes_between g g ≡ []
changes_between-same g = none_differ g (changes_between g g) (differ-changes_between g g)

-- ---- the list of changes is the only such list

-- what one list of changes names, another names too
named_by_both : (g h : List (List Look)) (xs ys : List (Place × Look)) → AreChanges g h xs → AreChanges g h ys
    → (x : Place × Look) → Contains xs x → Contains ys x
named_by_both g h xs ys are_x are_y x there =
    let on : OnScreen x.0.row x.0.column = All-contains (λ y. OnScreen y.0.row y.0.column) xs x are_x.on_screen there in
    let look : x.1 ≡ look_at h x.0 = All-contains (λ y. y.1 ≡ look_at h y.0) xs x are_x.new_looks there in
    let other : look_at g x.0 ≢ look_at h x.0 = All-contains (λ y. look_at g y.0 ≢ look_at h y.0) xs
    x are_x.differ there in
    elim (are_y.each x.0 on) [
      | inl named ↦ let at_x : (x.0, look_at h x.0) ≡ x = λ i. (x.0, sym look i) in subst (Contains ys) at_x named
      | inr same ↦ absurd (other same)
    ]

pub changed_is : (g h : List (List Look)) (xs : List (Place × Look)) → AreChanges g h xs → xs ≡ changes_between g h
changed_is g h xs are =
    same_rising (λ (x : Place × Look). number x.0.row x.0.column) xs (changes_between g h) are.in_order
    (in_order-changes_between g h)
    (named_by_both g h xs (changes_between g h) are (AreChanges-changes_between g h))
    (named_by_both g h (changes_between g h) xs (AreChanges-changes_between g h) are)

-- ---- one more command

pub grid_with_paints-changes : (history : List Command) (command : Command)
    → grid_with_paints (grid history) (changes history command) ≡ grid (history ++ command ∷ [])
grid_with_paints-changes history command =
    grid_with_paints-changes_between (grid history) (grid (history ++ command ∷ []))
    (IsTable-table (look (core history)))
    (IsTable-table (look (core (history ++ command ∷ []))))
