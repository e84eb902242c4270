-- Painting places of a grid.
use Rattle.std.proofs.Common.{◌≡◌, ◌≢◌, ℕ, Bool, true, false, ◌||◌, cond, eqb, List, [], ◌∷◌, ◌++◌, refl, ◌∙◌, ap}
use Rattle.std.specs.List.{All, AllByRecursion}
use Rattle.std.proofs.lemmas.List.Elements.{All-head, All-tail}
use Rattle.std.proofs.lemmas.Bool.{and_parts, eqb-true, cond-false, or_parts, false_from_ne_true}
use Rattle.cept_codes.specs.declared.look.Look.{Look}
use Rattle.cept_codes.specs.Look.{blank_look}
use Rattle.cept_codes.specs.Place.{Place, OnScreen}
use Rattle.cept_codes.specs.Table.{value_at, IsTable}
use Rattle.cept_profile.specs.Cells.{is_at}
use Rattle.cept_profile.specs.Changes.{look_at, grid_with_paint, grid_with_paints}
use Rattle.cept_codes.proofs.Laws.{value_at-table, IsTable-table}

-- painting in two parts
pub grid_with_paints-append : (g : List (List Look)) (xs ys : List (Place × Look)) → grid_with_paints g (xs ++ ys)
    ≡ grid_with_paints (grid_with_paints g xs) ys
unfolding grid_with_paints
grid_with_paints-append g [] ys = refl
grid_with_paints-append g (x ∷ xs) ys = grid_with_paints-append (grid_with_paint g x.0 x.1) xs ys

-- a painted table is a table
pub IsTable-grid_with_paints : (g : List (List Look)) (xs : List (Place × Look)) → IsTable g
    → IsTable (grid_with_paints g xs)
unfolding grid_with_paints
IsTable-grid_with_paints g [] is = is
IsTable-grid_with_paints g (x ∷ xs) is =
    IsTable-grid_with_paints (grid_with_paint g x.0 x.1) xs
    (IsTable-table (λ r c. cond (is_at x.0 r c) x.1 (value_at blank_look g r c)))

pub value_at-grid_with_paint : (g : List (List Look)) (p : Place) (l : Look) (r c : ℕ) → OnScreen r c
    → value_at blank_look (grid_with_paint g p l) r c ≡ cond (is_at p r c) l (value_at blank_look g r c)
value_at-grid_with_paint g p l r c on =
    value_at-table (λ r' c'. cond (is_at p r' c') l (value_at blank_look g r' c')) blank_look r c on

-- one of the places is this one
abbrev pub names : List (Place × Look) → ℕ → ℕ → Bool
names [] r c = false
names (x ∷ xs) r c = is_at x.0 r c || names xs r c

-- each look is that of the grid at its place
abbrev pub AreLooksOf : List (List Look) → List (Place × Look) → Type 0
AreLooksOf h xs = AllByRecursion (λ x. x.1 ≡ look_at h x.0) xs

-- a place at which a test is true is that of row r and column c
pub look_at-is_at : (h : List (List Look)) (p : Place) (r c : ℕ) → is_at p r c ≡ true
    → look_at h p ≡ value_at blank_look h r c
look_at-is_at h p r c e =
    let both = and_parts (eqb p.row r) (eqb p.column c) e in
    ap (λ r'. value_at blank_look h r' p.column) (eqb-true p.row r both.0)
    ∙ ap (λ c'. value_at blank_look h r c') (eqb-true p.column c both.1)

-- choosing twice between two looks
choose_twice : {X : Type 0} (first later : Bool) (l new old : X) → (first ≡ true → l ≡ new)
    → cond later new (cond first l old) ≡ cond (first || later) new old
choose_twice true true l new old is = refl
choose_twice true false l new old is = is refl
choose_twice false true l new old is = refl
choose_twice false false l new old is = refl

-- looks of h painted over g: h at the named places, g at the others
pub value_at-grid_with_paints : (g h : List (List Look)) (xs : List (Place × Look)) → AreLooksOf h xs → (r c : ℕ)
    → OnScreen r c
    → value_at blank_look (grid_with_paints g xs) r c
    ≡ cond (names xs r c) (value_at blank_look h r c) (value_at blank_look g r c)
unfolding grid_with_paints
value_at-grid_with_paints g h [] are r c on = refl
value_at-grid_with_paints g h (x ∷ xs) are r c on =
    value_at-grid_with_paints (grid_with_paint g x.0 x.1) h xs are.1 r c on
    ∙ ap (λ old. cond (names xs r c) (value_at blank_look h r c) old) (value_at-grid_with_paint g x.0 x.1 r c on)
    ∙ choose_twice (is_at x.0 r c) (names xs r c) x.1 (value_at blank_look h r c) (value_at blank_look g r c)
    (λ e. are.0 ∙ look_at-is_at h x.0 r c e)

-- a place that isn't named keeps its look
pub value_at-grid_with_paints-other : (g : List (List Look)) (xs : List (Place × Look)) (r c : ℕ) → OnScreen r c
    → names xs r c
    ≡ false → value_at blank_look (grid_with_paints g xs) r c ≡ value_at blank_look g r c
unfolding grid_with_paints
value_at-grid_with_paints-other g [] r c on not_named = refl
value_at-grid_with_paints-other g (x ∷ xs) r c on not_named =
    let both = or_parts (is_at x.0 r c) (names xs r c) not_named in
    value_at-grid_with_paints-other (grid_with_paint g x.0 x.1) xs r c on both.1
    ∙ value_at-grid_with_paint g x.0 x.1 r c on
    ∙ cond-false (is_at x.0 r c) x.1 (value_at blank_look g r c) both.0

-- places in one row and one column are one place
pub same_place : (p q : Place) → p.row ≡ q.row → p.column ≡ q.column → p ≡ q
same_place p q row column = λ i. let here : Place = record { row = row i; column = column i } in here

pub place-is_at : (p q : Place) → is_at p q.row q.column ≡ true → p ≡ q
place-is_at p q e =
    let both = and_parts (eqb p.row q.row) (eqb p.column q.column) e in
    same_place p q (eqb-true p.row q.row both.0) (eqb-true p.column q.column both.1)

-- a place that no entry has isn't named
pub names-other : (xs : List (Place × Look)) (p : Place) → All (λ x. x.0 ≢ p) xs → names xs p.row p.column ≡ false
names-other [] p others = refl
names-other (x ∷ xs) p others =
    ap (λ v. v || names xs p.row p.column)
    (false_from_ne_true (is_at x.0 p.row p.column)
    (λ e. All-head (λ y. y.0 ≢ p) x xs others (place-is_at x.0 p e)))
    ∙ names-other xs p (All-tail (λ y. y.0 ≢ p) x xs others)

pub look_at-grid_with_paints : (g : List (List Look)) (xs : List (Place × Look)) (p : Place) → OnScreen p.row p.column
    → All (λ x. x.0 ≢ p) xs → look_at (grid_with_paints g xs) p ≡ look_at g p
look_at-grid_with_paints g xs p on others =
    value_at-grid_with_paints-other g xs p.row p.column on (names-other xs p others)
