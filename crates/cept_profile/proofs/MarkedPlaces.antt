-- The list of marked places as it is told from the front: the places with numbers below a bound.
use Rattle.std.proofs.Common.{◌≡◌, ℕ, ◌+◌, ◌-◌, ◌<◌, ◌≤◌, zero, suc, Bool, true, false, cond, List, [], ◌∷◌, ◌++◌, map}
use Rattle.std.proofs.Common.{refl, sym, ◌∙◌, ap, arith, append-nil, add-zero, add-one, append_assoc}
use Rattle.std.specs.List.{range_with_len, filter}
use Rattle.std.specs.Prelude.{slice_index_or}
use Rattle.std.proofs.lemmas.List.{map-append}
use Rattle.std.proofs.lemmas.List.Elements.{filter-append}
use Rattle.cept_codes.specs.declared.look.Look.{Look}
use Rattle.cept_codes.specs.Place.{Place, place_of}
use Rattle.cept_profile.specs.Changes.{look_at, marked_looks, marked_looks_below}

-- the place with this number, with its look in g
abbrev entry_of : List (List Look) → ℕ → Place × Look
entry_of g n = (place_of n, look_at g (place_of n))

-- the number is marked
abbrev marked : List Bool → ℕ → Bool
marked marks n = slice_index_or marks n false

pub marked_looks_below-none : (marks : List Bool) (g : List (List Look)) → marked_looks_below marks g 0 ≡ []
unfolding marked_looks_below
marked_looks_below-none marks g = refl

-- all places have numbers below 960
pub marked_looks_below-whole : (marks : List Bool) (g : List (List Look))
    → marked_looks_below marks g 960 ≡ marked_looks marks g
unfolding marked_looks marked_looks_below
marked_looks_below-whole marks g = refl

range_with_len-suc : (a n : ℕ) → range_with_len a (suc n) ≡ range_with_len a n ++ (a + n) ∷ []
range_with_len-suc a zero = ap (λ k. k ∷ []) (sym (add-zero a))
range_with_len-suc a (suc n) =
    ap (λ rest. a ∷ rest) (range_with_len-suc (a + 1) n
    ∙ ap (λ k. range_with_len (a + 1) n ++ k ∷ []) (let e : a + 1 + n ≡ a + suc n = omega arith in e))

numbers-more : (n : ℕ) → range_with_len 0 (n + 1) ≡ range_with_len 0 n ++ n ∷ []
numbers-more n =
    ap (range_with_len 0) (add-one n) ∙ range_with_len-suc 0 n
    ∙ ap (λ k. range_with_len 0 n ++ k ∷ []) (let e : 0 + n ≡ n = omega arith in e)

entry_if : (g : List (List Look)) (p : ℕ → Bool) (n : ℕ) (b : Bool) → p n ≡ b → map (entry_of g) (filter p (n ∷ []))
    ≡ cond b (entry_of g n ∷ []) []
entry_if g p n true e = rw e refl
entry_if g p n false e = rw e refl

-- one number more
pub marked_looks_below-more : (marks : List Bool) (g : List (List Look)) (n : ℕ) → marked_looks_below marks g (n + 1)
    ≡ marked_looks_below marks g n ++ cond (slice_index_or marks n false) ((place_of n, look_at g (place_of n)) ∷ []) []
unfolding marked_looks_below
marked_looks_below-more marks g n =
    ap (map (entry_of g)) (ap (filter (marked marks)) (numbers-more n)
    ∙ filter-append (marked marks) (range_with_len 0 n) (n ∷ [])) ∙ map-append (entry_of g) _ _
    ∙ ap (λ rest. map (entry_of g) (filter (marked marks) (range_with_len 0 n)) ++ rest)
    (entry_if g (marked marks) n (marked marks n) refl)

more_unmarked : (marks : List Bool) (g : List (List Look)) (from d : ℕ)
    → ((k : ℕ) → from ≤ k → k < from + d → slice_index_or marks k false ≡ false) → marked_looks_below marks g (from + d)
    ≡ marked_looks_below marks g from
more_unmarked marks g from zero none = ap (marked_looks_below marks g) (add-zero from)
more_unmarked marks g from (suc d) none =
    ap (marked_looks_below marks g) (let e : from + suc d ≡ (from + d) + 1 = omega arith in e)
    ∙ marked_looks_below-more marks g (from + d)
    ∙ ap (λ b. marked_looks_below marks g (from + d)
    ++ cond b ((place_of (from + d), look_at g (place_of (from + d))) ∷ []) [])
    (none (from + d) (omega arith) (omega arith)) ∙ append-nil _
    ∙ more_unmarked marks g from d (λ k low high. none k low (omega arith))

-- numbers that aren't marked add nothing
pub marked_looks_below-unmarked : (marks : List Bool) (g : List (List Look)) (from n : ℕ) → from ≤ n
    → ((k : ℕ) → from ≤ k → k < n → slice_index_or marks k false ≡ false) → marked_looks_below marks g n
    ≡ marked_looks_below marks g from
marked_looks_below-unmarked marks g from n h none =
    ap (marked_looks_below marks g) (let e : n ≡ from + (n - from) = omega arith in e)
    ∙ more_unmarked marks g from (n - from) (λ k low high. none k low (omega arith))

-- the first marked number after a bound comes next
pub marked_looks_below-next : (marks : List Bool) (g : List (List Look)) (from n : ℕ) → from ≤ n
    → ((k : ℕ) → from ≤ k → k < n → slice_index_or marks k false ≡ false) → slice_index_or marks n false ≡ true
    → marked_looks_below marks g (n + 1) ≡ marked_looks_below marks g from ++ (place_of n, look_at g (place_of n)) ∷ []
marked_looks_below-next marks g from n h none here =
    marked_looks_below-more marks g n
    ∙ ap (λ b. marked_looks_below marks g n ++ cond b ((place_of n, look_at g (place_of n)) ∷ []) []) here
    ∙ ap (λ front. front ++ (place_of n, look_at g (place_of n))
    ∷ []) (marked_looks_below-unmarked marks g from n h none)

next_sum : (n d : ℕ) → n + suc d ≡ (n + d) + 1
next_sum n d = omega arith

-- the list up to one bound begins the list up to a later one
pub marked_looks_below-rest : (marks : List Bool) (g : List (List Look)) (n d : ℕ) → (rest : List (Place × Look))
    × (marked_looks_below marks g (n + d) ≡ marked_looks_below marks g n ++ rest)
marked_looks_below-rest marks g n zero = ([], ap (marked_looks_below marks g) (add-zero n) ∙ sym (append-nil _))
marked_looks_below-rest marks g n (suc d) =
    let before = marked_looks_below-rest marks g n d in
    let last = cond (slice_index_or marks (n + d) false) ((place_of (n + d), look_at g (place_of (n + d))) ∷ []) [] in (
      before.0 ++ last,
      ap (marked_looks_below marks g) (next_sum n d) ∙ marked_looks_below-more marks g (n + d)
          ∙ ap (λ front. front ++ last) before.1 ∙ append_assoc (marked_looks_below marks g n) before.0 last,
    )
