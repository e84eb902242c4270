-- How many kept numbers are reached, as the count of calls goes up.
use Rattle.std.proofs.Common.{◌≡◌, ℕ, zero, suc, ◌+◌, ◌-◌, ◌^◌, ◌<◌, ◌≤◌, ◌↔◌, min, List, [], ◌∷◌, Contains, nat_le}
use Rattle.std.proofs.Common.{cond, sym, subst, IsTrue, IsFalse, Bool, true, false, ◌∙◌, slice_index, arith}
use Rattle.std.proofs.lemmas.List.Sums.{sum_by-cons}
use Rattle.std.proofs.lemmas.List.{get_or_default}
use Rattle.std.proofs.lemmas.Bool.Decides.{nat_tests}
use Rattle.cept_outside.specs.Calls.{reached_count}

reached_count-cons : (x : ℕ) (xs : List ℕ) (n : ℕ)
    → reached_count (x ∷ xs) n ≡ cond (nat_le x n) 1 0 + reached_count xs n
reached_count-cons x xs n = sum_by-cons (λ k. cond (nat_le k n) 1 0) x xs

stays : (x m n : ℕ) → m ≤ n → cond (nat_le x m) 1 0 ≤ cond (nat_le x n) 1 0
stays x m n h = grind (arith, nat_tests)

comes : (x m n : ℕ) → x ≡ n → m < n → cond (nat_le x m) 1 0 + 1 ≤ cond (nat_le x n) 1 0
comes x m n e h = grind (arith, nat_tests)

-- a count that goes up reaches no fewer
pub reached_count-later : (xs : List ℕ) (m n : ℕ) → m ≤ n → reached_count xs m ≤ reached_count xs n
reached_count-later [] m n h = omega arith
reached_count-later (x ∷ xs) m n h =
    let here : cond (nat_le x m) 1 0 ≤ cond (nat_le x n) 1 0 = stays x m n h in
    omega (arith, reached_count-cons x xs m, reached_count-cons x xs n, reached_count-later xs m n h)

-- one that comes to a kept number reaches one more
pub reached_count-rose : (xs : List ℕ) (m n : ℕ) → m < n → Contains xs n → reached_count xs m + 1 ≤ reached_count xs n
reached_count-rose [] m n h c = omega (arith, c.1)
reached_count-rose (x ∷ xs) m n h (zero, within, is) =
    let here : cond (nat_le x m) 1 0 + 1 ≤ cond (nat_le x n) 1 0 = comes x m n is h in
    omega (arith, reached_count-cons x xs m, reached_count-cons x xs n, reached_count-later xs m n (omega arith))
reached_count-rose (x ∷ xs) m n h (suc k, within, is) =
    let here : cond (nat_le x m) 1 0 ≤ cond (nat_le x n) 1 0 = stays x m n (omega arith) in
    omega (
      arith,
      reached_count-cons x xs m,
      reached_count-cons x xs n,
      reached_count-rose xs m n h (k, omega (arith, within), is),
    )

same_test : (x m n : ℕ) → m ≤ n → n ≤ m + 1 → (x ≡ n → ⊥) → ◌≡◌ {A = ℕ} (cond (nat_le x n) 1 0) (cond (nat_le x m) 1 0)
same_test x m n h k isnt = grind (arith, nat_tests)

-- one that comes to no kept number reaches no more
pub reached_count-same : (xs : List ℕ) (m n : ℕ) → m ≤ n → n ≤ m + 1 → (Contains xs n → ⊥)
    → reached_count xs n ≡ reached_count xs m
reached_count-same [] m n h k isnt = omega arith
reached_count-same (x ∷ xs) m n h k isnt =
    let here : ◌≡◌ {A = ℕ} (cond (nat_le x n) 1 0) (cond (nat_le x m) 1 0) =
    same_test x m n h k (λ e. isnt (zero, omega arith, e)) in
    let more : reached_count xs n ≡ reached_count xs m =
    reached_count-same xs m n h k (λ c. isnt (suc c.0, omega (arith, c.1), c.2)) in
    omega (arith, reached_count-cons x xs m, reached_count-cons x xs n)

small_if_kept : (xs : List ℕ) (n : ℕ) → ((k : ℕ) → slice_index xs k < 2 ^ 32) → Contains xs n → n < 2 ^ 32
small_if_kept xs n small c =
    omega (arith, c.2, get_or_default xs c.0 n 0 c.1, small c.0)

-- A kept number is a u32, so it is never the greatest u64, at which the count stops. Here `seen` is the list as a
-- slice.
pub next_fails : (xs seen : List ℕ) (n now : ℕ) (b : Bool) → seen ≡ xs → ((k : ℕ) → slice_index seen k < 2 ^ 32)
    → now ≡ min (n + 1) (2 ^ 64 - 1) → (IsTrue b ↔ Contains seen now) → IsTrue b ↔ Contains xs (n + 1)
next_fails xs seen n now b same small e found =
    let P : List ℕ → ℕ → Type 0 = λ l m. Contains l m in (
      λ t. let c = found.0 t in
          subst (λ l. P l (n + 1)) same (subst (P seen) (omega (arith, small_if_kept seen now small c)) c),
      λ c. let d = subst (λ l. P l (n + 1)) (sym same) c in
          found.1 (subst (P seen) (omega (arith, small_if_kept seen (n + 1) small d)) d),
    )

pub next_rose : (xs seen : List ℕ) (n now : ℕ) → seen ≡ xs → ((k : ℕ) → slice_index seen k < 2 ^ 32)
    → now ≡ min (n + 1) (2 ^ 64 - 1) → Contains seen now → reached_count xs n + 1 ≤ reached_count xs now
next_rose xs seen n now same small e c =
    reached_count-rose xs n now (omega (arith, small_if_kept seen now small c))
    (subst (λ (l : List ℕ). Contains l now) same c)

pub next_stays : (xs seen : List ℕ) (n now : ℕ) (b : Bool) → seen ≡ xs → n < 2 ^ 64 → now ≡ min (n + 1) (2 ^ 64 - 1)
    → (IsTrue b ↔ Contains seen now) → IsFalse b → reached_count xs now ≡ reached_count xs n
next_stays xs seen n now b same fits e found f =
    reached_count-same xs n now (omega arith) (omega arith)
    (λ c. let t : b ≡ true = found.1 (subst (λ (l : List ℕ). Contains l now) (sym same) c) in
    let wrong : true ≡ false = sym t ∙ f in cc)
