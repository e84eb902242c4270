-- Places of the screen and their numbers in reading order: each gives back the other.
use Rattle.std.proofs.Common.{◌≡◌, ℕ, ◌<◌, ◌⊎◌, ◌↔◌, inl, inr, ap, arith}
use Rattle.std.proofs.lemmas.Bool.{cases_lt}
use Rattle.cept_codes.specs.Place.{Place, OnScreen, number, place_of}

pub number-place_of : (n : ℕ) → number (place_of n).row (place_of n).column ≡ n
number-place_of n = omega arith

pub OnScreen-place_of : (n : ℕ) → n < 960 → OnScreen (place_of n).row (place_of n).column
OnScreen-place_of n below = record {
  from_top = omega arith;
  to_bottom = omega arith;
  from_left =
      omega arith;
  to_right = omega arith;
}

pub number-lt : (r c : ℕ) → OnScreen r c → number r c < 960
number-lt r c on = omega (arith, on)

pub row-place_of : (r c : ℕ) → OnScreen r c → (place_of (number r c)).row ≡ r
row-place_of r c on = omega (arith, on)

pub column-place_of : (r c : ℕ) → OnScreen r c → (place_of (number r c)).column ≡ c
column-place_of r c on = omega (arith, on)

pub place_of-number : (p : Place) → OnScreen p.row p.column → place_of (number p.row p.column) ≡ p
place_of-number p on = ap (λ (x : ℕ × ℕ). let q : Place = record { row = x.0; column = x.1 } in
    q) (λ i. (row-place_of p.row p.column on i, column-place_of p.row p.column on i))

-- places of one number are one place
pub same_row : (r c q k : ℕ) → OnScreen r c → OnScreen q k → number r c ≡ number q k → r ≡ q
same_row r c q k on at e = omega (arith, on, at)

pub same_column : (r c q k : ℕ) → OnScreen r c → OnScreen q k → number r c ≡ number q k → c ≡ k
same_column r c q k on at e = omega (arith, on, at)

pub same_number : (n m : ℕ) → place_of n ≡ place_of m → n ≡ m
same_number n m e = let er = ap (λ (p : Place). p.row) e in let ec = ap (λ (p : Place). p.column) e in
    omega (arith, er, ec)

-- the lesser number stands in a row above, or further left in the same row
pub number-lt_cases : (r c q k : ℕ) → OnScreen r c → OnScreen q k → number r c < number q k
    → (r < q) ⊎ ((r ≡ q) × (c < k))
number-lt_cases r c q k on at lt = elim (cases_lt r q) [
  | inl above ↦ inl above
  | inr below ↦ inr (omega (arith, on, at), omega (arith, on, at))
]

pub number-lt_above : (r c q k : ℕ) → OnScreen r c → OnScreen q k → r < q → number r c < number q k
number-lt_above r c q k on at lt = omega (arith, on, at)

pub number-lt_left : (r c q k : ℕ) → OnScreen r c → OnScreen q k → r ≡ q → c < k → number r c < number q k
number-lt_left r c q k on at e lt = omega (arith, on, at)

pub number-lt_from_cases : (r c q k : ℕ) → OnScreen r c → OnScreen q k → (r < q) ⊎ ((r ≡ q) × (c < k))
    → number r c < number q k
number-lt_from_cases r c q k on at (inl above) = number-lt_above r c q k on at above
number-lt_from_cases r c q k on at (inr left) = number-lt_left r c q k on at left.0 left.1

pub number-ordered : (r c q k : ℕ) → OnScreen r c → OnScreen q k
    → ((number r c < number q k) ↔ ((r < q) ⊎ ((r ≡ q) × (c < k))))
number-ordered r c q k on at = (number-lt_cases r c q k on at, number-lt_from_cases r c q k on at)
