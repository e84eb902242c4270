-- Decimal digits of small numbers, and hexadecimal digits of words, byte by byte.
use Rattle.std.proofs.Common.{◌≡◌, ℕ, zero, suc, ◌+◌, ◌/◌, ◌%◌, ◌^◌, ◌<◌, ◌==◌, ◌&&◌, Bool, true, List, [], ◌∷◌, ◌++◌}
use Rattle.std.proofs.Common.{◌≤◌, decimal, get_or, inl, inr, refl, sym, ◌∙◌, ap, arith}
use Rattle.std.proofs.Math.Nat.{div-one}
use Rattle.std.proofs.Math.Pow.{mod-mod-pow}
use Rattle.std.proofs.lemmas.Bool.{and_parts, cases_lt}
use Rattle.std.proofs.lemmas.Bool.Decides.{nat_tests}
use Rattle.std.proofs.lemmas.Fmt.{decimal_digit, decimal_step}
use Rattle.std.proofs.lemmas.Nat.{field_of, shr-shr}
use Rattle.std.specs.Int.{to_be_bytes, w64}
use Rattle.std.specs.List.{flat_map}
use Rattle.cept_report.specs.declared.line.TheConstants.{HEX_DIGITS}
use Rattle.cept_report.specs.Text.{hex_digit, hex_byte, hex_word}

-- the last digit, and those before it
pub ruleset decimal_digits = (decimal_digit, decimal_step)

-- a number of two digits
pub two_digits : (n : ℕ) → 10 ≤ n → n < 100 → decimal n ≡ (48 + n / 10) ∷ (48 + n % 10) ∷ []
two_digits n low high =
    decimal_step n (omega arith) (omega arith) ∙ ap (λ (l : List ℕ). l ++ (48 + n % 10) ∷ []) (decimal_digit (n / 10) (omega arith))

-- the table of digits is right for all numbers below this one
are_digits : ℕ → Bool
are_digits zero = true
are_digits (suc n) = (get_or HEX_DIGITS n 0 == hex_digit n) && are_digits n

digit_at : (n : ℕ) → are_digits n ≡ true → (k : ℕ) → k < n → get_or HEX_DIGITS k 0 ≡ hex_digit k
unfolding are_digits
digit_at zero t k h = absurd (omega arith)
digit_at (suc n) t k h =
    let parts = and_parts (get_or HEX_DIGITS n 0 == hex_digit n) (are_digits n) t in
    elim (cases_lt k n) [
      | inl below ↦ digit_at n parts.1 k below
      | inr past ↦ let same : k ≡ n = omega arith in
          let here : get_or HEX_DIGITS n 0 ≡ hex_digit n = grind (arith, nat_tests) in
          ap (λ j. get_or HEX_DIGITS j 0) same ∙ here ∙ ap hex_digit (sym same)
    ]

all_digits : are_digits 16 ≡ true
unfolding are_digits
all_digits = refl

pub digit_of_table : (k : ℕ) → k < 16 → get_or HEX_DIGITS k 0 ≡ hex_digit k
digit_of_table k h = digit_at 16 all_digits k h

-- the two digits of the byte whose lowest bit is bit k
byte_digits : (n k : ℕ) → hex_byte (n / 2 ^ k % 256)
    ≡ hex_digit (n / 2 ^ (k + 4) % 16) ∷ hex_digit (n / 2 ^ k % 16) ∷ []
byte_digits n k =
    let high : n / 2 ^ k % 256 / 16 ≡ n / 2 ^ (k + 4) % 16 =
    field_of (n / 2 ^ k) 4 4 ∙ ap (λ m. m % 16) (shr-shr n k 4) in
    let low : n / 2 ^ k % 256 % 16 ≡ n / 2 ^ k % 16 = mod-mod-pow (n / 2 ^ k) 4 4 in
    ap (λ d. hex_digit d ∷ hex_digit (n / 2 ^ k % 256 % 16) ∷ []) high
    ∙ ap (λ d. hex_digit (n / 2 ^ (k + 4) % 16) ∷ hex_digit d ∷ []) low

-- one byte more before the digits of the lower ones
before : (n k : ℕ) (lower digits : List ℕ) → lower ≡ digits → hex_byte (n / 2 ^ k % 256) ++ lower
    ≡ hex_digit (n / 2 ^ (k + 4) % 16) ∷ hex_digit (n / 2 ^ k % 16) ∷ digits
before n k lower digits e = ap (λ l. l ++ lower) (byte_digits n k)
    ∙ ap (λ l. hex_digit (n / 2 ^ (k + 4) % 16) ∷ hex_digit (n / 2 ^ k % 16) ∷ l) e

-- the bytes of a word, the highest first, give its digits
pub hex_word-by_bytes : (n : ℕ) → flat_map hex_byte (to_be_bytes w64 n) ≡ hex_word n
unfolding hex_word
hex_word-by_bytes n =
    before n 56 _ _ (before n 48 _ _ (before n 40 _ _ (before n 32 _ _ (before n 24 _ _ (before n 16 _ _
    (before n 8 _ _ (ap (λ m. hex_byte (m % 256)) (sym (div-one n)) ∙ byte_digits n 0)))))))
