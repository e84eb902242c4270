-- Numbers in words of 64 bits: their bits.
use Rattle.std.proofs.Common.{◌≡◌, ℕ, zero, suc, ◌+◌, ◌*◌, ◌/◌, ◌%◌, ◌^◌, ◌<◌, ◌≤◌, inl, inr}
use Rattle.std.proofs.Common.{length, slice_index, refl, sym, ap, ◌∙◌, arith}
use Rattle.std.proofs.lemmas.Bool.{cases_lt}
use Rattle.std.proofs.lemmas.List.{get_or_past}
use Rattle.std.proofs.lemmas.Nat.{shr-shr}
use Rattle.std.proofs.lemmas.Nat.Bits.{bit_at_cat_low, bit_at_above, bit_at-zero}
use Rattle.std.specs.Int.{bit_at}
use Rattle.cept_codes.specs.Look.{bit_of}
use Rattle.cept_drcs.specs.Strips.{words}

pub length-words : (k n : ℕ) → length (words k n) ≡ k
unfolding words
length-words zero n = refl
length-words (suc k) n = ap suc (length-words k (n / 2 ^ 64))

-- the word of an index
pub word_at : (k n i : ℕ) → i < k → slice_index (words k n) i ≡ n / 2 ^ (64 * i) % 2 ^ 64
unfolding words
word_at zero n i h = absurd (omega arith)
word_at (suc k) n zero h = omega arith
word_at (suc k) n (suc i) h =
    let e : 64 + 64 * i ≡ 64 * suc i = omega arith in
    word_at k (n / 2 ^ 64) i (omega arith) ∙ ap (λ m. m % 2 ^ 64) (shr-shr n 64 (64 * i) ∙ ap (λ j. n / 2 ^ j) e)

pub word_past : (k n i : ℕ) → k ≤ i → slice_index (words k n) i ≡ 0
word_past k n i h = get_or_past (words k n) i 0 (omega (arith, length-words k n))

pub word_below : (k n i : ℕ) → slice_index (words k n) i < 2 ^ 64
word_below k n i =
    elim (cases_lt i k) [
      | inl l ↦ omega (arith, word_at k n i l)
      | inr l ↦ omega (arith, word_past k n i l)
    ]

bit_of_word : (n i : ℕ) → i < 64 → bit_at (n % 2 ^ 64) i ≡ bit_at n i
bit_of_word n i h =
    let e : n / 2 ^ 64 * 2 ^ 64 + n % 2 ^ 64 ≡ n = omega arith in
    sym (bit_at_cat_low (n / 2 ^ 64) 64 (n % 2 ^ 64) i h) ∙ ap (λ m. bit_at m i) e

-- a bit within the words
pub bit_of-words : (k n j : ℕ) → j < 64 * k → bit_of (words k n) j ≡ bit_at n j
bit_of-words k n j h =
    let i = j / 64 in
    let r = j % 64 in
    let e : 64 * i + r ≡ j = omega arith in
    ap (λ m. bit_at m r) (word_at k n i (omega arith))
    ∙ bit_of_word (n / 2 ^ (64 * i)) r (omega arith)
    ∙ ap (λ m. m % 2) (shr-shr n (64 * i) r)
    ∙ ap (bit_at n) e

pub bit_of-words_past : (k n j : ℕ) → 64 * k ≤ j → bit_of (words k n) j ≡ 0
bit_of-words_past k n j h = ap (λ m. bit_at m (j % 64)) (word_past k n (j / 64) (omega arith)) ∙ bit_at-zero (j % 64)

-- no bit is set from the place on that bounds the number
pub clear_behind : (k n m j : ℕ) → n < 2 ^ m → m ≤ j → bit_of (words k n) j ≡ 0
clear_behind k n m j h l =
    elim (cases_lt j (64 * k)) [
      | inl s ↦ bit_of-words k n j s ∙ bit_at_above n m j h l
      | inr s ↦ bit_of-words_past k n j s
    ]
