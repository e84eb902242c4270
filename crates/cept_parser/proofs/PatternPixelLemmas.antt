-- Patterns are the same that have the same pixels, and a line is the number of the bytes that it is written in.
use Rattle.std.proofs.Common.{◌≡◌, ℕ, zero, suc, ◌+◌, ◌-◌, ◌*◌, ◌/◌, ◌%◌, ◌^◌, ◌<◌, ◌≤◌, cond, eqb, List}
use Rattle.std.proofs.Common.{length, slice_index, refl, sym, ap, ◌∙◌, arith, inl, inr, IsTrue}
use Rattle.std.proofs.lemmas.Bool.{cases_Bool, cases_lt, eqb-true}
use Rattle.std.proofs.lemmas.Bool.Decides.{nat_tests}
use Rattle.std.proofs.lemmas.List.{ext_get_or}
use Rattle.std.proofs.lemmas.Nat.Bits.{bit_at_cat_low, bit_at_cat_high, same_from_bits_below}
use Rattle.std.specs.Int.{bit_at}
use Rattle.cept_codes.specs.declared.look.Pattern.{Pattern}
use Rattle.cept_codes.specs.Look.{bit_of, pixel, is_pattern_size, IsValidPattern}
use Rattle.cept_drcs.specs.Block.{six}
use Rattle.cept_parser.specs.Spelling.{half_line_byte}
use Rattle.cept_parser.proofs.SpelledLemmas.{six_back, six_within, size_cases}

-- ---- the same pixels

-- the plane, line and column of a bit
record IsPixelAt (w h planes n : ℕ) : Type 0 where
  plane : ℕ
  line : ℕ
  column : ℕ
  in_planes : plane < planes
  in_lines : line < h
  in_columns : column < w
  number : n ≡ (plane * h + line) * w + column

pixel_at : (w h planes n : ℕ) → IsTrue (is_pattern_size w h) → n < w * h * planes → IsPixelAt w h planes n
pixel_at w h planes n t l =
    size_cases (λ a b. n < a * b * planes → IsPixelAt a b planes n) w h t
    (λ m. record {
      plane = n / 144;
      line = n / 12 % 12;
      column = n % 12;
      in_planes = omega arith;
      in_lines = omega arith;
      in_columns = omega arith;
      number = omega arith;
    })
    (λ m. record {
      plane = n / 120;
      line = n / 12 % 10;
      column = n % 12;
      in_planes = omega arith;
      in_lines = omega arith;
      in_columns = omega arith;
      number = omega arith;
    })
    (λ m. record {
      plane = n / 72;
      line = n / 6 % 12;
      column = n % 6;
      in_planes = omega arith;
      in_lines = omega arith;
      in_columns = omega arith;
      number = omega arith;
    })
    (λ m. record {
      plane = n / 60;
      line = n / 6 % 10;
      column = n % 6;
      in_planes = omega arith;
      in_lines = omega arith;
      in_columns = omega arith;
      number = omega arith;
    })
    (λ m. record {
      plane = n / 30;
      line = n / 6 % 5;
      column = n % 6;
      in_planes = omega arith;
      in_lines = omega arith;
      in_columns = omega arith;
      number = omega arith;
    })
    (λ m. record {
      plane = n / 36;
      line = n / 6 % 6;
      column = n % 6;
      in_planes = omega arith;
      in_lines = omega arith;
      in_columns = omega arith;
      number = omega arith;
    })
    l

-- words with the same bits are the same
same_word : (a b : List ℕ) (k : ℕ) → slice_index a k < 2 ^ 64 → slice_index b k < 2 ^ 64
    → ((n : ℕ) → bit_of a n ≡ bit_of b n) → slice_index a k ≡ slice_index b k
same_word a b k f g same =
    same_from_bits_below 64 (slice_index a k) (slice_index b k) f g (λ i l.
    let q : (64 * k + i) / 64 ≡ k = omega arith in
    let r : (64 * k + i) % 64 ≡ i = omega arith in
    let s : bit_of a (64 * k + i) ≡ bit_of b (64 * k + i) = same (64 * k + i) in
    rw (q, r) at s)

same_words : (a b : List ℕ) → length a ≡ length b → ((k : ℕ) → slice_index a k < 2 ^ 64)
    → ((k : ℕ) → slice_index b k < 2 ^ 64) → ((n : ℕ) → bit_of a n ≡ bit_of b n) → a ≡ b
same_words a b e f g same = ext_get_or 0 a b e (λ k l. same_word a b k (f k) (g k) same)

bit_is : (t : Pattern) (w h p y x n : ℕ) → t.w ≡ w → t.h ≡ h → n ≡ (p * h + y) * w + x
    → bit_of t.bits n ≡ pixel t p y x
bit_is t w h p y x n e f s =
    ap (bit_of t.bits)
    (s ∙ ap (λ k. (p * k + y) * w + x) (sym f) ∙ ap (λ k. (p * t.h + y) * k + x) (sym e))

-- valid patterns of the same form and with the same pixels are the same
pub same_patterns : (a b : Pattern) → IsValidPattern a → IsValidPattern b → a.w ≡ b.w → a.h ≡ b.h → a.planes ≡ b.planes
    → ((p y x : ℕ) → p < a.planes → y < a.h → x < a.w → pixel a p y x ≡ pixel b p y x) → a ≡ b
same_patterns a b v u ew eh ep same =
    let within : (n : ℕ) → n < a.w * a.h * a.planes → bit_of a.bits n ≡ bit_of b.bits n = λ n l.
    let at = pixel_at a.w a.h a.planes n v.size l in
    bit_is a a.w a.h at.plane at.line at.column n refl refl at.number
    ∙ same at.plane at.line at.column at.in_planes at.in_lines at.in_columns
    ∙ sym (bit_is b a.w a.h at.plane at.line at.column n (sym ew) (sym eh) at.number) in
    let past : (n : ℕ) → a.w * a.h * a.planes ≤ n → bit_of a.bits n ≡ bit_of b.bits n = λ n l.
    v.clear n l ∙ sym (u.clear n (past_too ew eh ep l)) in
    let bits : a.bits ≡ b.bits =
    same_words a.bits b.bits (v.words ∙ sym u.words) v.fits u.fits (λ n.
    elim (cases_lt n (a.w * a.h * a.planes)) [ inl l ↦ within n l | inr l ↦ past n l ]) in
    same_fields ew eh ep bits
  where
    made : ℕ → ℕ → ℕ → List ℕ → Pattern
    made w h k c = record { w = w; h = h; planes = k; bits = c }

    same_fields : {w h k w' h' k' : ℕ} {c d : List ℕ} → w ≡ w' → h ≡ h' → k ≡ k' → c ≡ d
        → made w h k c ≡ made w' h' k' d
    same_fields e f g i = rw (e, f, g, i) refl

    past_too : {w h k w' h' k' n : ℕ} → w ≡ w' → h ≡ h' → k ≡ k' → w * h * k ≤ n → w' * h' * k' ≤ n
    past_too e f g l = rw (e, f, g) at l

-- ---- half lines

pixel_small : (t : Pattern) (p y x : ℕ) → pixel t p y x ≤ 1
pixel_small t p y x = omega arith

-- the byte of a half line carries six pixels
pub half_within : (t : Pattern) (p y x : ℕ) → (0x40 ≤ half_line_byte t p y x) × (half_line_byte t p y x ≤ 0x7F)
unfolding half_line_byte
half_within t p y x =
    six_within (pixel t p y x) (pixel t p y (x + 1)) (pixel t p y (x + 2)) (pixel t p y (x + 3)) (pixel t p y (x + 4))
    (pixel t p y (x + 5)) (pixel_small t p y x) (pixel_small t p y (x + 1)) (pixel_small t p y (x + 2))
    (pixel_small t p y (x + 3)) (pixel_small t p y (x + 4)) (pixel_small t p y (x + 5))

-- six bits as a number, the first in the lowest
abbrev six_number : ℕ → ℕ → ℕ → ℕ → ℕ → ℕ → ℕ
six_number a b c d e f = a + 2 * b + 4 * c + 8 * d + 16 * e + 32 * f

six_is : (a b c d e f : ℕ) → a ≤ 1 → b ≤ 1 → c ≤ 1 → d ≤ 1 → e ≤ 1 → f ≤ 1
    → six (0x40 + (32 * a + 16 * b + 8 * c) + (4 * d + 2 * e + f)) ≡ six_number a b c d e f
six_is a b c d e f p q r s t u =
    let n = six_back a b c d e f p q r s t u in
    let n5 = n.0 in
    let n4 = n.1 in
    let n3 = n.2 in
    let n2 = n.3 in
    let n1 = n.4 in
    let n0 = n.5 in
    omega arith

-- its bits
six_bit : (a b c d e f : ℕ) → a ≤ 1 → b ≤ 1 → c ≤ 1 → d ≤ 1 → e ≤ 1 → f ≤ 1 → let n = six_number a b c d e f in
    (bit_at n 0 ≡ a) × (bit_at n 1 ≡ b) × (bit_at n 2 ≡ c) × (bit_at n 3 ≡ d) × (bit_at n 4 ≡ e) × (bit_at n 5 ≡ f)
six_bit a b c d e f p q r s t u = (omega arith, omega arith, omega arith, omega arith, omega arith, omega arith)

six_below : (a b c d e f : ℕ) → a ≤ 1 → b ≤ 1 → c ≤ 1 → d ≤ 1 → e ≤ 1 → f ≤ 1 → six_number a b c d e f < 64
six_below a b c d e f p q r s t u = omega arith

-- the pixels of a half line from column o on
abbrev half_number : Pattern → ℕ → ℕ → ℕ → ℕ
half_number t p y o =
    six_number (pixel t p y o) (pixel t p y (o + 1)) (pixel t p y (o + 2)) (pixel t p y (o + 3)) (pixel t p y (o + 4))
    (pixel t p y (o + 5))

half_is : (t : Pattern) (p y o : ℕ) → six (half_line_byte t p y o) ≡ half_number t p y o
unfolding half_line_byte
half_is t p y o =
    six_is (pixel t p y o) (pixel t p y (o + 1)) (pixel t p y (o + 2)) (pixel t p y (o + 3)) (pixel t p y (o + 4))
    (pixel t p y (o + 5)) (pixel_small t p y o) (pixel_small t p y (o + 1)) (pixel_small t p y (o + 2))
    (pixel_small t p y (o + 3)) (pixel_small t p y (o + 4)) (pixel_small t p y (o + 5))

half_below : (t : Pattern) (p y o : ℕ) → six (half_line_byte t p y o) < 64
half_below t p y o =
    let b = six_below (pixel t p y o) (pixel t p y (o + 1)) (pixel t p y (o + 2)) (pixel t p y (o + 3))
    (pixel t p y (o + 4)) (pixel t p y (o + 5)) (pixel_small t p y o) (pixel_small t p y (o + 1))
    (pixel_small t p y (o + 2)) (pixel_small t p y (o + 3)) (pixel_small t p y (o + 4)) (pixel_small t p y (o + 5)) in
    rw (half_is t p y o) b

half_bit : (t : Pattern) (p y o x : ℕ) → x < 6 → bit_at (six (half_line_byte t p y o)) x ≡ pixel t p y (o + x)
half_bit t p y o x l =
    let b = six_bit (pixel t p y o) (pixel t p y (o + 1)) (pixel t p y (o + 2)) (pixel t p y (o + 3))
    (pixel t p y (o + 4)) (pixel t p y (o + 5)) (pixel_small t p y o) (pixel_small t p y (o + 1))
    (pixel_small t p y (o + 2)) (pixel_small t p y (o + 3)) (pixel_small t p y (o + 4)) (pixel_small t p y (o + 5)) in
    ap (λ n. bit_at n x) (half_is t p y o)
    ∙ each_of_six (bit_at (half_number t p y o)) (λ k. pixel t p y (o + k)) x l
    (b.0 ∙ ap (pixel t p y) (omega arith)) b.1 b.2 b.3 b.4 b.5
  where
    each_of_six : (f g : ℕ → ℕ) (x : ℕ) → x < 6 → f 0 ≡ g 0 → f 1 ≡ g 1 → f 2 ≡ g 2 → f 3 ≡ g 3 → f 4 ≡ g 4 → f 5 ≡ g 5
        → f x ≡ g x
    each_of_six f g zero l a b c d e h = a
    each_of_six f g (suc zero) l a b c d e h = b
    each_of_six f g (suc (suc zero)) l a b c d e h = c
    each_of_six f g (suc (suc (suc zero))) l a b c d e h = d
    each_of_six f g (suc (suc (suc (suc zero)))) l a b c d e h = e
    each_of_six f g (suc (suc (suc (suc (suc zero))))) l a b c d e h = h
    each_of_six f g (suc (suc (suc (suc (suc (suc n)))))) l a b c d e h = absurd (omega arith)

-- ---- lines

-- a line as a number: the pixel of column x is bit x
unfoldable pub line_number : Pattern → ℕ → ℕ → ℕ
line_number t p y =
    cond (eqb t.w 6) (six (half_line_byte t p y 0)) (six (half_line_byte t p y 0) + 64 * six (half_line_byte t p y 6))

two_halves : (t : Pattern) (p y x : ℕ) → x < 12
    → bit_at (six (half_line_byte t p y 0) + 64 * six (half_line_byte t p y 6)) x ≡ pixel t p y x
two_halves t p y x l =
    let low = six (half_line_byte t p y 0) in
    let high = six (half_line_byte t p y 6) in
    let order : low + 64 * high ≡ high * 2 ^ 6 + low = omega arith in
    elim (cases_lt x 6) [
      | inl m ↦ ap (λ n. bit_at n x) order ∙ bit_at_cat_low high 6 low x m ∙ half_bit t p y 0 x m
          ∙ ap (pixel t p y) (omega arith)
      | inr m ↦ ap (λ n. bit_at n x) order ∙ bit_at_cat_high high 6 low x (half_below t p y 0) m
          ∙ half_bit t p y 6 (x - 6) (omega arith) ∙ ap (pixel t p y) (omega arith)
    ]

pub line_bit : (t : Pattern) (p y x : ℕ) → IsTrue (is_pattern_size t.w t.h) → x < t.w
    → line_number t p y / 2 ^ x % 2 ≡ pixel t p y x
unfolding line_number
line_bit t p y x v l =
    let wide : t.w ≤ 12 = grind (arith, nat_tests) in
    elim (cases_Bool (eqb t.w 6)) [
      | inl e ↦ rw e (half_bit t p y 0 x (omega (arith, eqb-true t.w 6 e)) ∙ ap (pixel t p y) (omega arith))
      | inr e ↦ rw e (two_halves t p y x (omega arith))
    ]
