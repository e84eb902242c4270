-- The number of strips is the number of the lines that they make.
use Rattle.std.proofs.Common.{◌≡◌, ◌⊎◌, ℕ, zero, suc, ◌+◌, ◌*◌, ◌^◌, ◌≤◌, List}
use Rattle.std.proofs.Common.{[], ◌∷◌, ◌++◌}
use Rattle.std.proofs.Common.{length, map, get_or, refl, sym, ap, ◌∙◌, inl, inr, arith, append-nil}
use Rattle.std.specs.Option.{option_to_list}
use Rattle.cept_drcs.specs.Unit.{lines_from}
use Rattle.cept_drcs.specs.Loading.{closed_lines}
use Rattle.cept_drcs.specs.Strips.{strip_of, line_of_strips, in_pairs, left_over, number_of, whole_lines, half_of}
use Rattle.cept_drcs.proofs.Numbers.{line_more}
use Rattle.cept_drcs.proofs.StripWords.{number_more, number_clear}

-- ---- lines

lines_first : (w u l : ℕ) (ls : List ℕ) → 2 ^ w ≡ u → lines_from w 0 (l ∷ ls) ≡ l + u * lines_from w 0 ls
lines_first w u l ls e = line_more w l ls ∙ ap (λ z. lines_from w 0 ls * z + l) e ∙ omega arith

lines_none : (w n : ℕ) → lines_from w n [] ≡ 0
unfolding lines_from
lines_none w n = refl

-- ---- strips

number_of-nothing : (n i : ℕ) → number_of n i [] ≡ 0
number_of-nothing n i = number_clear n i [] (λ k h. refl)

number_behind : (n i x : ℕ) (ss : List ℕ) → number_of n (suc i) (x ∷ ss) ≡ number_of n i ss
unfolding number_of
number_behind zero i x ss = refl
number_behind (suc n) i x ss =
    let next : suc i + 1 ≡ suc (i + 1) = omega arith in
    ap (λ j. strip_of (get_or ss i 0) + 64 * number_of n j (x ∷ ss)) next
    ∙ ap (λ z. strip_of (get_or ss i 0) + 64 * z) (number_behind n (i + 1) x ss)

number_first : (n x : ℕ) (ss : List ℕ) → number_of (suc n) 0 (x ∷ ss) ≡ strip_of x + 64 * number_of n 0 ss
number_first n x ss = number_more n 0 (x ∷ ss) ∙ ap (λ z. strip_of x + 64 * z) (number_behind n 0 x ss)

-- ---- both

six_wide : (n : ℕ) (ss : List ℕ) → length ss ≤ n → lines_from 6 0 (map strip_of ss) ≡ number_of n 0 ss
six_wide n [] h = lines_none 6 0 ∙ sym (number_of-nothing n 0)
six_wide zero (x ∷ ss) h = absurd (omega arith)
six_wide (suc n) (x ∷ ss) h =
    lines_first 6 64 (strip_of x) (map strip_of ss) refl
    ∙ ap (λ z. strip_of x + 64 * z) (six_wide n ss (omega arith)) ∙ sym (number_first n x ss)

twelve_wide : (n : ℕ) (ss : List ℕ) → length ss ≤ n
    → lines_from 12 0 (in_pairs ss ++ option_to_list (left_over ss)) ≡ number_of n 0 ss
unfolding in_pairs left_over line_of_strips
twelve_wide n [] h = lines_none 12 0 ∙ sym (number_of-nothing n 0)
twelve_wide zero (x ∷ ss) h = absurd (omega arith)
twelve_wide (suc n) (x ∷ []) h =
    lines_first 12 4096 (strip_of x) [] refl
    ∙ (let none : strip_of x + 4096 * lines_from 12 0 [] ≡ strip_of x + 64 * number_of n 0 [] =
    omega (arith, lines_none 12 0, number_of-nothing n 0) in none)
    ∙ sym (number_first n x [])
twelve_wide (suc zero) (x ∷ y ∷ ss) h = absurd (omega arith)
twelve_wide (suc (suc n)) (x ∷ y ∷ ss) h =
    let rest = twelve_wide n ss (omega arith) in
    let whole : strip_of x + 64 * strip_of y + 4096 * lines_from 12 0 (in_pairs ss ++ option_to_list (left_over ss))
    ≡ strip_of x + 64 * number_of (suc n) 0 (y ∷ ss) = omega (arith, rest, number_first n y ss) in
    lines_first 12 4096 (strip_of x + 64 * strip_of y) (in_pairs ss ++ option_to_list (left_over ss)) refl
    ∙ whole ∙ sym (number_first (suc n) x (y ∷ ss))

pub number_is : (w n : ℕ) (ss : List ℕ) → (w ≡ 6) ⊎ (w ≡ 12) → length ss ≤ n
    → lines_from w 0 (closed_lines (whole_lines w ss) (half_of w ss)) ≡ number_of n 0 ss
number_is w n ss width h =
    elim width [
      | inl six ↦ ap (λ v. lines_from v 0 (closed_lines (whole_lines v ss) (half_of v ss))) six
          ∙ ap (lines_from 6 0) (append-nil (map strip_of ss)) ∙ six_wide n ss h
      | inr twelve ↦ ap (λ v. lines_from v 0 (closed_lines (whole_lines v ss) (half_of v ss))) twelve
          ∙ twelve_wide n ss h
    ]
