-- Worked tables: each word of a drawing, the ranges of its numbers, and the reasons, by computing.
use Rattle.std.proofs.Common.{◌≡◌, ℕ, List, [], ◌∷◌, ◌++◌, codes, map, Option, Some, None, Ok, Err, refl}
use Rattle.std.specs.Prelude.{Result, decimal, filter, is_ok}
use Rattle.std.specs.Fmt.{digits}
use Rattle.std.specs.List.{range_with_len}
use Rattle.cept_codes.specs.declared.line_reason.LineReason.{LineReason}
use Rattle.cept_codes.specs.declared.line_reason.LineReason.TheVariants.{BadNumber, UnknownWord, WrongCount}
use Rattle.cept_plot.specs.declared.figure.Figure.{Figure}
use Rattle.cept_plot.specs.declared.figure.Figure.TheVariants.{Line, Plot, Sides, Unplot, Wipe}
use Rattle.cept_plot.specs.declared.figure.Point.{Point}
use Rattle.cept_plot.specs.Drawings.{figure_of, line_meaning}

-- lines, each with what it means
abbrev mean : List (List ℕ × Result (Option Figure) LineReason) → Type 0
mean cases =
    map (λ (c : List ℕ × Result (Option Figure) LineReason). line_meaning c.0) cases
    ≡ map (λ (c : List ℕ × Result (Option Figure) LineReason). c.1) cases

abbrev at : ℕ → ℕ → Point
at x y = record { x = x; y = y }

abbrev figure : Figure → Result (Option Figure) LineReason
figure f = Ok (Some f)

each_word : mean (
    (codes "plot 79 71", figure (Plot (at 79 71)))
    ∷ (codes "unplot 0 71", figure (Unplot (at 0 71)))
    ∷ (codes "line 1 2 3 4", figure (Line (at 1 2) (at 3 4)))
    ∷ (codes "box 79 0 00 71", figure (Sides (at 79 0) (at 0 71)))
    ∷ (codes "wipe 1 2 3 4", figure (Wipe (at 1 2) (at 3 4)))
    ∷ ([], Ok None)
    ∷ (codes "#", Ok None)
    ∷ (codes "# plot 80 0", Ok None) ∷ [])
unfolding line_meaning figure_of
each_word = refl

-- the reasons, in the order in which they are tried
each_reason : mean (
    (codes "Plot 0 0", Err UnknownWord)
    ∷ (codes "plott 80", Err UnknownWord)
    ∷ (codes "plot", Err WrongCount)
    ∷ (codes "plot 80", Err WrongCount)
    ∷ (codes "plot 0 0 80", Err WrongCount)
    ∷ (codes "unplot 0", Err WrongCount)
    ∷ (codes "line 0 0 0", Err WrongCount)
    ∷ (codes "box 0 0 0 0 0", Err WrongCount)
    ∷ (codes "wipe 80 0", Err WrongCount)
    ∷ (codes "plot 0 x", Err BadNumber)
    ∷ (codes "plot  0", Err BadNumber)
    ∷ (codes "plot 007 0", Err BadNumber)
    ∷ (codes "line 0 0 0 -1", Err BadNumber) ∷ [])
unfolding line_meaning figure_of
each_reason = refl

-- ---- ranges

-- the numbers from 0 to 99 that may stand between these words
abbrev read_between : List ℕ → List ℕ → List ℕ
read_between before after = filter (λ n. is_ok (line_meaning (before ++ decimal n ++ after))) (range_with_len 0 100)

-- what stands before a number and after it, each time with the numbers 0 to 79, or 0 to 71
abbrev xs : List (List ℕ × List ℕ) → Type 0
xs places =
    map (λ (p : List ℕ × List ℕ). read_between p.0 p.1) places
    ≡ map (λ (p : List ℕ × List ℕ). range_with_len 0 80) places

abbrev ys : List (List ℕ × List ℕ) → Type 0
ys places =
    map (λ (p : List ℕ × List ℕ). read_between p.0 p.1) places
    ≡ map (λ (p : List ℕ × List ℕ). range_with_len 0 72) places

ranges_across : xs (
    (codes "plot ", codes " 71") ∷ (codes "unplot ", codes " 71")
    ∷ (codes "line ", codes " 71 79 71") ∷ (codes "line 79 71 ", codes " 71")
    ∷ (codes "box ", codes " 71 79 71") ∷ (codes "box 79 71 ", codes " 71")
    ∷ (codes "wipe ", codes " 71 79 71") ∷ (codes "wipe 79 71 ", codes " 71") ∷ [])
unfolding line_meaning figure_of digits
ranges_across = refl

ranges_down : ys (
    (codes "plot 79 ", []) ∷ (codes "unplot 79 ", [])
    ∷ (codes "line 79 ", codes " 79 71") ∷ (codes "line 79 71 79 ", [])
    ∷ (codes "box 79 ", codes " 79 71") ∷ (codes "box 79 71 79 ", [])
    ∷ (codes "wipe 79 ", codes " 79 71") ∷ (codes "wipe 79 71 79 ", []) ∷ [])
unfolding line_meaning figure_of digits
ranges_down = refl
