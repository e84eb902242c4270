-- A drawing (this project's own): its figures, and the first line that is outside the grammar. Lines are counted from 1.
use Rattle.std.specs.Prelude.{ℕ, ◌≡◌, ◌&&◌, ◌==◌, Bool, nat_lt, List, [], ◌∷◌, codes, bytes_eq, Option, Some, None}
use Rattle.std.specs.Prelude.{Result, Ok, Err, if◌then◌else◌}
use Rattle.std.specs.List.{AllByRecursion, flat_map}
use Rattle.std.specs.Option.{ok_or, option_flatten, option_map, option_to_list, option_transpose, option_zip}
use Rattle.std.specs.Result.{result_ok}
use Rattle.cept_codes.specs.declared.line_reason.LineReason.{LineReason}
use Rattle.cept_codes.specs.declared.line_reason.LineReason.TheVariants as reasons
use Rattle.cept_plot.specs.declared.drawing.DrawFault.{DrawFault}
use Rattle.cept_plot.specs.declared.drawing.DrawFault.TheVariants as faults
use Rattle.cept_plot.specs.declared.figure.Figure.{Figure}
use Rattle.cept_plot.specs.declared.figure.Figure.TheVariants as figures
use Rattle.cept_plot.specs.declared.figure.Point.{Point}
use Rattle.cept_plot.specs.Figures.{IsValidFigure, points_after}
use Rattle.cept_words.specs.Faults.{Fault, fault_from}
use Rattle.cept_words.specs.Lines.{lines, number, words}

-- ---- what a line means

-- the point of two numbers, where it is on the field
abbrev pub point_of : Option ℕ → Option ℕ → Option Point
point_of (Some x) (Some y) = if nat_lt x 80 && nat_lt y 72 then Some (record { x = x; y = y }) else None
point_of _ _ = None

-- the point of two words
abbrev pub point : List ℕ → List ℕ → Option Point
point v w = point_of (number v) (number w)

-- a figure of the point of two words, and of the points of four words
abbrev pub of_two : (Point → Figure) → List (List ℕ) → Result Figure LineReason
of_two figure (a ∷ b ∷ []) = ok_or (option_map figure (point a b)) reasons.BadNumber
of_two figure _ = Err reasons.WrongCount

abbrev pub of_four : (Point → Point → Figure) → List (List ℕ) → Result Figure LineReason
of_four figure (a ∷ b ∷ c ∷ d ∷ []) =
    ok_or (option_map (λ points. figure points.0 points.1) (option_zip (point a b) (point c d))) reasons.BadNumber
of_four figure _ = Err reasons.WrongCount

-- the figure of a word and of the words after it
unfoldable pub figure_of : List ℕ → List (List ℕ) → Result Figure LineReason
figure_of word more =
    if bytes_eq word (codes "plot") then of_two figures.Plot more else
    if bytes_eq word (codes "unplot") then of_two figures.Unplot more else
    if bytes_eq word (codes "line") then of_four figures.Line more else
    if bytes_eq word (codes "box") then of_four figures.Sides more else
    if bytes_eq word (codes "wipe") then of_four figures.Wipe more else
    Err reasons.UnknownWord

-- the figure of words
abbrev pub figure_of_words : List (List ℕ) → Result Figure LineReason
figure_of_words [] = Err reasons.UnknownWord
figure_of_words (word ∷ more) = figure_of word more

-- what a line means: an empty line and one that begins with 2/3 stand for nothing
unfoldable pub line_meaning : List ℕ → Result (Option Figure) LineReason
line_meaning [] = Ok None
line_meaning (a ∷ more) = if a == 0x23 then Ok None else option_transpose (Some (figure_of_words (words (a ∷ more))))

-- ---- what a drawing means

-- the figures of a drawing: those of its lines that mean one
abbrev pub figures_of : List ℕ → List Figure
figures_of bytes = flat_map (λ line. option_to_list (option_flatten (result_ok (line_meaning line)))) (lines bytes)

-- the first line of a drawing that is outside the grammar
abbrev pub first_fault : List ℕ → Option Fault
first_fault bytes = fault_from line_meaning 1 (lines bytes)

-- an answer says the first fault of a drawing, or is free: out of memory
abbrev pub SaysFault : Option Fault → DrawFault → Type 0
SaysFault first (faults.BadLine line reason) = first ≡ Some (record { line = line; reason = reason })
SaysFault first faults.NoMemory = Unit {0}

-- each figure is on the field
abbrev pub AreValidFigures : List Figure → Type 0
AreValidFigures list = AllByRecursion IsValidFigure list

-- a set of points after figures, one after the other
abbrev pub points_after_all : (ℕ → ℕ → Bool) → List Figure → ℕ → ℕ → Bool
points_after_all was [] x y = was x y
points_after_all was (figure ∷ more) x y = points_after_all (points_after was figure) more x y
