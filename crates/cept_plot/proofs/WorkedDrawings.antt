-- Lines of drawings, worked.
use Rattle.std.proofs.Common.{◌≡◌, ℕ, [], ◌∷◌, ◌++◌, Option, Some, Err, refl}
use Rattle.std.specs.Prelude.{codes}
use Rattle.cept_codes.specs.declared.line_reason.LineReason.{LineReason}
use Rattle.cept_codes.specs.declared.line_reason.LineReason.TheVariants as reasons
use Rattle.cept_plot.specs.declared.figure.Figure.TheVariants as figures
use Rattle.cept_plot.specs.declared.figure.Point.{Point}
use Rattle.cept_words.specs.Faults.{Fault, fault_from}
use Rattle.cept_plot.specs.Drawings.{figure_of, figures_of, first_fault, line_meaning}

abbrev at : ℕ → ℕ → Point
at x y = record { x = x; y = y }

abbrev fault : ℕ → LineReason → Option Fault
fault n reason = Some (record { line = n; reason = reason })

-- an empty line and a remark are no figures, a last line may lack its end, and leading zeros count as digits
whole : figures_of (codes "# a note" ++ 0x0A ∷ 0x0A ∷ codes "plot 05 07" ++ 0x0A ∷ codes "line 0 0 79 71")
    ≡ figures.Plot (at 5 7) ∷ figures.Line (at 0 0) (at 79 71) ∷ []
unfolding line_meaning figure_of
whole = refl

-- each line counts, and the first reason is said
fourth : first_fault (codes "# a note" ++ 0x0A ∷ 0x0A ∷ codes "plot 05 07" ++ 0x0A ∷ codes "plot 80")
    ≡ fault 4 reasons.WrongCount
unfolding fault_from line_meaning figure_of
fourth = refl

second : first_fault (codes "plot 0 0" ++ 0x0A ∷ codes "plot 80 0" ++ 0x0A ∷ codes "draw 0 0")
    ≡ fault 2 reasons.BadNumber
unfolding fault_from line_meaning figure_of
second = refl

-- the ranges of both numbers, and at most two digits
below : line_meaning (codes "plot 0 72") ≡ Err reasons.BadNumber
unfolding line_meaning figure_of
below = refl

three : line_meaning (codes "plot 000 0") ≡ Err reasons.BadNumber
unfolding line_meaning figure_of
three = refl

sides : line_meaning (codes "wipe 0 0 80 0") ≡ Err reasons.BadNumber
unfolding line_meaning figure_of
sides = refl

-- words are cut at each single space
spaces : line_meaning (codes "plot  0 0") ≡ Err reasons.WrongCount
unfolding line_meaning figure_of
spaces = refl

after_it : line_meaning (codes "plot 0 0 ") ≡ Err reasons.WrongCount
unfolding line_meaning figure_of
after_it = refl

before_it : line_meaning (codes " plot 0 0") ≡ Err reasons.UnknownWord
unfolding line_meaning figure_of
before_it = refl

few : line_meaning (codes "line 0 0 1") ≡ Err reasons.WrongCount
unfolding line_meaning figure_of
few = refl

unknown : line_meaning (codes "text A") ≡ Err reasons.UnknownWord
unfolding line_meaning figure_of
unknown = refl
