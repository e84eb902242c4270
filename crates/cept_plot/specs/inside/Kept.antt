-- What is kept of a line while a drawing is read (this project's own).
use Rattle.std.specs.Prelude.{ℕ, ◌≡◌, List, [], ◌∷◌, ◌++◌, Option, Some, None, Result, Ok, Err}
use Rattle.cept_codes.specs.declared.line_reason.LineReason.{LineReason}
use Rattle.cept_plot.specs.declared.drawing.DrawFault.{DrawFault}
use Rattle.cept_plot.specs.declared.drawing.DrawFault.TheVariants as faults
use Rattle.cept_plot.specs.declared.figure.Figure.{Figure}
use Rattle.cept_plot.specs.Drawings.{AreValidFigures, figures_of, first_fault}
use Rattle.cept_plot.specs.Figures.{IsValidFigure}

-- what was kept of a line that means this
abbrev pub HasKept : Result (Option Figure) LineReason → List Figure → List Figure → Type 0
HasKept (Ok None) before after = after ≡ before
HasKept (Ok (Some figure)) before after = (after ≡ before ++ figure ∷ []) × IsValidFigure figure
HasKept (Err reason) before after = ⊥

-- why a line of this number that means this isn't kept
abbrev pub IsUnkept : Result (Option Figure) LineReason → ℕ → DrawFault → Type 0
IsUnkept meaning line (faults.BadLine n reason) = (n ≡ line) × (meaning ≡ Err reason)
IsUnkept meaning line faults.NoMemory = Unit {0}

-- what a value decides, or the reason for which there is none
abbrev pub figured : {A : Type 0} → Result A LineReason → (A → Figure) → Result Figure LineReason
figured (Ok a) figure = Ok (figure a)
figured (Err reason) figure = Err reason

-- the figures of a drawing without a fault
pub record HasFigures (bytes : List ℕ) (list : List Figure) : Type 0 where
  pub figures : figures_of bytes ≡ list
  pub fault : first_fault bytes ≡ None
  pub valid : AreValidFigures list
