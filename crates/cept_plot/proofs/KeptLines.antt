-- Lines that were read one after the other.
use Rattle.std.proofs.Common.{◌≡◌, ℕ, ◌+◌, ◌≤◌, ◌==◌, true, List, [], ◌∷◌, ◌++◌, length}
use Rattle.std.proofs.Common.{Option, Some, None, Result, Ok, Err, refl, sym, ap, ◌∙◌, subst, arith}
use Rattle.std.specs.List.{flat_map}
use Rattle.std.specs.Option.{option_flatten, option_to_list}
use Rattle.std.specs.Result.{result_ok}
use Rattle.std.proofs.lemmas.Bool.{eqb-true}
use Rattle.std.proofs.lemmas.List.{append_assoc, append-nil}
use Rattle.cept_codes.specs.declared.line_reason.LineReason.{LineReason}
use Rattle.cept_words.specs.Cut.{IsFirstLine}
use Rattle.cept_words.specs.Lines.{lines}
use Rattle.cept_plot.specs.declared.drawing.DrawFault.{DrawFault}
use Rattle.cept_plot.specs.declared.drawing.DrawFault.TheVariants as faults
use Rattle.cept_plot.specs.declared.figure.Figure.{Figure}
use Rattle.cept_words.specs.Faults.{Fault, fault_from, fault_or}
use Rattle.cept_plot.specs.Drawings.{AreValidFigures, SaysFault}
use Rattle.cept_plot.specs.Drawings.{figures_of, first_fault, line_meaning}
use Rattle.cept_plot.specs.Figures.{IsValidFigure}
use Rattle.cept_plot.specs.inside.Kept.{HasFigures, HasKept, IsUnkept}

-- the figure of a line, if it has one
abbrev figure_in : Result (Option Figure) LineReason → List Figure
figure_in m = option_to_list (option_flatten (result_ok m))

-- the figures of lines
abbrev pub figures_in : List (List ℕ) → List Figure
figures_in ls = flat_map (λ line. figure_in (line_meaning line)) ls

-- so many lines were read, and these bytes are left
pub record HasRead (bytes : List ℕ) (list : List Figure) (n : ℕ) (rest : List ℕ) : Type 0 where
  pub figures : figures_of bytes ≡ list ++ figures_in (lines rest)
  pub fault : first_fault bytes ≡ fault_from line_meaning (n + 1) (lines rest)
  pub valid : AreValidFigures list
  pub number : n + length rest ≤ length bytes

pub no_length : (bytes : List ℕ) → (length bytes == 0) ≡ true → length bytes ≡ 0
no_length [] e = refl
no_length (a ∷ more) e = eqb-true (length (a ∷ more)) 0 e

-- ---- one line more

kept_figures : (list more rest : List Figure) (m : Result (Option Figure) LineReason) → HasKept m list more
    → list ++ (figure_in m ++ rest) ≡ more ++ rest
kept_figures list more rest (Ok None) kept = ap (λ (xs : List Figure). xs ++ rest) (sym kept)
kept_figures list more rest (Ok (Some figure)) kept =
    sym (append_assoc list (figure ∷ []) rest) ∙ ap (λ (xs : List Figure). xs ++ rest) (sym kept.0)
kept_figures list more rest (Err reason) kept = absurd kept

kept_fault : (list more : List Figure) (m : Result (Option Figure) LineReason) (n : ℕ) (later : Option Fault)
    → HasKept m list more → fault_or n m later ≡ later
kept_fault list more (Ok figure) n later kept = refl
kept_fault list more (Err reason) n later kept = absurd kept

one_more : (list : List Figure) (figure : Figure) → AreValidFigures list → IsValidFigure figure
    → AreValidFigures (list ++ figure ∷ [])
one_more [] figure all here = (here, tt)
one_more (f ∷ list) figure all here = (all.0, one_more list figure all.1 here)

kept_valid : (list more : List Figure) (m : Result (Option Figure) LineReason) → HasKept m list more
    → AreValidFigures list → AreValidFigures more
kept_valid list more (Ok None) kept all = subst AreValidFigures (sym kept) all
kept_valid list more (Ok (Some figure)) kept all = subst AreValidFigures (sym kept.0) (one_more list figure all kept.1)
kept_valid list more (Err reason) kept all = absurd kept

pub read_more : (bytes : List ℕ) (list more : List Figure) (n : ℕ) (left part rest : List ℕ)
    → HasRead bytes list n left → IsFirstLine left part rest → HasKept (line_meaning part) list more
    → HasRead bytes more (n + 1) rest
unfolding fault_from
read_more bytes list more n left part rest r first kept = record {
  figures =
      r.figures ∙ ap (λ (ls : List (List ℕ)). list ++ figures_in ls) first.lines
      ∙ kept_figures list more (figures_in (lines rest)) (line_meaning part) kept;
  fault =
      r.fault ∙ ap (λ (ls : List (List ℕ)). fault_from line_meaning (n + 1) ls) first.lines
      ∙ kept_fault list more (line_meaning part) (n + 1) (fault_from line_meaning (n + 1 + 1) (lines rest)) kept;
  valid = kept_valid list more (line_meaning part) kept r.valid;
  number = omega (arith, r.number, first.shorter);
}

-- ---- the first and the last

pub read_none : (bytes : List ℕ) (list : List Figure) → list ≡ [] → HasRead bytes list 0 bytes
read_none bytes list e =
    subst (λ (fs : List Figure). HasRead bytes fs 0 bytes) (sym e) (record {
      figures = refl;
      fault = refl;
      valid = tt;
      number = omega arith;
    })

pub read_all : (bytes : List ℕ) (list : List Figure) (n : ℕ) (left : List ℕ) → HasRead bytes list n left
    → length left ≡ 0 → HasFigures bytes list
unfolding fault_from
read_all bytes list n [] r e = record { figures = r.figures ∙ append-nil list; fault = r.fault; valid = r.valid }
read_all bytes list n (a ∷ left) r e = absurd (omega arith)

fault_said : (m : Result (Option Figure) LineReason) (n : ℕ) (first later : Option Fault) (fault : DrawFault)
    → first ≡ fault_or n m later → IsUnkept m n fault → SaysFault first fault
fault_said m n first later (faults.BadLine k reason) e u =
    e ∙ ap (λ (x : Result (Option Figure) LineReason). fault_or n x later) u.1
    ∙ ap (λ (j : ℕ). Some (record { line = j; reason = reason })) (sym u.0)
fault_said m n first later faults.NoMemory e u = tt

pub read_fault : (bytes : List ℕ) (list : List Figure) (n : ℕ) (left part rest : List ℕ) (fault : DrawFault)
    → HasRead bytes list n left → IsFirstLine left part rest → IsUnkept (line_meaning part) (n + 1) fault
    → SaysFault (first_fault bytes) fault
unfolding fault_from
read_fault bytes list n left part rest fault r first unkept =
    fault_said (line_meaning part) (n + 1) (first_fault bytes) (fault_from line_meaning (n + 1 + 1) (lines rest)) fault
    (r.fault ∙ ap (λ (ls : List (List ℕ)). fault_from line_meaning (n + 1) ls) first.lines) unkept
