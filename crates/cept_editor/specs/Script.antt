-- A script (this project's own): its edits, and the first line that is outside the grammar. Lines are counted from 1.
use Rattle.std.specs.Prelude.{◌≡◌, ℕ, ◌+◌, ◌≤◌, ◌<◌, List, [], ◌∷◌, ◌++◌, length, Option, Some, Result, Ok, Err, IsOk}
use Rattle.std.specs.List.{AllByRecursion}
use Rattle.cept_codes.specs.declared.line_reason.LineReason.{LineReason}
use Rattle.cept_codes.specs.Table.{entry}
use Rattle.cept_words.specs.Faults.{Fault, fault_from}
use Rattle.cept_words.specs.Lines.{lines}
use Rattle.cept_editor.specs.Meaning.{Step, IsValidStep, line_meaning}

-- an edit: the number of its line, and what it does
pub record EditLine : Type 0 where
  pub line : ℕ
  pub step : Step

-- the edit of a line of this number, if it is one
abbrev pub edit_of : ℕ → Result (Option Step) LineReason → List EditLine
edit_of n (Ok (Some step)) = record { line = n; step = step } ∷ []
edit_of n _ = []

-- the edits of lines, the first of which has this number
unfoldable pub edits_from : ℕ → List (List ℕ) → List EditLine
edits_from n [] = []
edits_from n (line ∷ more) = edit_of n (line_meaning line) ++ edits_from (n + 1) more

-- the edits of a script
abbrev pub edits : List ℕ → List EditLine
edits bytes = edits_from 1 (lines bytes)

-- the first line of a script that is outside the grammar
abbrev pub first_fault : List ℕ → Option Fault
first_fault bytes = fault_from line_meaning 1 (lines bytes)

-- each command of each edit is valid
abbrev pub AreValidEdits : List EditLine → Type 0
AreValidEdits edits = AllByRecursion (λ e. IsValidStep e.step) edits

-- this line of lines, counted from 1
abbrev pub numbered_line : List (List ℕ) → ℕ → List ℕ
numbered_line ls n = entry [] 1 ls n

-- this is the first fault of lines: its line is outside the grammar for its reason, and none before it is outside
pub record IsFirstFault (ls : List (List ℕ)) (fault : Fault) : Type 0 where
  pub from : 1 ≤ fault.line
  pub to : fault.line ≤ length ls
  pub reason : line_meaning (numbered_line ls fault.line) ≡ Err fault.reason
  pub first : (n : ℕ) → 1 ≤ n → n < fault.line → IsOk (line_meaning (numbered_line ls n))
