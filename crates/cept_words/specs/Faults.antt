-- The first line of a script or a drawing that is outside its grammar (this project's own). Lines are counted from 1.
use Rattle.std.specs.Prelude.{ℕ, ◌+◌, List, [], ◌∷◌, Option, Some, None, Result, Ok, Err}
use Rattle.cept_codes.specs.declared.line_reason.LineReason.{LineReason}

-- a line outside the grammar: its number, and the first reason that holds of it
pub record Fault : Type 0 where
  pub line : ℕ
  pub reason : LineReason

-- the fault of a line of this number that means this, or else the one after it
abbrev pub fault_or : {A : Type 0} → ℕ → Result A LineReason → Option Fault → Option Fault
fault_or n (Ok meaning) later = later
fault_or n (Err reason) later = Some (record { line = n; reason = reason })

-- the first fault of lines by what each means, the first of which has this number
unfoldable pub fault_from : {A : Type 0} → (List ℕ → Result A LineReason) → ℕ → List (List ℕ) → Option Fault
fault_from meaning n [] = None
fault_from meaning n (line ∷ more) = fault_or n (meaning line) (fault_from meaning (n + 1) more)
