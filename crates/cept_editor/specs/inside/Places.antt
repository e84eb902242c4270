-- What private clauses say beside `Places` (this project's own).
use Rattle.std.specs.Prelude.{ℕ, ◌≡◌, ◌≤◌, ◌-◌, List, [], ◌∷◌, ◌++◌, map, length, slice_range}
use Rattle.std.specs.Prelude.{Option, Some, None, Result, Ok, Err}
use Rattle.cept_codes.specs.declared.line_reason.LineReason.{LineReason}
use Rattle.cept_editor.specs.declared.order.Order.{Order}
use Rattle.cept_editor.specs.declared.places.OrderLine.{OrderLine}
use Rattle.cept_editor.specs.Meaning.{Step}
use Rattle.cept_editor.specs.Script.{edits, first_fault}
use Rattle.cept_editor.specs.declared.script.ScriptFault.{ScriptFault}
use Rattle.cept_editor.specs.declared.script.ScriptFault.TheVariants as faults
use Rattle.cept_editor.specs.Places.{step_at, IsPlacedOrder, edit_at, ArePlacedLines}

-- bytes stand in a script, and end there
pub record EndsAt (script : List ℕ) (end : ℕ) (bytes : List ℕ) : Type 0 where
  pub long : length bytes ≤ end
  pub within : end ≤ length script
  pub is : bytes ≡ slice_range script (end - length bytes) end

-- what an order of a line of a script means, or its reason
abbrev pub placed_step : List ℕ → Result Order LineReason → Result Step LineReason
placed_step script (Ok order) = Ok (step_at script order)
placed_step script (Err reason) = Err reason

-- what an order of a line of a script means, if it has one, or its reason
abbrev pub placed_line : List ℕ → Result (Option Order) LineReason → Result (Option Step) LineReason
placed_line script (Ok None) = Ok None
placed_line script (Ok (Some order)) = Ok (Some (step_at script order))
placed_line script (Err reason) = Err reason

-- what was kept of a line that means this and has this number
abbrev pub HasKept : List ℕ → ℕ → Result (Option Step) LineReason → List OrderLine → List OrderLine → Type 0
HasKept script n (Ok None) before after = after ≡ before
HasKept script n (Ok (Some step)) before after =
    (l : OrderLine) × (after ≡ before ++ l ∷ []) × (edit_at script l ≡ record { line = n; step = step })
    × IsPlacedOrder script l.order
HasKept script n (Err reason) before after = ⊥

-- why a line of this number that means this isn't kept
abbrev pub IsUnkept : Result (Option Step) LineReason → ℕ → ScriptFault → Type 0
IsUnkept meaning line (faults.BadLine n reason) = (n ≡ line) × (meaning ≡ Err reason)
IsUnkept meaning line faults.NoMemory = Unit {0}

-- the orders of a script without a fault
pub record HasOrders (script : List ℕ) (ls : List OrderLine) : Type 0 where
  pub edits : edits script ≡ map (edit_at script) ls
  pub fault : first_fault script ≡ None
  pub places : ArePlacedLines script ls
