-- Where the bytes of orders stand in a script, and its edits by their orders (this project's own).
use Rattle.std.specs.Prelude.{ℕ, ◌≤◌, ◌^◌, List, length, slice_range}
use Rattle.std.specs.List.{AllByRecursion}
use Rattle.cept_editor.specs.declared.order.Order.{Order}
use Rattle.cept_editor.specs.declared.order.Order.TheVariants as orders
use Rattle.cept_editor.specs.declared.places.OrderLine.{OrderLine}
use Rattle.cept_editor.specs.declared.places.Span.{Span}
use Rattle.cept_editor.specs.Meaning.{Step}
use Rattle.cept_editor.specs.Order.{order_step, IsSoundOrder}
use Rattle.cept_editor.specs.Script.{EditLine}

-- a place in a script
pub record LiesIn (script : List ℕ) (span : Span) : Type 0 where
  pub forward : span.start ≤ span.end
  pub within : span.end ≤ length script

-- the bytes at a place
abbrev pub bytes_at : List ℕ → Span → List ℕ
bytes_at script span = slice_range script span.start span.end

-- the place of an order's bytes, the script's start where it has none
abbrev pub span_of : Order → Span
span_of (orders.UndoRedo which) = record { start = 0; end = 0 }
span_of (orders.One brief) = record { start = 0; end = 0 }
span_of (orders.Text span) = span
span_of (orders.Raw span) = span

-- the step of an order of a script
abbrev pub step_at : List ℕ → Order → Step
step_at script order = order_step (bytes_at script (span_of order)) order

-- the bytes of an order stand in the script, and its commands are valid
pub record IsPlacedOrder (script : List ℕ) (order : Order) : Type 0 where
  pub lies : LiesIn script (span_of order)
  pub sound : IsSoundOrder (bytes_at script (span_of order)) (span_of order) order

-- the edit of a line of a script
abbrev pub edit_at : List ℕ → OrderLine → EditLine
edit_at script l = record { line = l.line; step = step_at script l.order }

-- orders of a script of at most 2^20 bytes
pub record ArePlacedLines (script : List ℕ) (ls : List OrderLine) : Type 0 where
  pub few : length script ≤ 2 ^ 20
  pub count : length ls ≤ length script
  pub each : AllByRecursion (λ l. IsPlacedOrder script l.order) ls
