-- What private clauses say beside `Order` (this project's own).
use Rattle.std.specs.Prelude.{ℕ, ◌≡◌, ◌-◌, ◌<◌, ◌≤◌, ◌^◌, List, length, Result, Ok, Err}
use Rattle.std.specs.Prelude.{IfOk}
use Rattle.cept_codes.specs.Command.{IsValidCommand}
use Rattle.cept_codes.specs.declared.line_reason.LineReason.{LineReason}
use Rattle.cept_editor.specs.declared.order.Order.{Order}
use Rattle.cept_editor.specs.declared.order.Order.TheVariants as orders
use Rattle.cept_editor.specs.declared.places.Span.{Span}
use Rattle.cept_editor.specs.Meaning.{Step}
use Rattle.cept_editor.specs.Order.{command_of, order_step, IsSoundOrder}

-- the place of bytes that end there in a script
abbrev pub place_before : ℕ → List ℕ → Span
place_before end bytes = record { start = end - length bytes; end = end }

-- an order without bytes, whose command is valid if it has one
abbrev pub IsPlainOrder : Order → Type 0
IsPlainOrder (orders.UndoRedo which) = Unit {0}
IsPlainOrder (orders.One brief) = IsValidCommand (command_of brief)
IsPlainOrder (orders.Text span) = ⊥
IsPlainOrder (orders.Raw span) = ⊥

-- few bytes, which end there in a script
pub record StandsBefore (end : ℕ) (bytes : List ℕ) : Type 0 where
  pub few : length bytes < 2 ^ 31
  pub within : length bytes ≤ end

-- what a value decides, or the reason for which there is none
abbrev pub decided : {A : Type 0} → Result A LineReason → (A → Result Step LineReason) → Result Step LineReason
decided (Ok a) decide = decide a
decided (Err reason) decide = Err reason

-- what an order of a line means, where these bytes stand at its place, or its reason
abbrev pub step_meant : List ℕ → Result Order LineReason → Result Step LineReason
step_meant bytes (Ok order) = Ok (order_step bytes order)
step_meant bytes (Err reason) = Err reason

-- what was read is an order without bytes, or a reason, and means this
abbrev pub ReadsPlain : List ℕ → Result Order LineReason → Result Step LineReason → Type 0
ReadsPlain bytes result meaning = (step_meant bytes result ≡ meaning) × IfOk result IsPlainOrder

-- what was read is an order whose bytes are these and end there in a script, if it has any, or a reason, and means this
abbrev pub ReadsPlaced : ℕ → List ℕ → Result Order LineReason → Result Step LineReason → Type 0
ReadsPlaced end bytes result meaning =
    (step_meant bytes result ≡ meaning) × IfOk result (IsSoundOrder bytes (place_before end bytes))
