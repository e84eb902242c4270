-- The grammar of the bytes: how bytes stand to it, in one tree, and what the other crates read off. What is no plain
-- byte is a breaker: it begins a unit in mode Text, whatever the mode was.
use Rattle.std.specs.Prelude.{ℕ, ◌-◌, Bool, List, [], ◌∷◌, if◌then◌else◌, ◌==◌, nat_le, Option, Some, None}
use Rattle.cept_codes.specs.declared.command.Command.TheVariants as command
use Rattle.cept_codes.specs.declared.item.Reason.TheVariants.{BadParameter}
use Rattle.cept_codes.specs.declared.item.Said.TheVariants.{Command as Says, Refused}
use Rattle.cept_parser.specs.declared.context.Mode.TheVariants.{Text}
use Rattle.cept_parser.specs.declared.context.Context.{Context}
use Rattle.cept_parser.specs.declared.context.Outcome.{Outcome}
use Rattle.cept_parser.specs.declared.fit.Fit.TheVariants.{Open}
use Rattle.cept_parser.specs.Bytes.{is_plain, outcome, is_fit, is_whole, is_longer, Table, unsaid, complete}
use Rattle.cept_parser.specs.Bytes.{then_plain, sequence, saying}
use Rattle.cept_parser.specs.Context.{start_context}
use Rattle.cept_parser.specs.Controls.{one_byte}
use Rattle.cept_parser.specs.Escape.{escape}
use Rattle.cept_parser.specs.Csi.{csi}
use Rattle.cept_parser.specs.Units.{us_unit}
use Rattle.cept_parser.specs.Runs.{run_unit}

-- 12 c: RPT, the six low bits of a byte of columns 4 to 7
unfoldable pub repetition : Context → Table
repetition x = then_plain x (λ c. complete (
    if nat_le 0x40 c then outcome x Text (Says (command.Repeat (c - 0x40))) else
    outcome x Text (Refused BadParameter)))

-- after 9B or 1B 5B: CSI
unfoldable pub csi_unit : Context → Table
csi_unit x = saying (sequence 0x40 7) (λ u. outcome x Text (csi u))

-- after 1B: ESC
abbrev pub after_escape : Context → Table
after_escape x [] = unsaid x Open
after_escape x (a ∷ u) =
    if a == 0x5B then csi_unit x u else  -- CSI
    saying (sequence 0x30 3) (λ v. outcome x Text (escape v)) (a ∷ u)

-- what stands wholly after 1B, and what begins so
unfoldable pub escape_unit : Context → List ℕ → Option Outcome
escape_unit x u = let s = after_escape x u in if is_whole s.fit then Some s.outcome else None

unfoldable pub begins_escape : List ℕ → Bool
begins_escape u = is_fit (after_escape start_context u).fit

-- after a breaker
abbrev pub after_breaker : Context → ℕ → Table
after_breaker x a u =
    if a == 0x12 then repetition x u else  -- RPT
    if a == 0x1B then after_escape x u else  -- ESC
    if a == 0x1F then us_unit x u else  -- US
    if a == 0x9B then csi_unit x u else  -- CSI
    complete (outcome x Text (one_byte a)) u

-- how bytes stand to the grammar
abbrev pub standing : Context → Table
standing x [] = unsaid x Open
standing x (a ∷ u) = if is_plain a then run_unit x.mode x a u else after_breaker x a u

-- what these bytes wholly are, with the context after them: a unit, a refused shape, or neither
unfoldable pub unit : Context → List ℕ → Option Outcome
unit x u = let s = standing x u in if is_whole s.fit then Some s.outcome else None

-- these bytes are the beginning of a unit or of a refused shape, or the whole of one
unfoldable pub fits : Context → List ℕ → Bool
fits x u = is_fit (standing x u).fit

-- these bytes are a whole unit, and a further byte fits after them
unfoldable pub grows : Context → List ℕ → Bool
grows x u = is_longer (standing x u).fit
