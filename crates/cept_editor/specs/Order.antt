-- Commands in brief, orders, and what a parser goes on to say (this project's own).
use Rattle.std.specs.Prelude.{ℕ, ◌≡◌, ◌<◌, ◌^◌, true, List, [], ◌∷◌, ◌++◌, length, map}
use Rattle.std.specs.Prelude.{false, IsSome}
use Rattle.std.specs.Option.{unwrap_or}
use Rattle.std.specs.List.{AllByRecursion, list_all}
use Rattle.cept_codes.specs.Command.{IsValidCommand}
use Rattle.cept_codes.specs.declared.command.Command.{Command}
use Rattle.cept_codes.specs.declared.command.Command.TheVariants as commands
use Rattle.cept_codes.specs.declared.item.Item.{Item}
use Rattle.cept_parser.specs.Bytes.{is_between}
use Rattle.cept_parser.specs.Context.{start_context}
use Rattle.cept_parser.specs.Items.{closing_items, commands_of, commands as commands_of_bytes}
use Rattle.cept_parser.specs.State.{ParserState, reading_with, parser_after, pending_reading}
use Rattle.cept_editor.specs.declared.brief.Brief.{Brief}
use Rattle.cept_editor.specs.declared.brief.Brief.TheVariants as briefs
use Rattle.cept_editor.specs.declared.order.Order.{Order}
use Rattle.cept_editor.specs.declared.order.Order.TheVariants as orders
use Rattle.cept_editor.specs.declared.places.Span.{Span}
use Rattle.cept_editor.specs.Meaning.{Step, UndoRedo, Edit, HasCommand, hex_bytes}

-- the command of a brief one
abbrev pub command_of : Brief → Command
command_of (briefs.Position row column) = commands.Position row column
command_of (briefs.DesignateC1 set) = commands.DesignateC1 set
command_of (briefs.C1 code) = commands.C1 code
command_of (briefs.FullRow code) = commands.FullRow code
command_of (briefs.FullScreen code) = commands.FullScreen code
command_of (briefs.Table number) = commands.Table number
command_of (briefs.Entry entry rgb) = commands.Entry entry rgb
command_of (briefs.Repeat times) = commands.Repeat times
command_of briefs.Cancel = commands.Cancel
command_of briefs.Clear = commands.Clear
command_of briefs.Home = commands.Home
command_of briefs.Return = commands.Return
command_of briefs.Back = commands.Back
command_of briefs.Forward = commands.Forward
command_of briefs.Down = commands.Down
command_of briefs.Up = commands.Up
command_of (briefs.Protect on) = commands.Protect on
command_of (briefs.AreaCreate first last) = commands.AreaCreate first last
command_of (briefs.AreaDelete first last) = commands.AreaDelete first last
command_of briefs.ScrollUp = commands.ScrollUp
command_of briefs.ScrollDown = commands.ScrollDown
command_of (briefs.Implicit on) = commands.Implicit on
command_of (briefs.Revision number) = commands.Revision number

-- the bytes of hexadecimal digits, none where they can't be read
abbrev pub raw_bytes : List ℕ → List ℕ
raw_bytes digits = unwrap_or (hex_bytes digits) []

-- the commands that write a text: G0 locked to the left bytes, and then each sign
abbrev pub text_commands : List ℕ → List Command
text_commands text = commands.LockLeft 0 ∷ map commands.Graphic text

-- the step of an order, where these bytes stand at its place
abbrev pub order_step : List ℕ → Order → Step
order_step bytes (orders.UndoRedo which) = UndoRedo which
order_step bytes (orders.One brief) = Edit (command_of brief ∷ [])
order_step bytes (orders.Text span) = Edit (text_commands bytes)
order_step bytes (orders.Raw span) = Edit (commands_of_bytes (raw_bytes bytes))

-- a parser before the first byte
abbrev pub start_state : ParserState
start_state = record { place = 0; context = start_context; pending = []; finished = false }

-- the items that bytes and then the end of the input add
unfoldable pub items_from : ParserState → List ℕ → List Item
items_from s [] = closing_items (pending_reading s)
items_from s (byte ∷ bytes) = (reading_with s byte).items ++ items_from (parser_after s byte) bytes

-- hexadecimal digits of bytes whose commands a parser says one after the other, all of them valid
pub record AreSoundDigits (digits : List ℕ) : Type 0 where
  pub few : length digits < 2 ^ 31
  pub readable : IsSome (hex_bytes digits)
  pub said : commands_of (items_from start_state (raw_bytes digits)) ≡ commands_of_bytes (raw_bytes digits)
  pub valid : AllByRecursion IsValidCommand (commands_of_bytes (raw_bytes digits))

-- an order whose commands are valid, and can be given one after the other, where these bytes stand at this place and it
-- is the order's; hexadecimal digits give one at least
abbrev pub IsSoundOrder : List ℕ → Span → Order → Type 0
IsSoundOrder bytes place (orders.UndoRedo which) = Unit {0}
IsSoundOrder bytes place (orders.One brief) = IsValidCommand (command_of brief)
IsSoundOrder bytes place (orders.Text span) = (span ≡ place) × (list_all (is_between 0x20 0x7E) bytes ≡ true)
IsSoundOrder bytes place (orders.Raw span) =
    (span ≡ place) × AreSoundDigits bytes × HasCommand (order_step bytes (orders.Raw span))
