-- What is left of the commands of hexadecimal digits (this project's own).
use Rattle.std.specs.Prelude.{ℕ, ◌≡◌, ◌+◌, ◌<◌, ◌≤◌, ◌^◌, false, List, [], ◌++◌, length, drop}
use Rattle.std.specs.Prelude.{Option, Some, None, IsSome, map, if◌then◌else◌}
use Rattle.std.specs.Option.{option_to_list}
use Rattle.cept_codes.specs.declared.command.Command.{Command}
use Rattle.cept_codes.specs.declared.command.Command.TheVariants.{Graphic}
use Rattle.cept_parser.specs.Items.{commands_of}
use Rattle.cept_editor.specs.declared.decoding.Decoding.{Decoding}
use Rattle.cept_editor.specs.Meaning.{hex_bytes}
use Rattle.cept_editor.specs.Order.{raw_bytes, items_from}

-- the commands that the parser will say
abbrev pub commands_to_come : Decoding → List Command
commands_to_come d = if d.ended then [] else commands_of (items_from d.parser (raw_bytes d.digits.now))

-- the commands that are left
abbrev pub commands_left : Decoding → List Command
commands_left d = commands_of (drop d.handed d.items.items) ++ commands_to_come d

-- the digits can be read, and the parser goes on until the end
pub record IsDecoding (d : Decoding) : Type 0 where
  pub readable : IsSome (hex_bytes d.digits.now)
  pub running : d.ended ≡ false → d.parser.finished ≡ false
  pub few : d.parser.place + length d.digits.now < 2 ^ 31
  pub handed : d.handed ≤ length d.items.items
  pub items : length d.items.items ≤ 2

-- the commands that are left, if digits are
abbrev pub decoding_commands : Option Decoding → List Command
decoding_commands None = []
decoding_commands (Some d) = commands_left d

-- digits are decoded, if there are any
abbrev pub IsDecodingIfAny : Option Decoding → Type 0
IsDecodingIfAny None = Unit {0}
IsDecodingIfAny (Some d) = IsDecoding d

-- one command, the signs of a text and the commands of digits, one after the other
abbrev pub commands_of_parts : Option Command → List ℕ → Option Decoding → List Command
commands_of_parts first text raw = option_to_list first ++ (map Graphic text ++ decoding_commands raw)
