-- How the dispatch (this project's own) hands a command to what takes it: strokes are left in the caller's list.
use Rattle.std.specs.Prelude.{◌≡◌, List, []}
use Rattle.cept_codes.specs.declared.command.Command.{Command}
use Rattle.cept_codes.specs.declared.stroke.Stroke.{Stroke}
use Rattle.cept_codes.specs.Command.{IsValidCommand}

-- a valid command, and no stroke yet
pub record CanTake (command : Command) (strokes : List Stroke) : Type 0 where
  pub valid : IsValidCommand command
  pub empty : strokes ≡ []
