-- The edits that a decoder keeps (this project's own): the states that they lead back and on to, none where no edit was made.
use Rattle.std.specs.Prelude.{Option, Some, None, List, []}
use Rattle.cept_profile.specs.State.{State}
use Rattle.cept_undo.specs.Past.{future, past}
use Rattle.cept_live.specs.declared.edits.Editing.{Editing}

-- the states to which undo leads
abbrev pub past_of : Option Editing → State → List State
past_of None screen = []
past_of (Some editing) screen = past editing.undo screen

-- the states to which redo leads
abbrev pub future_of : Option Editing → State → List State
future_of None screen = []
future_of (Some editing) screen = future editing.undo screen
