-- The state to which another unwinds by what a noter has noted, none where it takes no notes (this project's own). Private
-- clauses alone cite this file.
use Rattle.std.specs.Prelude.{Option, option_map}
use Rattle.cept_profile.specs.OldValues.{OldValues, unwound}
use Rattle.cept_profile.specs.State.{State}

-- the state to which this one unwinds by what is noted, where anything may be noted
unfoldable pub state_behind : Option OldValues → State → Option State
state_behind noted s = option_map (unwound s) noted
