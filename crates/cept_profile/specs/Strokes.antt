-- Strokes (own): the changes that the commands make to the page.
use Rattle.std.specs.Prelude.{List, [], ◌∷◌, ◌++◌, reverse}
use Rattle.cept_codes.specs.declared.command.Command.{Command}
use Rattle.cept_codes.specs.declared.stroke.Stroke.{Stroke}
use Rattle.cept_profile.specs.Control.{ControlState, state_for_effect, effect, control_back}

-- the strokes of one more command
abbrev pub strokes_of : ControlState → Command → List Stroke
strokes_of s command = (effect (state_for_effect s command) command).1

-- the strokes of the commands, the newest first
abbrev pub strokes_back : List Command → List Stroke
strokes_back [] = []
strokes_back (command ∷ earlier) = reverse (strokes_of (control_back earlier) command) ++ strokes_back earlier

-- all strokes that the commands make, in order
abbrev pub strokes_in : List Command → List Stroke
strokes_in history = reverse (strokes_back (reverse history))
