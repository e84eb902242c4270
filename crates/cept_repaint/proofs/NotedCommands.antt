-- What is noted of a command, where anything may be noted: control first, and then what its strokes change.
use Rattle.std.proofs.Common.{◌≡◌, Option, Some, None, List, ap, ◌∙◌}
use Rattle.std.specs.Prelude.{option_map}
use Rattle.cept_codes.specs.declared.command.Command.{Command}
use Rattle.cept_codes.specs.declared.stroke.Stroke.{Stroke}
use Rattle.cept_profile.specs.NotedStrokes.{with_command, with_strokes}
use Rattle.cept_profile.specs.OldValues.{OldValues, with_control}
use Rattle.cept_profile.specs.State.{Page, State}
use Rattle.cept_profile.specs.Strokes.{strokes_of}

-- what strokes change on a page
abbrev noted_of : Page → List Stroke → Option OldValues → Option OldValues
noted_of p xs noted = option_map (with_strokes p xs) noted

-- the strokes are those of a command, and the page is that of a state
pub noted-strokes_of : (was s : State) (command : Command) (xs : List Stroke) (before after : Option OldValues)
    → was ≡ s → xs ≡ strokes_of was.control command → after ≡ option_map (with_strokes was.page xs) before
    → after ≡ option_map (with_strokes s.page (strokes_of s.control command)) before
noted-strokes_of was s command xs before after same strokes noted =
    noted ∙ ap (λ (l : List Stroke). noted_of was.page l before) strokes
    ∙ ap (λ (t : State). noted_of t.page (strokes_of t.control command) before) same

-- control is noted first, and then what the strokes change
pub noted-command : (s : State) (command : Command) (before first after : Option OldValues)
    → first ≡ option_map (with_control s.control) before
    → after ≡ option_map (with_strokes s.page (strokes_of s.control command)) first
    → after ≡ option_map (with_command s command) before
noted-command s command None first after control strokes =
    strokes ∙ ap (noted_of s.page (strokes_of s.control command)) control
noted-command s command (Some old) first after control strokes =
    strokes ∙ ap (noted_of s.page (strokes_of s.control command)) control

-- the same, where values may be noted
pub noted-some : (s : State) (command : Command) (old new : OldValues)
    → Some new ≡ option_map (with_command s command) (Some old) → new ≡ with_command s command old
noted-some s command old new noted = cc
