-- One more command: what it makes of the lists and of control.
use Rattle.std.proofs.Common.{◌≡◌, List, [], ◌∷◌, ◌++◌, reverse, ap}
use Rattle.std.proofs.lemmas.List.{reverse-append}
use Rattle.cept_codes.specs.declared.command.Command.{Command}
use Rattle.cept_profile.specs.Control.{control, control_back, control_after}

-- the newest of the commands comes first
pub reverse-one_more : {X : Type 0} (xs : List X) (x : X) → reverse (xs ++ x ∷ []) ≡ x ∷ reverse xs
reverse-one_more xs x = reverse-append xs (x ∷ [])

pub control-one_more : (history : List Command) (command : Command) → control (history ++ command ∷ [])
    ≡ control_after (control history) command
control-one_more history command = ap control_back (reverse-one_more history command)
