use Rattle.cept_codes.specs.declared.look.Look.{Look}
use Rattle.cept_flash.proofs.TurnedPlaces.{AreTurned}
use Rattle.cept_flash.proofs.blink.mark_turning.Given as goal
use Rattle.std.proofs.Common.{List}
use Rattle.cept_flash.specs.Flashing.{AreFlashing}

-- of the places that were seen, those are marked that turn, and no place that doesn't
abbrev pub invariant-loop-flashing : goal.invariant-loop-flashing
invariant-loop-flashing l =
    (looks : List (List Look)) → AreFlashing looks l.fn.flashing 960
    → AreTurned looks l.before l.after l.fn.flashing l.marks l.flashing-index
