use Rattle.cept_flash.proofs.MarkedInTurn.{AreMarkedBelow}
use Rattle.cept_flash.proofs.ShownPlaces.{is_shown}
use Rattle.cept_flash.proofs.blink.mark_shown.Given as goal

-- of the places that were seen, those are marked that aren't blank
abbrev pub invariant-loop-n : goal.invariant-loop-n
invariant-loop-n l = AreMarkedBelow (is_shown l.kept.rows) l.marks l.n
