use Rattle.std.proofs.Common.{false}
use Rattle.cept_codes.specs.Table.{HasMadeEntries}
use Rattle.cept_redraw.specs.Restored.{is_unwound}
use Rattle.cept_redraw.proofs.restoring.rows_unwound.Given as goal

abbrev pub invariant-loop-i : goal.invariant-loop-i
invariant-loop-i l =
    HasMadeEntries false 1 24 (is_unwound l.delta l.before l.after) (λ _. false) l.rows l.i
