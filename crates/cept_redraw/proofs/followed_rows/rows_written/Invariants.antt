use Rattle.std.proofs.Common.{false}
use Rattle.cept_codes.specs.Table.{entry, HasMadeEntries}
use Rattle.cept_redraw.specs.inside.Due.{freed}
use Rattle.cept_redraw.proofs.followed_rows.rows_written.Given as goal

abbrev pub invariant-loop-i : goal.invariant-loop-i
invariant-loop-i l =
    HasMadeEntries false 1 24 (λ r. (entry freed 1 l.rows r).written) (λ _. false) l.written l.i
