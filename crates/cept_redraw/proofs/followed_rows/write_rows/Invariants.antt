use Rattle.std.proofs.Common.{true}
use Rattle.cept_codes.specs.Table.{HasMadeEntries, entry}
use Rattle.cept_redraw.specs.inside.Due.{freed, written_if}
use Rattle.cept_redraw.proofs.followed_rows.write_rows.Given as goal

abbrev pub invariant-loop-i : goal.invariant-loop-i
invariant-loop-i l =
    HasMadeEntries freed 1 24 (λ r. written_if true (entry freed 1 l.fn.rows r)) (entry freed 1 l.fn.rows) l.rows l.i
