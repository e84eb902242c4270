use Rattle.std.proofs.Common.{[]}
use Rattle.cept_codes.specs.Table.{HasMadeEntries}
use Rattle.cept_redraw.specs.inside.Due.{followed, freed}
use Rattle.cept_redraw.proofs.followed_rows.rows_at_rest.Given as goal

abbrev pub invariant-loop-i : goal.invariant-loop-i
invariant-loop-i l = HasMadeEntries freed 1 24 (followed []) (λ _. freed) l.rows l.i
