use Rattle.cept_codes.specs.Table.{HasMadeEntries, entry}
use Rattle.cept_profile.specs.Cells.{shifted}
use Rattle.cept_page.proofs.shifting.shifted_rows.Given as goal

abbrev pub invariant-loop-i : goal.invariant-loop-i
invariant-loop-i g l =
    HasMadeEntries l.freed 1 24 (shifted l.way l.first l.last l.freed (entry l.freed 1 l.rows)) (λ _. l.freed) l.moved l.i
