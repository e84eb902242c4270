use Rattle.std.proofs.Common.{◌||◌, false}
use Rattle.cept_codes.specs.Table.{HasMadeEntries, entry}
use Rattle.cept_page.proofs.row_flags.either_flags.Given as goal

abbrev pub invariant-loop-row : goal.invariant-loop-row
invariant-loop-row l =
    HasMadeEntries false 1 24 (λ r. entry false 1 l.fn.some r || entry false 1 l.fn.others r) (λ _. false)
    l.rows l.row
