use Rattle.std.proofs.Common.{false, arith}
use Rattle.cept_codes.proofs.Laws.{HasMadeEntries-all}
use Rattle.cept_page.proofs.row_flags.either_flags.Goals as goal

pub returns : goal.returns
returns c = HasMadeEntries-all false 1 24 _ _ _ _ c.loop-row.invariant (omega arith)
