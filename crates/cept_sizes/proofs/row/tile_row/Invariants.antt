use Rattle.cept_sizes.proofs.RowTiled.{HasMadeParts}
use Rattle.cept_sizes.proofs.row.tile_row.Given as goal

abbrev pub invariant-loop-k : goal.invariant-loop-k
invariant-loop-k l = HasMadeParts l.above.parts l.wants.sizes l.last l.parts l.k l.wide l.high
