use Rattle.std.proofs.Common.{arith}
use Rattle.cept_codes.specs.Cell.{blank_cell}
use Rattle.cept_codes.proofs.Laws.{HasMadeEntries-all}
use Rattle.cept_cells.proofs.grid.erase_from.Goals as goal

pub returns : goal.returns
returns c = HasMadeEntries-all blank_cell 1 40 _ _ _ c.loop-i.i c.loop-i.invariant (omega arith)
