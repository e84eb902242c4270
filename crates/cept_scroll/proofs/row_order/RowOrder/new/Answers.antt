use Rattle.std.proofs.Common.{arith}
use Rattle.cept_codes.proofs.Laws.{HasMadeEntries-all}
use Rattle.cept_scroll.proofs.row_order.RowOrder.new.Goals as goal

pub returns : goal.returns
returns c = HasMadeEntries-all 0 1 24 _ _ _ _ c.loop-i.invariant (omega arith)
