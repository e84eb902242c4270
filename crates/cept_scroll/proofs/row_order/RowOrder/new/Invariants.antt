use Rattle.cept_codes.specs.Table.{HasMadeEntries}
use Rattle.cept_scroll.proofs.row_order.RowOrder.new.Given as goal

abbrev pub invariant-loop-i : goal.invariant-loop-i
invariant-loop-i l = HasMadeEntries 0 1 24 (λ r. r) (λ _. 0) l.slots l.i
