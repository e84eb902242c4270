-- the list has the items that the loop has seen
use Rattle.std.proofs.Common.{◌≡◌, take}
use Rattle.cept_parser.proofs.parser.list_of.Given as goal

abbrev pub invariant-loop-item : goal.invariant-loop-item
invariant-loop-item l = l.list.items ≡ take l.item-index l.fn.items
