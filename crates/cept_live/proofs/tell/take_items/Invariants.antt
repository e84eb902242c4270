use Rattle.std.proofs.Common.{◌≤◌, ◌+◌, ◌*◌, take, drop}
use Rattle.std.specs.List.{AllByRecursion}
use Rattle.cept_codes.specs.Command.{IsValidSaid}
use Rattle.cept_codes.specs.declared.item.Item.{Item}
use Rattle.cept_live.specs.inside.Live.{TakesItems}
use Rattle.cept_live.proofs.tell.take_items.Given as goal

abbrev pub invariant-loop-item : goal.invariant-loop-item
invariant-loop-item g l = record {
  valid : AllByRecursion (λ (i : Item). IsValidSaid i.what) (drop l.item-index l.items);
  few : l.to ≤ l.from + 960 * l.item-index;
  taken : TakesItems l.fn.display.screen l.fn.display.renewed (take l.item-index l.items) l.fn.list l.from l.display.screen l.display.renewed l.to l.list;
}
