use Rattle.std.proofs.Common.{List, ◌++◌, take, drop}
use Rattle.std.specs.List.{AllByRecursion}
use Rattle.cept_codes.specs.Command.{IsValidSaid}
use Rattle.cept_codes.specs.declared.item.Item.{Item}
use Rattle.cept_live.specs.Live.{Stands}
use Rattle.cept_live.proofs.restore.apply_items.Given as goal

abbrev pub invariant-loop-item : goal.invariant-loop-item
invariant-loop-item g l = record {
  valid : AllByRecursion (λ (i : Item). IsValidSaid i.what) (drop l.item-index l.items);
  stands : (seen : List Item) → Stands l.fn.screen seen
      → Stands l.screen (seen ++ take l.item-index l.items);
}
