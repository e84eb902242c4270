use Rattle.std.proofs.Common.{arith}
use Rattle.cept_codes.specs.Command.{IsValidSaid}
use Rattle.cept_codes.specs.declared.item.Item.{Item}
use Rattle.cept_live.proofs.ItemsTaken.{taken-none, taken-next, AllByRecursion-rest}
use Rattle.cept_live.proofs.tell.take_items.Goals as goal

pub loop-item-init : goal.loop-item-init
loop-item-init g c = record { valid = c.requires.valid; few = omega arith; taken = taken-none _ _ _ _ }

pub loop-item-preserved : goal.loop-item-preserved
loop-item-preserved g c =
    let so_far = c.loop-item.invariant in
    record {
      valid = AllByRecursion-rest (λ (i : Item). IsValidSaid i.what) c.args.items.now c.loop-item.item-index
          c.loop-item-test.true so_far.valid;
      few = omega (arith, c.take_item-to.ensures.most, so_far.few);
      taken = taken-next _ _ _ _ _ _ c.args.items.now c.loop-item.item-index _ _ _ _ _ _ _ c.loop-item-test.true so_far.taken
          c.take_item-to.ensures;
    }
