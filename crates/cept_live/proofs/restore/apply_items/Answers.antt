use Rattle.cept_codes.specs.Command.{IsValidSaid}
use Rattle.cept_codes.specs.declared.item.Item.{Item}
use Rattle.cept_live.proofs.ItemsTaken.{AllByRecursion-rest}
use Rattle.cept_live.proofs.PagesRead.{stands-next, stands-none}
use Rattle.cept_live.proofs.restore.apply_items.Goals as goal

pub loop-item-init : goal.loop-item-init
loop-item-init g c = record { valid = c.requires; stands = stands-none _ }

pub loop-item-preserved : goal.loop-item-preserved
loop-item-preserved g c =
    let so_far = c.loop-item.invariant in
    record {
      valid = AllByRecursion-rest (λ (i : Item). IsValidSaid i.what) c.args.items.now c.loop-item.item-index
          c.loop-item-test.true so_far.valid;
      stands = λ seen stands. stands-next _ _ seen c.args.items.now c.loop-item.item-index _ c.loop-item-test.true
          c.apply_item.ensures (so_far.stands seen stands);
    }
