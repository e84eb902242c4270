use Rattle.cept_flash.proofs.FoundFlashing.{IsKept-blank}
use Rattle.cept_flash.proofs.blink.Blink.new.Goals as goal

pub invariant_of-result : goal.invariant_of-result
invariant_of-result c =
    IsKept-blank c.in_ok-kept.kept.rows c.new-2.result.items c.in_ok-kept.ensures.blank c.new-2.ensures
