use Rattle.cept_flash.specs.Flashing.{AreFlashing}
use Rattle.cept_flash.proofs.blink.find_flashing.Given as goal

abbrev pub invariant-loop-n : goal.invariant-loop-n
invariant-loop-n l = AreFlashing l.kept.rows l.flashing.items l.n
