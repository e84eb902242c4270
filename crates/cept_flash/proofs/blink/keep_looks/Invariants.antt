use Rattle.cept_profile.specs.Look.{looks_of}
use Rattle.cept_profile.specs.State.{core_of}
use Rattle.cept_flash.proofs.LooksKept.{AreKeptBelow}
use Rattle.cept_flash.proofs.blink.keep_looks.Given as goal

-- the looks of the places that were painted are kept
abbrev pub invariant-loop-n : goal.invariant-loop-n
invariant-loop-n l = AreKeptBelow (looks_of (core_of l.screen)) l.kept.rows l.n
