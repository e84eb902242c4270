use Rattle.cept_profile.specs.State.{core_of}
use Rattle.cept_plot.proofs.ValuesRead.{AreReadBelow}
use Rattle.cept_plot.proofs.field.Field.of.Given as goal

-- the values of the cells that were seen are read
abbrev pub invariant-loop-n : goal.invariant-loop-n
invariant-loop-n l = AreReadBelow (core_of l.screen) l.values l.n
