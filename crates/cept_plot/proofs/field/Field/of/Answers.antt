use Rattle.std.proofs.Common.{refl}
use Rattle.cept_profile.specs.State.{core_of}
use Rattle.cept_plot.proofs.ValuesRead.{AreReadBelow-none}
use Rattle.cept_plot.proofs.field.Field.of.Goals as goal

pub loop-n-init : goal.loop-n-init
loop-n-init c = AreReadBelow-none (core_of c.args.screen.now) _ refl
