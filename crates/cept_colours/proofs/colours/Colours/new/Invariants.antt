use Rattle.cept_codes.specs.Look.{black_paint}
use Rattle.cept_codes.specs.Table.{HasMadeEntries}
use Rattle.cept_profile.specs.Colours.{default_paint}
use Rattle.cept_colours.proofs.colours.Colours.new.Given as goal

abbrev pub invariant-loop-i : goal.invariant-loop-i
invariant-loop-i l = HasMadeEntries black_paint 0 32 default_paint (λ _. black_paint) l.paints l.i
