use Rattle.std.proofs.Common.{◌≡◌}
use Rattle.cept_profile.specs.Control.{control_with}
use Rattle.cept_profile.specs.Writing.{effect_of_copies}
use Rattle.cept_control.proofs.control.Control.write_copies.Given as goal

abbrev pub invariant-loop-copy : goal.invariant-loop-copy
invariant-loop-copy l = record {
  state : l.self ≡ control_with l.fn.self (effect_of_copies l._copy l.fn.self l.sign).0;
  strokes : l.strokes.items ≡ (effect_of_copies l._copy l.fn.self l.sign).1;
}
