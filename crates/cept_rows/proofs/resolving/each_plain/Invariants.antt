use Rattle.std.proofs.Common.{◌≡◌, ℕ, ◌-◌, ◌≤◌, ◌<◌, false}
use Rattle.cept_profile.specs.Look.{sets_double_size}
use Rattle.cept_profile.specs.Serial.{is_marker, row_in}
use Rattle.cept_rows.specs.inside.Brush.{IsBrush}
use Rattle.cept_rows.specs.inside.Flagged.{IsMadeTo}
use Rattle.cept_rows.specs.Source.{own_look}
use Rattle.cept_rows.proofs.resolving.each_plain.Given as goal

abbrev pub invariant-loop-number : goal.invariant-loop-number
invariant-loop-number l = record {
  looks : IsMadeTo (own_look l.source) l.initial.looks l.looks (l.number - 1);
  markers : (c : ℕ) → 1 ≤ c → c < l.number → is_marker (row_in l.source.cells c) ≡ false;
  brush : IsBrush l.source l.brush;
  sizes : (c : ℕ) → 1 ≤ c → c < l.number → sets_double_size (row_in l.source.cells c) ≡ false;
}
