use Rattle.std.proofs.Common.{◌≡◌, ◌-◌}
use Rattle.cept_rows.specs.inside.Flagged.{IsMadeTo}
use Rattle.cept_rows.specs.inside.Places.{covers_next}
use Rattle.cept_rows.specs.Source.{place_made}
use Rattle.cept_rows.specs.inside.Walk.{IsWalk}
use Rattle.cept_rows.proofs.resolving.each_between.Given as goal

abbrev pub invariant-loop-number : goal.invariant-loop-number
invariant-loop-number l = record {
  row : IsMadeTo (place_made l.source l.above) l.initial.looks l.looks (l.number - 1);
  walk : IsWalk l.source (l.number - 1) l.walk;
  covered : l.covered ≡ covers_next l.source l.above (l.number - 1);
}
