use Rattle.std.proofs.Common.{◌≡◌, false, take}
use Rattle.std.specs.List.{list_any}
use Rattle.cept_redraw.specs.inside.Due.{does_more}
use Rattle.cept_redraw.proofs.followed_rows.one_does_more.Given as goal

abbrev pub invariant-loop-stroke : goal.invariant-loop-stroke
invariant-loop-stroke l = list_any does_more (take l.stroke-index l.strokes) ≡ false
