use Rattle.std.proofs.Common.{◌≡◌, false, take}
use Rattle.cept_redraw.specs.Resolved.{one_else}
use Rattle.cept_redraw.proofs.followed_rows.one_else.Given as goal

abbrev pub invariant-loop-stroke : goal.invariant-loop-stroke
invariant-loop-stroke l = one_else (take l.stroke-index l.strokes) ≡ false
