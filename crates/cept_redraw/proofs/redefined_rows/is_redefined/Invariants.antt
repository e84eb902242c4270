use Rattle.std.proofs.Common.{◌≡◌, ℕ, false, take}
use Rattle.cept_profile.specs.Reach.{is_redefined}
use Rattle.cept_profile.specs.State.{Core}
use Rattle.cept_redraw.specs.inside.Redefined.{IsNamedRow}
use Rattle.cept_redraw.proofs.redefined_rows.is_redefined.Given as goal

abbrev pub invariant-loop-stroke : goal.invariant-loop-stroke
invariant-loop-stroke l =
    (k : Core) (r : ℕ) → IsNamedRow k r l.names l.looks l.colours.dclut
    → is_redefined k (take l.stroke-index l.strokes) r ≡ false
