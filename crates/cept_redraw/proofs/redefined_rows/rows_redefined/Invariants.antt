use Rattle.std.proofs.Common.{◌≡◌, false}
use Rattle.cept_codes.specs.Table.{HasMadeEntries}
use Rattle.cept_profile.specs.Look.{looks_of}
use Rattle.cept_profile.specs.Reach.{is_redefined}
use Rattle.cept_profile.specs.State.{Core}
use Rattle.cept_redraw.specs.Kept.{core_on}
use Rattle.cept_redraw.specs.Named.{AreNamed}
use Rattle.cept_redraw.proofs.redefined_rows.rows_redefined.Given as goal

abbrev pub invariant-loop-i : goal.invariant-loop-i
invariant-loop-i l =
    (k : Core) → l.kept ≡ looks_of (core_on k l.page) → AreNamed l.names (core_on k l.page)
    → HasMadeEntries false 1 24 (is_redefined (core_on k l.page) l.strokes) (λ _. false) l.redefined l.i
