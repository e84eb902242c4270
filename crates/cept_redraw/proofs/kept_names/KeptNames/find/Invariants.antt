use Rattle.std.proofs.Common.{◌≡◌, ℕ, ◌≤◌, ◌<◌, true}
use Rattle.cept_profile.specs.Look.{looks_of}
use Rattle.cept_profile.specs.State.{Core}
use Rattle.cept_redraw.specs.Kept.{core_on}
use Rattle.cept_redraw.specs.Named.{AreNamed, is_known}
use Rattle.cept_redraw.proofs.kept_names.KeptNames.find.Given as goal

abbrev pub invariant-loop-number : goal.invariant-loop-number
invariant-loop-number l = record {
  named : (k : Core) → l.kept ≡ looks_of (core_on k l.page) → AreNamed l.fn.self (core_on k l.page)
      → AreNamed l.self (core_on k l.page);
  known : (r : ℕ) → 1 ≤ r → r < l.number → is_known l.self r ≡ true;
}
