-- Planes of the patterns that a row shows (own).
use Rattle.std.specs.Prelude.{ℕ, ◌==◌, Bool, false, not, Option, Some, None}
use Rattle.cept_codes.specs.declared.look.Pattern.{Pattern}

-- the pattern that is shown has so many planes
abbrev pub has_planes : ℕ → Option Pattern → Bool
has_planes planes None = false
has_planes planes (Some pattern) = pattern.planes == planes

-- the pattern that is shown has inks: it has more planes than one
abbrev pub has_inks : Option Pattern → Bool
has_inks None = false
has_inks (Some pattern) = not (pattern.planes == 1)
