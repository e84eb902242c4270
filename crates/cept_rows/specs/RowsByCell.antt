-- Rows, place by place (own): what stands in a cell by itself, and what a place shows by its part.
use Rattle.std.specs.Prelude.{ℕ, ◌≡◌, ◌-◌, ◌<◌, ◌≤◌, ◌⊎◌, false}
use Rattle.cept_codes.specs.declared.look.Look.{Look}
use Rattle.cept_profile.specs.Look.{part_of}
use Rattle.cept_profile.specs.Tiling.{covers_right}

-- two looks are the same, or neither is of the left side of a wide sign: what the place to the right shows is as much the
-- one's as the other's
abbrev pub IsCoveredAlike : Look → Look → Type 0
IsCoveredAlike a b = (a ≡ b) ⊎ ((covers_right (part_of a) ≡ false) × (covers_right (part_of b) ≡ false))

-- to the right of a column two rows have the same look in each place whose left neighbours are so
abbrev pub FollowsToTheRight : ℕ → (ℕ → Look) → (ℕ → Look) → Type 0
FollowsToTheRight until f g = (c : ℕ) → until < c → c ≤ 40 → IsCoveredAlike (f (c - 1)) (g (c - 1)) → f c ≡ g c
