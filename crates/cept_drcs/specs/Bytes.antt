-- Classes of bytes by their first and last (this profile's own).
use Rattle.std.specs.Prelude.{ℕ, Bool, ◌&&◌, nat_le}

-- from the first number to the second
abbrev pub is_between : ℕ → ℕ → ℕ → Bool
is_between low high a = nat_le low a && nat_le a high
