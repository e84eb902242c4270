-- Looks at a phase of flashing (ETS 300 072, flashing; that there are six phases is this profile's own): the phases 0 to 5
-- come one after the other in a circle.
use Rattle.std.specs.Prelude.{ℕ, Bool, true, false, nat_le, nat_lt, ◌&&◌, ◌/◌, ◌%◌, ◌+◌, List, if◌then◌else◌}
use Rattle.cept_codes.specs.declared.attribute.Flash.{Flash}
use Rattle.cept_codes.specs.declared.attribute.Flash.TheVariants as flashes
use Rattle.cept_codes.specs.declared.look.Look.{Look}
use Rattle.cept_codes.specs.declared.look.Paint.{Paint}
use Rattle.cept_codes.specs.declared.look.Paint.TheVariants as paints
use Rattle.cept_codes.specs.declared.look.Shape.TheVariants as shapes
use Rattle.cept_codes.specs.Look.{blank_look}
use Rattle.cept_codes.specs.Table.{table, value_at}

-- what is flashing so is seen at phase k
abbrev pub is_on : Flash → ℕ → Bool
is_on flashes.Steady k = true
is_on flashes.Plain k = nat_lt k 3
is_on flashes.Inverted k = nat_le 3 k
is_on flashes.Reduced k = true
is_on flashes.Fast1 k = nat_lt k 2
is_on flashes.Fast2 k = nat_le 2 k && nat_lt k 4
is_on flashes.Fast3 k = nat_le 4 k

-- it is seen at half its intensity
abbrev pub is_dimmed : Flash → ℕ → Bool
is_dimmed flashes.Reduced k = nat_le 3 k
is_dimmed _ k = false

-- a paint at half its intensity, rounded down; what lies behind the screen stays
abbrev pub halved : Paint → Paint
halved (paints.Ink c) = paints.Ink (record { r = c.r / 2; g = c.g / 2; b = c.b / 2 })
halved paints.Video = paints.Video

-- a look at phase k: steady, nothing in place of a sign that isn't seen, no line through it, and a dimmed foreground
abbrev pub look_at_phase : Look → ℕ → Look
look_at_phase l k = record l {
  shape = if is_on l.flash k then l.shape else shapes.Space;
  fore = if is_dimmed l.flash k then halved l.fore else l.fore;
  flash = flashes.Steady;
  lined = is_on l.flash k && l.lined;
}

-- a grid of looks at phase k
unfoldable pub frame : List (List Look) → ℕ → List (List Look)
frame g k = table (λ r c. look_at_phase (value_at blank_look g r c) k)

-- the phase after phase k
abbrev pub next_phase : ℕ → ℕ
next_phase k = (k + 1) % 6
