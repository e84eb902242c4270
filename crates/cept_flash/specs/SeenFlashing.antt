-- Looks that are seen flashing (own): those that aren't the same at all phases, and between which phases they differ.
use Rattle.std.specs.Prelude.{Bool, true, false, not, ◌&&◌, ◌||◌, ◌==◌}
use Rattle.cept_codes.specs.declared.attribute.Flash.{Flash}
use Rattle.cept_codes.specs.declared.attribute.Flash.TheVariants as flashes
use Rattle.cept_codes.specs.declared.look.Look.{Look}
use Rattle.cept_codes.specs.declared.look.Paint.{Paint}
use Rattle.cept_codes.specs.declared.look.Paint.TheVariants as paints
use Rattle.cept_codes.specs.declared.look.Shape.{Shape}
use Rattle.cept_codes.specs.declared.look.Shape.TheVariants as shapes

-- a shape is nothing
abbrev pub is_space : Shape → Bool
is_space shapes.Space = true
is_space _ = false

-- half of a paint's intensity is less than the whole
abbrev pub has_light : Paint → Bool
has_light (paints.Ink c) = not ((c.r == 0) && (c.g == 0) && (c.b == 0))
has_light paints.Video = false

-- a look isn't the same at all phases
abbrev pub is_seen_flashing : Look → Flash → Bool
is_seen_flashing l flashes.Steady = false
is_seen_flashing l flashes.Reduced = has_light l.fore
is_seen_flashing l _ = not (is_space l.shape) || l.lined

abbrev pub flashes_seen : Look → Bool
flashes_seen l = is_seen_flashing l l.flash
