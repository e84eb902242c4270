-- Serial attributes of one row (ETS 300 072, serial attributes; which marker sets which attribute, that markers stand
-- in cells, where each begins to act, and hold, are this profile's own). A row tells what stands in each column, from
-- 1; column 0 and what is past the row are never asked.
use Rattle.std.specs.Prelude.{ℕ, zero, suc, ◌-◌, List, slice_index_or, Bool, true, false, ◌&&◌, ◌||◌}
use Rattle.std.specs.Prelude.{if◌then◌else◌, Option, Some, None, is_none, unwrap_or, nat_lt, ◌==◌}
use Rattle.std.specs.Option.{option_or}
use Rattle.cept_codes.specs.declared.attribute.Flash.TheVariants as flashes
use Rattle.cept_codes.specs.declared.attribute.Full.{Full}
use Rattle.cept_codes.specs.declared.attribute.Pen.{Pen}
use Rattle.cept_codes.specs.declared.attribute.Size.TheVariants as sizes
use Rattle.cept_codes.specs.declared.cell.Marker.TheVariants as markers
use Rattle.cept_codes.specs.declared.cell.What.{What}
use Rattle.cept_codes.specs.declared.cell.What.TheVariants as whats
use Rattle.cept_codes.specs.declared.glyph.Glyph.{Glyph}
use Rattle.cept_codes.specs.declared.glyph.SetId.{SetId}
use Rattle.cept_codes.specs.declared.glyph.SetId.TheVariants as sets
use Rattle.cept_codes.specs.declared.cell.Cell.{Cell}
use Rattle.cept_codes.specs.Attribute.{unset_pen}
use Rattle.cept_codes.specs.Cell.{blank_cell}
use Rattle.cept_profile.specs.Attributes.{cascade}

-- ---- markers

-- a marker stands there
abbrev pub is_marker : What → Bool
is_marker (whats.Marker m) = true
is_marker _ = false

-- a marker that acts from its own cell stands there; all others act from the next
abbrev pub acts_there : What → Bool
acts_there (whats.Marker (markers.Flash flashes.Steady)) = true
acts_there (whats.Marker (markers.Size sizes.Normal)) = true
acts_there (whats.Marker (markers.Conceal true)) = true
acts_there (whats.Marker markers.BlackBack) = true
acts_there (whats.Marker markers.NewBack) = true
acts_there (whats.Marker markers.Hold) = true
acts_there _ = false

-- what a marker says of each class of attributes; a new background takes this, the foreground in force at its own marker
abbrev pub marker_pen : ℕ → What → Pen
marker_pen fore (whats.Marker (markers.Alpha e)) = record unset_pen { fore = Some e }
marker_pen fore (whats.Marker (markers.Mosaic e)) = record unset_pen { fore = Some e }
marker_pen fore (whats.Marker markers.BlackBack) = record unset_pen { back = Some 0 }
marker_pen fore (whats.Marker markers.NewBack) = record unset_pen { back = Some fore }
marker_pen fore (whats.Marker (markers.Flash f)) = record unset_pen { flash = Some f }
marker_pen fore (whats.Marker (markers.Conceal b)) = record unset_pen { conceal = Some b }
marker_pen fore (whats.Marker (markers.Lined b)) = record unset_pen { lined = Some b }
marker_pen fore (whats.Marker (markers.Boxed b)) = record unset_pen { boxed = Some b }
marker_pen fore (whats.Marker (markers.Size s)) = record unset_pen { size = Some s }
marker_pen fore _ = unset_pen

-- and of hold
abbrev pub hold_said : What → Option Bool
hold_said (whats.Marker markers.Hold) = Some true
hold_said (whats.Marker markers.Release) = Some false
hold_said _ = None

-- ---- looking back

-- what is said of something in the nearest column up to this one in which anything is said of it
abbrev pub nearest_said : {X : Type 0} → (ℕ → Option X) → ℕ → Option X
nearest_said says zero = None
nearest_said says (suc c) = option_or (says (suc c)) (nearest_said says c)

-- what of a row acts at column c: what stands left of it, and in it a marker that acts there
abbrev pub acting : (ℕ → What) → ℕ → ℕ → What
acting row c d = if nat_lt d c || (d == c && acts_there (row d)) then row d else whats.Blank

-- ---- attributes

-- the pen of the markers up to a column, by the foreground in force at each: of each class what the nearest one says
abbrev pub pen_of : (ℕ → What) → (ℕ → ℕ) → ℕ → Pen
pen_of row fore c = record {
  fore = nearest_said (λ d. (marker_pen (fore d) (row d)).fore) c;
  back = nearest_said (λ d. (marker_pen (fore d) (row d)).back) c;
  flash = nearest_said (λ d. (marker_pen (fore d) (row d)).flash) c;
  conceal = nearest_said (λ d. (marker_pen (fore d) (row d)).conceal) c;
  lined = nearest_said (λ d. (marker_pen (fore d) (row d)).lined) c;
  boxed = nearest_said (λ d. (marker_pen (fore d) (row d)).boxed) c;
  size = nearest_said (λ d. (marker_pen (fore d) (row d)).size) c;
  invert = None;
}

-- the foreground in force, which no background changes
abbrev pub fore_at : (ℕ → What) → Pen → Pen → ℕ → ℕ
fore_at row pen screen c = (cascade (pen_of (acting row c) (λ d. 0) c) pen screen).fore

-- serial attributes: each class by the marker in force, else by the row, else by the screen, else the default
unfoldable pub serial_attributes : (ℕ → What) → Pen → Pen → ℕ → Full
serial_attributes row pen screen c = cascade (pen_of (acting row c) (fore_at row pen screen) c) pen screen

-- a pen for a sign written in parallel, the serial attributes for everything else
abbrev pub own_attributes_of : What → Pen → Pen → Full → Full
own_attributes_of (whats.Parallel g p) pen screen f = cascade p pen screen
own_attributes_of _ pen screen f = f

-- a sign written in parallel has its own attributes, every other cell serial ones
abbrev pub own_attributes : (ℕ → What) → Pen → Pen → ℕ → Full
own_attributes row pen screen c = own_attributes_of (row c) pen screen (serial_attributes row pen screen c)

-- ---- hold

-- hold is in force; by default it is not
unfoldable pub is_holding : (ℕ → What) → ℕ → Bool
is_holding row c = unwrap_or (nearest_said (λ d. hold_said (acting row c d)) c) false

-- the two mosaic sets
abbrev pub is_mosaic : SetId → Bool
is_mosaic sets.M = true
is_mosaic sets.N = true
is_mosaic _ = false

-- the sign of a mosaic set that was written serially
abbrev pub mosaic_of : What → Option Glyph
mosaic_of (whats.Serial g) = if is_mosaic g.set then Some g else None
mosaic_of _ = None

-- the sign held here: that of the nearest cell without a marker, if a serial mosaic sign, where no size marker is nearer
unfoldable pub kept_sign : (ℕ → What) → ℕ → Option Glyph
kept_sign row c = unwrap_or (nearest_said (λ d.
    if is_marker (row d) && is_none (marker_pen 0 (row d)).size then None else Some (mosaic_of (row d))) c) None

-- the held sign of a cell: a marker's, where hold is in force
abbrev pub held_sign : (ℕ → What) → ℕ → Option Glyph
held_sign row c = if is_marker (row c) && is_holding row c then kept_sign row c else None

-- ---- rows of cells

-- what stands in a column of these cells, nothing past the last
abbrev pub row_in : List Cell → ℕ → What
row_in cells c = (slice_index_or cells (c - 1) blank_cell).what
