-- What counts for a cell of those to its left (own): what the cells up to a column leave for those after it, and what
-- one more cell makes of it.
use Rattle.std.specs.Prelude.{ℕ, Bool, true, false, ◌&&◌, Option, None, unwrap_or, if◌then◌else◌}
use Rattle.cept_codes.specs.declared.attribute.Full.{Full}
use Rattle.cept_codes.specs.declared.attribute.Pen.{Pen}
use Rattle.cept_codes.specs.declared.cell.Marker.{Marker}
use Rattle.cept_codes.specs.declared.cell.Marker.TheVariants as markers
use Rattle.cept_codes.specs.declared.cell.What.{What}
use Rattle.cept_codes.specs.declared.cell.What.TheVariants as whats
use Rattle.cept_codes.specs.declared.glyph.Glyph.{Glyph}
use Rattle.cept_profile.specs.Attributes.{cascade}
use Rattle.cept_profile.specs.Serial.{acts_there, fore_at, hold_said, is_marker, kept_sign, mosaic_of, nearest_said, pen_of}

-- what the cells up to a column leave: attributes, whether hold is on, and the sign that is kept for markers
pub record Influence : Type 0 where
  pub full : Full
  pub hold : Bool
  pub kept_sign : Option Glyph

-- ---- by looking back

-- attributes, hold and the kept sign by the cells up to a column, each marker counted wherever it begins to act
unfoldable pub influence : (ℕ → What) → Pen → Pen → ℕ → Influence
influence row pen screen c = record {
  full = cascade (pen_of row (fore_at row pen screen) c) pen screen;
  hold = unwrap_or (nearest_said (λ d. hold_said (row d)) c) false;
  kept_sign = kept_sign row c;
}

-- ---- one more cell

-- attributes after a marker
abbrev pub full_after : Marker → Full → Full
full_after (markers.Alpha e) f = record f { fore = e }
full_after (markers.Mosaic e) f = record f { fore = e }
full_after markers.BlackBack f = record f { back = 0 }
full_after markers.NewBack f = record f { back = f.fore }
full_after markers.Hold f = f
full_after markers.Release f = f
full_after (markers.Flash v) f = record f { flash = v }
full_after (markers.Conceal b) f = record f { conceal = b }
full_after (markers.Lined b) f = record f { lined = b }
full_after (markers.Boxed b) f = record f { boxed = b }
full_after (markers.Size s) f = record f { size = s }

-- hold after a marker
abbrev pub hold_after : Marker → Bool → Bool
hold_after markers.Hold h = true
hold_after markers.Release h = false
hold_after _ h = h

-- the kept sign after a marker
abbrev pub kept_sign_after : Marker → Option Glyph → Option Glyph
kept_sign_after (markers.Size s) g = None
kept_sign_after _ g = g

-- what counts after a cell, by what counts before it
abbrev pub influence_after : What → Influence → Influence
influence_after (whats.Marker m) s = record {
  full = full_after m s.full;
  hold = hold_after m s.hold;
  kept_sign =
      kept_sign_after m s.kept_sign;
}
influence_after w s = record s { kept_sign = mosaic_of w }

-- what is in force in a cell: what counts after it where its marker acts there, else what counts before it
abbrev pub influence_in : What → Influence → Influence
influence_in w s = if acts_there w then influence_after w s else s

-- the sign that is held in a cell
abbrev pub held_sign_in : What → Influence → Option Glyph
held_sign_in w s = if is_marker w && (influence_in w s).hold then (influence_after w s).kept_sign else None
