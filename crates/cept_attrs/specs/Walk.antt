-- Words of the walk along a row (own): it takes up the sign of a cell only at the marker after it.
use Rattle.std.specs.Prelude.{ℕ, ◌≡◌, ◌≤◌, ◌-◌, zero, suc, List, Option, slice_index_or, if◌then◌else◌}
use Rattle.cept_codes.specs.declared.attribute.Full.{Full}
use Rattle.cept_codes.specs.declared.attribute.Pen.{Pen}
use Rattle.cept_codes.specs.declared.cell.What.{What}
use Rattle.cept_codes.specs.declared.glyph.Glyph.{Glyph}
use Rattle.cept_profile.specs.Influence.{Influence, influence}
use Rattle.cept_profile.specs.Serial.{held_sign, is_marker, mosaic_of, serial_attributes}

-- what is carried once the sign of the cell to the left is taken up; a marker has none to take up
abbrev pub influence_with_sign : What → Influence → Influence
influence_with_sign left s = record s { kept_sign = if is_marker left then s.kept_sign else mosaic_of left }

-- the same at a column of a row; before the first column nothing waits to be taken up
abbrev pub influence_with_sign_at : (ℕ → What) → ℕ → Influence → Influence
influence_with_sign_at row zero s = s
influence_with_sign_at row (suc c) s = influence_with_sign (row (suc c)) s

-- this is what the cells up to a column leave, once the sign of the last one is taken up
unfoldable pub IsInfluence : (ℕ → What) → Pen → Pen → ℕ → Influence → Type 0
IsInfluence row pen screen c s = influence row pen screen c ≡ influence_with_sign_at row c s

-- from what the cells before a column leave to what those up to it leave, whatever is set for the row and the screen
abbrev pub LeavesAt : (ℕ → What) → ℕ → Influence → Influence → Type 0
LeavesAt cells c before after =
    (row screen : Pen) → IsInfluence cells row screen (c - 1) before → IsInfluence cells row screen c after

-- where the cells before a column leave this, these attributes are in force in the column
abbrev pub IsInForceAt : (ℕ → What) → ℕ → Influence → Full → Type 0
IsInForceAt cells c before full =
    (row screen : Pen) → IsInfluence cells row screen (c - 1) before → full ≡ serial_attributes cells row screen c

-- the attributes in force in forty cells, from the left
abbrev pub AreInForce : (ℕ → What) → Pen → Pen → List Full → Type 0
AreInForce cells row screen full =
    (c : ℕ) (d : Full) → 1 ≤ c → c ≤ 40 → slice_index_or full (c - 1) d ≡ serial_attributes cells row screen c

-- the signs that the markers of forty cells show, from the left
abbrev pub AreHeld : (ℕ → What) → List (Option Glyph) → Type 0
AreHeld cells held = (c : ℕ) (d : Option Glyph) → 1 ≤ c → c ≤ 40 → slice_index_or held (c - 1) d ≡ held_sign cells c
