-- The state of control as bytes (this project's own): what it takes to go on from there.
use Rattle.std.specs.Prelude.{ℕ, List, [], ◌∷◌, ◌++◌, Option, Some, None}
use Rattle.cept_codes.specs.declared.attribute.Pen.{Pen}
use Rattle.cept_codes.specs.declared.glyph.Glyph.{Glyph}
use Rattle.cept_profile.specs.Control.{ControlState, Working}
use Rattle.cept_profile.specs.Sets.{Sets}
use Rattle.cept_control.specs.Numbers.{area_numbers, bit, c1_number, flag_or_unset, flash_or_unset, number_or, set_number}
use Rattle.cept_control.specs.Numbers.{set_numbers, size_or_unset}

-- ---- what a break of the service keeps: 27 bytes

-- the sets G0 to G3, the ones that left and right bytes take, and a single shift that waits, 0 for none
abbrev pub sets_bytes : Sets → List ℕ
sets_bytes s = set_numbers s ++ s.left ∷ s.right ∷ number_or 0 s.single ∷ []

-- a sign: its set, its code and its accent; set 255 where there is no sign
abbrev pub sign_numbers : Option Glyph → ℕ × ℕ × ℕ
sign_numbers (Some sign) = (set_number sign.set, sign.code, sign.accent)
sign_numbers None = (255, 0, 0)

-- the same as a list
abbrev pub sign_bytes : Option Glyph → List ℕ
sign_bytes sign = (sign_numbers sign).0 ∷ (sign_numbers sign).1 ∷ (sign_numbers sign).2 ∷ []

-- a pen: each class by itself, 255 where it isn't set
abbrev pub pen_bytes : Pen → List ℕ
pen_bytes pen =
    number_or 255 pen.fore ∷ number_or 255 pen.back ∷ flash_or_unset pen.flash ∷ flag_or_unset pen.conceal
    ∷ flag_or_unset pen.lined ∷ flag_or_unset pen.boxed ∷ size_or_unset pen.size ∷ flag_or_unset pen.invert ∷ []

-- the position, the C1 set, the sets, an accent that waits, 0 for none, the last sign, the pen, the fast flash in force,
-- the mosaic run, the step of a sign, the colour table, and protection
abbrev pub working_bytes : Working → List ℕ
working_bytes w =
    w.row ∷ w.column ∷ c1_number w.c1 ∷ sets_bytes w.sets ++ number_or 0 w.accent ∷ sign_bytes w.last ++ pen_bytes w.pen
    ++ w.fast ∷ bit w.run ∷ w.step ∷ w.table ∷ bit w.protect ∷ []

-- ---- the whole state: 34 bytes, 61 while a service keeps something

-- the format, the scrolling area, both rows 0 for none, implicit scrolling, and the revision of the rules
abbrev pub mode_bytes : ControlState → List ℕ
mode_bytes c =
    c.rows ∷ bit c.wrap ∷ (area_numbers c.area).0 ∷ (area_numbers c.area).1 ∷ bit c.implicit ∷ c.revision ∷ []

-- what a service keeps: 0 for nothing, else 1 and the bytes of it
abbrev pub kept_bytes : Option Working → List ℕ
kept_bytes (Some w) = 1 ∷ working_bytes w
kept_bytes None = 0 ∷ []

-- the working state, the modes, and what a service keeps
abbrev pub control_bytes : ControlState → List ℕ
control_bytes c = working_bytes c.working ++ mode_bytes c ++ kept_bytes c.kept
