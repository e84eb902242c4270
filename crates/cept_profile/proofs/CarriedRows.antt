-- Attributes of rows that are carried: they go one row up or down as the cells do.
use Rattle.std.proofs.Common.{◌≡◌, ℕ, ◌+◌, ◌-◌, ◌&&◌, Bool, true, false, cond, eqb, leb, Option, Some, None, refl, sym}
use Rattle.cept_codes.specs.declared.attribute.Pen.{Pen}
use Rattle.cept_codes.specs.declared.command.Up.{Up}
use Rattle.cept_codes.specs.declared.command.Up.TheVariants as ways
use Rattle.cept_codes.specs.declared.stroke.Stroke.TheVariants as strokes
use Rattle.cept_codes.specs.Attribute.{unset_pen}
use Rattle.cept_profile.specs.Cells.{shifted}
use Rattle.cept_profile.specs.MovedRows.{moved_rows, row_before_move}
use Rattle.cept_profile.specs.PageParts.{row_pen_after}

-- the attributes of this row, none set where they came free
abbrev pub pen_of_row : Option ℕ → (ℕ → Pen) → Pen
pen_of_row None was = unset_pen
pen_of_row (Some r) was = was r

-- by two tests: within the area or not, and of the row that comes free or of another
picked : (within free : Bool) (from r : ℕ) (was : ℕ → Pen)
    → pen_of_row (cond within (cond free None (Some from)) (Some r)) was
    ≡ cond within (cond free unset_pen (was from)) (was r)
picked true true from r was = refl
picked true false from r was = refl
picked false free from r was = refl

pub row_pen_after-carried : (first last r : ℕ) (way : Up) (was : ℕ → Pen)
    → row_pen_after (strokes.Carry first last way) was r ≡ shifted way first last unset_pen was r
row_pen_after-carried first last r way was = refl

-- carried attributes are those of the row of which they came
pub row_pen_after-from : (first last r : ℕ) (way : Up) (was : ℕ → Pen) → row_pen_after (strokes.Carry first last way) was r
    ≡ pen_of_row (row_before_move (moved_rows (strokes.Carry first last way)) r) was
row_pen_after-from first last r ways.Up was = sym (picked (leb first r && leb r last) (eqb r last) (r + 1) r was)
row_pen_after-from first last r ways.Down was = sym (picked (leb first r && leb r last) (eqb r first) (r - 1) r was)

pub row_pen_after-shifted : (first last r : ℕ) (way : Up) (was : ℕ → Pen)
    → row_pen_after (strokes.Shift first last way) was r ≡ was r
row_pen_after-shifted first last r way was = refl
