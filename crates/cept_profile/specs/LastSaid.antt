-- Attributes of rows and of the screen by what was said of them last (which stroke says what is this profile's own):
-- each class is what the last stroke says that says anything of it, else unset. Strokes stand with the last first.
use Rattle.std.specs.Prelude.{ℕ, Bool, Option, Some, None, unwrap_or, List, [], ◌∷◌, ◌==◌, if◌then◌else◌}
use Rattle.cept_codes.specs.declared.attribute.Attr.{Attr}
use Rattle.cept_codes.specs.declared.attribute.Flash.{Flash}
use Rattle.cept_codes.specs.declared.attribute.Pen.{Pen}
use Rattle.cept_codes.specs.declared.attribute.Size.{Size}
use Rattle.cept_codes.specs.declared.stroke.Stroke.{Stroke}
use Rattle.cept_codes.specs.declared.stroke.Stroke.TheVariants as strokes
use Rattle.cept_profile.specs.MovedRows.{moved_rows, row_before_move}
use Rattle.cept_profile.specs.Pens.{fore_in, back_in, flash_in, conceal_in, lined_in, boxed_in, size_in, invert_in}

-- attributes by what each class of them is: the foreground, the background, the flash, concealing, lining, boxing, the
-- size and inversion
abbrev pub pen_by_class : ((X : Type 0) → (Attr → Option (Option X)) → Option X) → Pen
pen_by_class value = record {
  fore = value ℕ fore_in;
  back = value ℕ back_in;
  flash = value Flash flash_in;
  conceal = value Bool conceal_in;
  lined = value Bool lined_in;
  boxed = value Bool boxed_in;
  size = value Size size_in;
  invert = value Bool invert_in;
}

-- what the last stroke says that says anything, else the first value
abbrev pub stroke_said : {X : Type 0} → (Stroke → Option X) → X → List Stroke → X
stroke_said says first [] = first
stroke_said says first (stroke ∷ earlier) = unwrap_or (says stroke) (stroke_said says first earlier)

-- ---- rows

-- what a stroke says of a class of row r: an attribute of this row says its own class, and a wipe unsets all
abbrev pub row_said : {X : Type 0} → (Attr → Option (Option X)) → ℕ → Stroke → Option (Option X)
row_said class r (strokes.RowAttr row attr) = if row == r then class attr else None
row_said class r strokes.Wipe = Some None
row_said class r _ = None

-- the row before a stroke of which the attributes of row r came, or none where row r came free: rows that are carried
-- take them along, and rows whose cells alone are shifted don't
abbrev pub attributes_row : Stroke → ℕ → Option ℕ
attributes_row (strokes.Carry first last way) r = row_before_move (moved_rows (strokes.Carry first last way)) r
attributes_row _ r = Some r

-- a class of the row after the strokes: what the last stroke says that says anything of the row that this one then was;
-- unset at first, and for a row that came free
abbrev pub row_class : {X : Type 0} → (Attr → Option (Option X)) → List Stroke → Option ℕ → Option X
row_class class [] row = None
row_class class (stroke ∷ earlier) None = None
row_class class (stroke ∷ earlier) (Some r) =
    unwrap_or (row_said class r stroke) (row_class class earlier (attributes_row stroke r))

-- the attributes of row r after the strokes
abbrev pub row_attributes : List Stroke → ℕ → Pen
row_attributes strokes r = pen_by_class (λ X class. row_class class strokes (Some r))

-- ---- the screen

-- what a stroke says of a class of the screen: an attribute of the screen says its own class, and a clearing unsets all
abbrev pub screen_said : {X : Type 0} → (Attr → Option (Option X)) → Stroke → Option (Option X)
screen_said class (strokes.ScreenAttr attr) = class attr
screen_said class strokes.ScreenClear = Some None
screen_said class _ = None

-- the attributes of the screen after the strokes: unset at first
abbrev pub screen_attributes : List Stroke → Pen
screen_attributes strokes = pen_by_class (λ X class. stroke_said (screen_said class) None strokes)

-- ---- the number of rows

-- what a stroke says of it
abbrev pub format_said : Stroke → Option ℕ
format_said (strokes.Format rows) = Some rows
format_said _ = None

-- the number of rows after the strokes: 24 at first
abbrev pub format_back : List Stroke → ℕ
format_back strokes = stroke_said format_said 24 strokes
