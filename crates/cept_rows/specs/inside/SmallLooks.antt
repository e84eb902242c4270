-- What private clauses say beside `SmallLooks` (this project's own).
use Rattle.cept_codes.specs.declared.look.Shape.{Shape}
use Rattle.cept_codes.specs.declared.look.Shape.TheVariants as shapes
use Rattle.cept_rows.specs.declared.drawing.Drawing.{Drawing}
use Rattle.cept_rows.specs.SmallLooks.{no_drawing}

-- the pattern of a shape with its inks
abbrev pub drawing_of : Shape → Drawing
drawing_of shapes.Space = no_drawing
drawing_of (shapes.Char g) = no_drawing
drawing_of (shapes.Drcs pattern inks) = record { pattern = pattern; inks = inks }
