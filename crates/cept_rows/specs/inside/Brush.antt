-- What the walk along a row keeps of the last pen (own).
use Rattle.std.specs.Prelude.{◌≡◌, true}
use Rattle.cept_codes.specs.declared.attribute.Full.{Full}
use Rattle.cept_codes.specs.declared.attribute.Pen.{Pen}
use Rattle.cept_codes.specs.declared.cell.What.{What}
use Rattle.cept_codes.specs.declared.cell.What.TheVariants as whats
use Rattle.cept_codes.specs.declared.look.Shape.{Shape}
use Rattle.cept_codes.specs.declared.look.Shape.TheVariants as shapes
use Rattle.cept_codes.specs.Attribute.{unset_pen}
use Rattle.cept_profile.specs.Attributes.{cascade}
use Rattle.cept_profile.specs.Look.{look_with}
use Rattle.cept_profile.specs.PageParts.{paint_in}
use Rattle.cept_rows.specs.declared.cell_look.Brush.{Brush}
use Rattle.cept_rows.specs.declared.small_look.SmallLook.{SmallLook}
use Rattle.cept_rows.specs.SmallLooks.{small_of}
use Rattle.cept_rows.specs.Source.{Source}

-- a pen that sets no class but the colours
abbrev pub IsBare : Pen → Type 0
IsBare pen = pen ≡ record unset_pen { fore = pen.fore; back = pen.back }

-- the attributes of a sign that took a pen
abbrev pub attributes_by : Source → Pen → Full
attributes_by source pen = cascade pen source.row_pen source.screen_pen

-- a shape of single size with these attributes
abbrev pub small_shape : Source → Shape → Full → SmallLook
small_shape source shape full = small_of (look_with (paint_in source.defined.paints) shape full)

-- how a space looks that is written with a pen
abbrev pub space_by : Source → Pen → SmallLook
space_by source pen = small_shape source shapes.Space (attributes_by source pen)

-- how a space looks that is written with the pen, and in which size; with the flag `bare` the pen sets no class but the
-- colours
pub record IsBrush (source : Source) (brush : Brush) : Type 0 where
  pub space : brush.space ≡ space_by source brush.pen
  pub bare : brush.bare ≡ true → IsBare brush.pen
  pub size : brush.size ≡ (attributes_by source brush.pen).size

-- one that holds this pen
pub record IsDipped (source : Source) (pen : Pen) (brush : Brush) : Type 0 where
  pub held : brush.pen ≡ pen
  pub is : IsBrush source brush

-- how a space looks in place of a sign: in parallel as one with its pen, else as a blank cell
abbrev pub space_for : What → SmallLook → SmallLook → SmallLook
space_for (whats.Parallel g p) blank written = written
space_for _ blank written = blank
