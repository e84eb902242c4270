-- Looks (own): what is seen at each place of a core.
use Rattle.std.specs.Prelude.{ℕ, Bool, true, false, Option, Some, None, List, ◌-◌, ◌&&◌, ◌==◌}
use Rattle.std.specs.Prelude.{if◌then◌else◌}
use Rattle.cept_codes.specs.declared.attribute.Full.{Full}
use Rattle.cept_codes.specs.declared.attribute.Pen.{Pen}
use Rattle.cept_codes.specs.declared.attribute.Size.{Size}
use Rattle.cept_codes.specs.declared.attribute.Size.TheVariants as sizes
use Rattle.cept_codes.specs.declared.cell.Marker.TheVariants as markers
use Rattle.cept_codes.specs.declared.cell.What.{What}
use Rattle.cept_codes.specs.declared.cell.What.TheVariants as whats
use Rattle.cept_codes.specs.declared.command.Command.{Command}
use Rattle.cept_codes.specs.declared.glyph.Glyph.{Glyph}
use Rattle.cept_codes.specs.declared.glyph.SetId.{SetId}
use Rattle.cept_codes.specs.declared.glyph.SetId.TheVariants as sets
use Rattle.cept_codes.specs.declared.look.Look.{Look}
use Rattle.cept_codes.specs.declared.look.Paint.{Paint}
use Rattle.cept_codes.specs.declared.look.Part.{Part}
use Rattle.cept_codes.specs.declared.look.Pattern.{Pattern}
use Rattle.cept_codes.specs.declared.look.Shape.{Shape}
use Rattle.cept_codes.specs.declared.look.Shape.TheVariants as shapes
use Rattle.cept_codes.specs.Attribute.{unset_pen}
use Rattle.cept_codes.specs.Cell.{blank_cell}
use Rattle.cept_codes.specs.Look.{black_paint, blank_look}
use Rattle.cept_codes.specs.Table.{entry, table, value_at}
use Rattle.cept_profile.specs.Attributes.{cascade}
use Rattle.cept_profile.specs.Colours.{paint_over}
use Rattle.cept_profile.specs.Definitions.{Definitions, inks_of}
use Rattle.cept_profile.specs.Edges.{edges_of_core, is_last}
use Rattle.cept_profile.specs.Serial.{held_sign, own_attributes}
use Rattle.cept_profile.specs.State.{Core, core, definitions_of}
use Rattle.cept_profile.specs.Tiling.{part_at, tiled_table}

-- a sign of the downloaded set is drawn as the pattern of its code with its inks, where one is defined; any other as
-- itself
abbrev pub shape_in_set : Definitions → Glyph → SetId → Option Pattern → Shape
shape_in_set defined g sets.D (Some pattern) = shapes.Drcs pattern (inks_of defined pattern.planes)
shape_in_set defined g _ _ = shapes.Char g

-- and the space without accent as nothing
abbrev pub shape_of_sign : Definitions → Glyph → Shape
shape_of_sign defined g =
    if g.code == 0x20 && g.accent == 0 then shapes.Space else
    shape_in_set defined g g.set (entry None 0x21 defined.patterns g.code)

-- the attributes of what stands in a cell, in a row without markers: a sign that took a pen has its own, then come
-- those of the row and those of the screen
abbrev pub attributes_of : Pen → Pen → What → Full
attributes_of row screen (whats.Parallel g pen) = cascade pen row screen
attributes_of row screen _ = cascade unset_pen row screen

-- a shape of single size with its attributes, in the paints of the entries; invert exchanges those of fore- and background
abbrev pub look_with : (ℕ → Paint) → Shape → Full → Look
look_with paint_of shape f = record blank_look {
  shape = shape;
  fore = paint_over (paint_of (if f.invert then f.back else f.fore)) (paint_of (if f.invert then f.fore else f.back));
  back = paint_of (if f.invert then f.fore else f.back);
  flash = f.flash;
  conceal = f.conceal;
  lined = f.lined;
  boxed = f.boxed;
}

-- the shape of what stands in a cell that holds a sign or none: a marker shows the sign that it holds
abbrev pub shape_in : Definitions → What → Option Glyph → Shape
shape_in defined (whats.Serial g) held = shape_of_sign defined g
shape_in defined (whats.Parallel g pen) held = shape_of_sign defined g
shape_in defined (whats.Marker m) (Some g) = shape_of_sign defined g
shape_in defined _ held = shapes.Space

-- the look of what stands in a cell by itself, in a row without markers
unfoldable pub look_of : Definitions → Pen → Pen → What → Look
look_of defined row screen what =
    look_with (entry black_paint 0 defined.paints) (shape_in defined what None) (attributes_of row screen what)

-- ---- one row by itself

-- what stands in a column of a row, in single size, by its own attributes, those of the row and those of the screen
unfoldable pub look_in_row : Definitions → (ℕ → What) → Pen → Pen → ℕ → Look
look_in_row defined row pen screen c =
    look_with (entry black_paint 0 defined.paints) (shape_in defined (row c) (held_sign row c)) (own_attributes row pen screen c)

-- the size in which it is to be shown
unfoldable pub size_in_row : (ℕ → What) → Pen → Pen → ℕ → Size
size_in_row row pen screen c = (own_attributes row pen screen c).size

-- a size other than the single one
abbrev pub is_double : Size → Bool
is_double sizes.Normal = false
is_double _ = true

-- the same, where one is set
abbrev pub is_double_set : Option Size → Bool
is_double_set None = false
is_double_set (Some size) = is_double size

-- what stands there sets a size other than the single one
abbrev pub sets_double_size : What → Bool
sets_double_size (whats.Parallel g pen) = is_double_set pen.size
sets_double_size (whats.Marker (markers.Size size)) = is_double size
sets_double_size _ = false

-- ---- all rows, each place by its origin

-- what stands in each column of row r of a core
abbrev pub contents_of_row : Core → ℕ → ℕ → What
contents_of_row k r c = (value_at blank_cell k.page.cells r c).what

-- what stands at row r and column c by itself
abbrev pub own_look : Core → ℕ → ℕ → Look
own_look k r c = look_in_row (definitions_of k.page) (contents_of_row k r)
    (entry unset_pen 1 k.page.row_pens r) k.page.screen_pen c

-- the size in which it is to be shown
abbrev pub own_size : Core → ℕ → ℕ → Size
own_size k r c = size_in_row (contents_of_row k r) (entry unset_pen 1 k.page.row_pens r) k.page.screen_pen c

-- which part of a sign each place of a core shows: the one table that is tiled by the sizes
abbrev pub parts_of : Core → List (List Part)
parts_of k = tiled_table (own_size k) (is_last (edges_of_core k))

-- the part that a look shows
abbrev pub part_of : Look → Part
part_of l = record { dy = l.dy; dx = l.dx; w = l.w; h = l.h }

-- the look at row r and column c: its part, of the one table that is tiled by the sizes, of what stands at its origin, dy
-- rows up and dx columns left
unfoldable pub look : Core → ℕ → ℕ → Look
look k r c =
    let p : Part = part_at (tiled_table (own_size k) (is_last (edges_of_core k))) r c in
    record (own_look k (r - p.dy) (c - p.dx)) { dy = p.dy; dx = p.dx; w = p.w; h = p.h }

-- all looks of a core
abbrev pub looks_of : Core → List (List Look)
looks_of k = table (look k)

-- the grid of looks after the commands
abbrev pub grid : List Command → List (List Look)
grid history = looks_of (core history)
