-- Equality decides: `==` answers true exactly where the values are the same.
use Rattle.std.proofs.Common.{◌≡◌, Decides, List, refl, ap, rules}
use lib.Pointwise.{pointwise}
use Rattle.std.proofs.lemmas.Bool.Decides.{Decides-like, Decides-and, Decides-eqb}
use Rattle.std.proofs.lemmas.Slice.Eq.{slice_eq-Decides}
use Rattle.cept_codes.specs.declared.glyph.SetId.{SetId}
use Rattle.cept_codes.specs.declared.glyph.Glyph.{Glyph}
use Rattle.cept_codes.specs.declared.glyph.Read.{Read}
use Rattle.cept_codes.specs.declared.attribute.Size.{Size}
use Rattle.cept_codes.specs.declared.attribute.Flash.{Flash}
use Rattle.cept_codes.specs.declared.attribute.Attr.{Attr}
use Rattle.cept_codes.specs.declared.attribute.Pen.{Pen}
use Rattle.cept_codes.specs.declared.attribute.Full.{Full}
use Rattle.cept_codes.specs.declared.cell.Marker.{Marker}
use Rattle.cept_codes.specs.declared.cell.What.{What}
use Rattle.cept_codes.specs.declared.cell.Cell.{Cell}
use Rattle.cept_codes.specs.declared.cell.RowCells.{RowCells}
use Rattle.cept_codes.specs.declared.look.Rgb.{Rgb}
use Rattle.cept_codes.specs.declared.look.Paint.{Paint}
use Rattle.cept_codes.specs.declared.look.Pattern.{Pattern}
use Rattle.cept_codes.specs.declared.look.Inks.{Inks}
use Rattle.cept_codes.specs.declared.look.Shape.{Shape}
use Rattle.cept_codes.specs.declared.look.Part.{Part}
use Rattle.cept_codes.specs.declared.look.Look.{Look}
use Rattle.cept_codes.specs.declared.command.C1Set.{C1Set}
use Rattle.cept_codes.specs.declared.command.Up.{Up}
use Rattle.cept_codes.specs.declared.command.Form.{Form}
use Rattle.cept_codes.specs.declared.command.Command.{Command}
use Rattle.cept_codes.specs.declared.item.Reason.{Reason}
use Rattle.cept_codes.specs.declared.item.Said.{Said}
use Rattle.cept_codes.specs.declared.item.Item.{Item}
use Rattle.cept_codes.specs.declared.line_reason.LineReason.{LineReason}
use Rattle.cept_codes.specs.declared.stroke.Stroke.{Stroke}
use Rattle.cept_codes.specs.contracts.cell.What.{enum as what_enum}
use Rattle.cept_codes.specs.contracts.glyph.Read.{enum as read_enum}
use Rattle.cept_codes.specs.contracts.look.Shape.{enum as shape_enum}
use Rattle.cept_codes.specs.contracts.command.Command.{enum as command_enum}
use Rattle.cept_codes.specs.contracts.item.Said.{enum as said_enum}
use Rattle.cept_codes.specs.contracts.stroke.Stroke.{enum as stroke_enum}
use Rattle.cept_codes.specs.Place.{Place}
use Rattle.cept_codes.specs.Same.{same_set, same_glyph, same_size, same_flash, same_attr, same_pen, same_full}
use Rattle.cept_codes.specs.Same.{same_marker, same_what, same_cell, same_row, same_rgb, same_paint, same_pattern}
use Rattle.cept_codes.specs.Same.{same_inks, same_shape, same_part, same_look, same_c1_set, same_way, same_form}
use Rattle.cept_codes.specs.Same.{same_command, same_reason, same_said, same_item, same_stroke, same_place, same_read, same_line_reason}
use Rattle.cept_codes.proofs.EqualityTests.{Test, number_test, bool_test, bool_decides, option_decides, no_field}
use Rattle.cept_codes.proofs.EqualityTests.{one_field, two_fields, three_fields, enum_decides, ◌⨾◌}

pub set_decides : (a b : SetId) → Decides (same_set a b) (a ≡ b)
set_decides a b = search rules

abbrev set_test : Test SetId
set_test = (same_set, set_decides)

pub glyph_decides : (a b : Glyph) → Decides (same_glyph a b) (a ≡ b)
glyph_decides a b = search rules

abbrev glyph_test : Test Glyph
glyph_test = (same_glyph, glyph_decides)

pub read_decides : (a b : Read) → Decides (same_read a b) (a ≡ b)
read_decides a b = enum_decides read_enum (one_field glyph_test ⨾ one_field number_test ⨾ tt) a b

pub size_decides : (a b : Size) → Decides (same_size a b) (a ≡ b)
size_decides a b = search rules

abbrev size_test : Test Size
size_test = (same_size, size_decides)

pub flash_decides : (a b : Flash) → Decides (same_flash a b) (a ≡ b)
flash_decides a b = search rules

abbrev flash_test : Test Flash
flash_test = (same_flash, flash_decides)

pub attr_decides : (a b : Attr) → Decides (same_attr a b) (a ≡ b)
attr_decides a b = search rules

abbrev attr_test : Test Attr
attr_test = (same_attr, attr_decides)

pub pen_decides : (a b : Pen) → Decides (same_pen a b) (a ≡ b)
pen_decides a b =
    Decides-like (same_pen a b)
    (λ h. λ i. record {
      fore = h.0 i;
      back = h.1.0 i;
      flash = h.1.1.0 i;
      conceal = h.1.1.1.0 i;
      lined =
          h.1.1.1.1.0 i;
      boxed = h.1.1.1.1.1.0 i;
      size = h.1.1.1.1.1.1.0 i;
      invert = h.1.1.1.1.1.1.1 i;
    })
    (λ e. (ap (λ p. p.fore) e ⨾ ap (λ p. p.back) e ⨾ ap (λ p. p.flash) e ⨾ ap (λ p. p.conceal) e ⨾ ap (λ p. p.lined) e
    ⨾ ap (λ p. p.boxed) e ⨾ ap (λ p. p.size) e ⨾ ap (λ p. p.invert) e))
    (Decides-and _ _ (option_decides number_test a.fore b.fore)
    (Decides-and _ _ (option_decides number_test a.back b.back)
    (Decides-and _ _ (option_decides flash_test a.flash b.flash)
    (Decides-and _ _ (option_decides bool_test a.conceal b.conceal)
    (Decides-and _ _ (option_decides bool_test a.lined b.lined)
    (Decides-and _ _ (option_decides bool_test a.boxed b.boxed)
    (Decides-and _ _ (option_decides size_test a.size b.size) (option_decides bool_test a.invert b.invert))))))))

abbrev pen_test : Test Pen
pen_test = (same_pen, pen_decides)

pub full_decides : (a b : Full) → Decides (same_full a b) (a ≡ b)
full_decides a b =
    Decides-like (same_full a b)
    (λ h. λ i. record {
      fore = h.0 i;
      back = h.1.0 i;
      flash = h.1.1.0 i;
      conceal = h.1.1.1.0 i;
      lined =
          h.1.1.1.1.0 i;
      boxed = h.1.1.1.1.1.0 i;
      size = h.1.1.1.1.1.1.0 i;
      invert = h.1.1.1.1.1.1.1 i;
    })
    (λ e. (ap (λ p. p.fore) e ⨾ ap (λ p. p.back) e ⨾ ap (λ p. p.flash) e ⨾ ap (λ p. p.conceal) e ⨾ ap (λ p. p.lined) e
    ⨾ ap (λ p. p.boxed) e ⨾ ap (λ p. p.size) e ⨾ ap (λ p. p.invert) e))
    (Decides-and _ _ (Decides-eqb a.fore b.fore)
    (Decides-and _ _ (Decides-eqb a.back b.back)
    (Decides-and _ _ (flash_decides a.flash b.flash)
    (Decides-and _ _ (bool_decides a.conceal b.conceal)
    (Decides-and _ _ (bool_decides a.lined b.lined)
    (Decides-and _ _ (bool_decides a.boxed b.boxed)
    (Decides-and _ _ (size_decides a.size b.size) (bool_decides a.invert b.invert))))))))

pub marker_decides : (a b : Marker) → Decides (same_marker a b) (a ≡ b)
marker_decides a b = search rules

abbrev marker_test : Test Marker
marker_test = (same_marker, marker_decides)

pub what_decides : (a b : What) → Decides (same_what a b) (a ≡ b)
what_decides a b = enum_decides what_enum (no_field ⨾ one_field glyph_test ⨾ two_fields glyph_test pen_test ⨾ one_field marker_test ⨾ tt) a b

pub cell_decides : (a b : Cell) → Decides (same_cell a b) (a ≡ b)
cell_decides a b =
    Decides-like (same_cell a b)
    (λ h. λ i. record { what = h.0 i; protected = h.1 i })
    (λ e. (ap (λ p. p.what) e, ap (λ p. p.protected) e))
    (Decides-and _ _ (what_decides a.what b.what) (bool_decides a.protected b.protected))

abbrev cell_test : Test Cell
cell_test = (same_cell, cell_decides)

cells_decide : (a b : List Cell) → Decides (pointwise same_cell a b) (a ≡ b)
cells_decide a b = slice_eq-Decides cell_decides a b (pointwise same_cell a b) refl

pub row_decides : (a b : RowCells) → Decides (same_row a b) (a ≡ b)
row_decides a b =
    Decides-like (same_row a b)
    (λ h. λ i. record { cells = h i })
    (λ e. ap (λ p. p.cells) e)
    (cells_decide a.cells b.cells)

pub rgb_decides : (a b : Rgb) → Decides (same_rgb a b) (a ≡ b)
rgb_decides a b = search rules

abbrev rgb_test : Test Rgb
rgb_test = (same_rgb, rgb_decides)

pub paint_decides : (a b : Paint) → Decides (same_paint a b) (a ≡ b)
paint_decides a b = search rules

abbrev paint_test : Test Paint
paint_test = (same_paint, paint_decides)

pub pattern_decides : (a b : Pattern) → Decides (same_pattern a b) (a ≡ b)
pattern_decides a b = search rules

abbrev pattern_test : Test Pattern
pattern_test = (same_pattern, pattern_decides)

paints_decide : (a b : List Paint) → Decides (pointwise same_paint a b) (a ≡ b)
paints_decide a b = slice_eq-Decides paint_decides a b (pointwise same_paint a b) refl

pub inks_decides : (a b : Inks) → Decides (same_inks a b) (a ≡ b)
inks_decides a b =
    Decides-like (same_inks a b)
    (λ h. λ i. record { count = h.0 i; paints = h.1 i })
    (λ e. (ap (λ p. p.count) e, ap (λ p. p.paints) e))
    (Decides-and _ _ (Decides-eqb a.count b.count) (paints_decide a.paints b.paints))

abbrev inks_test : Test Inks
inks_test = (same_inks, inks_decides)

pub shape_decides : (a b : Shape) → Decides (same_shape a b) (a ≡ b)
shape_decides a b = enum_decides shape_enum (no_field ⨾ one_field glyph_test ⨾ two_fields pattern_test inks_test ⨾ tt) a b

pub part_decides : (a b : Part) → Decides (same_part a b) (a ≡ b)
part_decides a b = search rules

pub look_decides : (a b : Look) → Decides (same_look a b) (a ≡ b)
look_decides a b =
    Decides-like (same_look a b)
    (λ h. λ i. record {
      shape = h.0 i;
      dy = h.1.0 i;
      dx = h.1.1.0 i;
      w = h.1.1.1.0 i;
      h = h.1.1.1.1.0 i;
      fore =
          h.1.1.1.1.1.0 i;
      back = h.1.1.1.1.1.1.0 i;
      flash = h.1.1.1.1.1.1.1.0 i;
      conceal = h.1.1.1.1.1.1.1.1.0 i;
      lined =
          h.1.1.1.1.1.1.1.1.1.0 i;
      boxed = h.1.1.1.1.1.1.1.1.1.1 i;
    })
    (λ e. (ap (λ p. p.shape) e ⨾ ap (λ p. p.dy) e ⨾ ap (λ p. p.dx) e ⨾ ap (λ p. p.w) e ⨾ ap (λ p. p.h) e
    ⨾ ap (λ p. p.fore) e ⨾ ap (λ p. p.back) e ⨾ ap (λ p. p.flash) e ⨾ ap (λ p. p.conceal) e
    ⨾ ap (λ p. p.lined) e ⨾ ap (λ p. p.boxed) e))
    (Decides-and _ _ (shape_decides a.shape b.shape)
    (Decides-and _ _ (Decides-eqb a.dy b.dy)
    (Decides-and _ _ (Decides-eqb a.dx b.dx)
    (Decides-and _ _ (Decides-eqb a.w b.w)
    (Decides-and _ _ (Decides-eqb a.h b.h)
    (Decides-and _ _ (paint_decides a.fore b.fore)
    (Decides-and _ _ (paint_decides a.back b.back)
    (Decides-and _ _ (flash_decides a.flash b.flash)
    (Decides-and _ _ (bool_decides a.conceal b.conceal)
    (Decides-and _ _ (bool_decides a.lined b.lined) (bool_decides a.boxed b.boxed)))))))))))

pub c1_set_decides : (a b : C1Set) → Decides (same_c1_set a b) (a ≡ b)
c1_set_decides a b = search rules

abbrev c1_set_test : Test C1Set
c1_set_test = (same_c1_set, c1_set_decides)

pub way_decides : (a b : Up) → Decides (same_way a b) (a ≡ b)
way_decides a b = search rules

abbrev way_test : Test Up
way_test = (same_way, way_decides)

pub form_decides : (a b : Form) → Decides (same_form a b) (a ≡ b)
form_decides a b = search rules

abbrev form_test : Test Form
form_test = (same_form, form_decides)

pub command_decides : (a b : Command) → Decides (same_command a b) (a ≡ b)
command_decides a b = enum_decides command_enum (no_field ⨾ no_field ⨾ no_field ⨾ no_field ⨾ no_field ⨾ no_field ⨾ no_field ⨾ no_field ⨾ no_field ⨾ no_field
    ⨾ no_field ⨾ no_field ⨾ one_field number_test ⨾ one_field number_test ⨾ one_field number_test
    ⨾ one_field number_test ⨾ two_fields number_test number_test ⨾ one_field number_test ⨾ one_field number_test
    ⨾ one_field c1_set_test ⨾ two_fields number_test set_test ⨾ one_field number_test ⨾ one_field number_test
    ⨾ no_field ⨾ no_field ⨾ no_field ⨾ one_field bool_test ⨾ one_field bool_test ⨾ one_field bool_test
    ⨾ two_fields number_test number_test ⨾ two_fields number_test number_test ⨾ one_field number_test
    ⨾ one_field number_test ⨾ one_field bool_test ⨾ no_field ⨾ one_field number_test
    ⨾ two_fields number_test rgb_test ⨾ two_fields number_test number_test ⨾ two_fields bool_test form_test
    ⨾ one_field number_test ⨾ two_fields number_test pattern_test ⨾ two_fields number_test bool_test
    ⨾ one_field number_test ⨾ no_field ⨾ one_field c1_set_test ⨾ one_field c1_set_test ⨾ one_field number_test
    ⨾ tt) a b

abbrev command_test : Test Command
command_test = (same_command, command_decides)

pub reason_decides : (a b : Reason) → Decides (same_reason a b) (a ≡ b)
reason_decides a b = search rules

abbrev reason_test : Test Reason
reason_test = (same_reason, reason_decides)

pub said_decides : (a b : Said) → Decides (same_said a b) (a ≡ b)
said_decides a b = enum_decides said_enum (one_field command_test, (one_field reason_test, tt)) a b

pub item_decides : (a b : Item) → Decides (same_item a b) (a ≡ b)
item_decides a b =
    Decides-like (same_item a b)
    (λ h. λ i. record { at = h.0 i; len = h.1.0 i; what = h.1.1 i })
    (λ e. (ap (λ p. p.at) e, (ap (λ p. p.len) e, ap (λ p. p.what) e)))
    (Decides-and _ _ (Decides-eqb a.at b.at) (Decides-and _ _ (Decides-eqb a.len b.len) (said_decides a.what b.what)))

pub line_reason_decides : (a b : LineReason) → Decides (same_line_reason a b) (a ≡ b)
line_reason_decides a b = search rules

pub place_decides : (a b : Place) → Decides (same_place a b) (a ≡ b)
place_decides a b = search rules

abbrev place_test : Test Place
place_test = (same_place, place_decides)

pub stroke_decides : (a b : Stroke) → Decides (same_stroke a b) (a ≡ b)
stroke_decides a b = enum_decides stroke_enum (two_fields place_test cell_test ⨾ two_fields number_test number_test ⨾ no_field
    ⨾ three_fields number_test number_test way_test ⨾ three_fields number_test number_test way_test
    ⨾ two_fields number_test attr_test ⨾ one_field attr_test ⨾ no_field ⨾ two_fields number_test paint_test
    ⨾ two_fields number_test number_test ⨾ no_field ⨾ no_field ⨾ two_fields number_test pattern_test
    ⨾ one_field number_test ⨾ tt) a b
