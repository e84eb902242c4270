-- Attributes by pen, row and screen. The order pen, row, screen, default is this profile's own.
use Rattle.std.specs.Prelude.{false, Option, unwrap_or}
use Rattle.cept_codes.specs.declared.attribute.Flash.TheVariants as flashes
use Rattle.cept_codes.specs.declared.attribute.Full.{Full}
use Rattle.cept_codes.specs.declared.attribute.Pen.{Pen}
use Rattle.cept_codes.specs.declared.attribute.Size.TheVariants as sizes

-- the first that is set, else the default
abbrev pub first_value : {X : Type 0} → Option X → Option X → Option X → X → X
first_value pen row screen default = unwrap_or pen (unwrap_or row (unwrap_or screen default))

-- each class by the pen, else by the row, else by the screen, else the default: white on black, steady, of single size
abbrev pub cascade : Pen → Pen → Pen → Full
cascade pen row screen = record {
  fore = first_value pen.fore row.fore screen.fore 7;
  back = first_value pen.back row.back screen.back 0;
  flash = first_value pen.flash row.flash screen.flash flashes.Steady;
  conceal = first_value pen.conceal row.conceal screen.conceal false;
  lined = first_value pen.lined row.lined screen.lined false;
  boxed = first_value pen.boxed row.boxed screen.boxed false;
  size = first_value pen.size row.size screen.size sizes.Normal;
  invert = first_value pen.invert row.invert screen.invert false;
}
