-- What private clauses say beside `Ending` (this project's own).
use Rattle.std.specs.Prelude.{ℕ, ◌+◌, ◌*◌}
use Rattle.cept_codes.specs.declared.look.Look.{Look}
use Rattle.cept_codes.specs.declared.look.Paint.{Paint}
use Rattle.cept_codes.specs.declared.look.Paint.TheVariants as paints
use Rattle.cept_report.specs.declared.ending.Fields.{Fields}

-- a paint as a number: a colour by its parts, and the picture behind by one that no colour has
abbrev pub paint_word : Paint → ℕ
paint_word (paints.Ink c) = c.r + c.g * 256 + c.b * 65536
paint_word paints.Video = 16777216

-- the fields of a look
abbrev pub fields_of : Look → Fields
fields_of l = record {
  part = record { dy = l.dy; dx = l.dx; w = l.w; h = l.h };
  fore = paint_word l.fore;
  back = paint_word l.back;
  style = record { flash = l.flash; conceal = l.conceal; lined = l.lined; boxed = l.boxed };
}
