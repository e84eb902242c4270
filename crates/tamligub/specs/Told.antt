-- What notices say, read back from their numbers, and their lines in a report (this project's own).
use Rattle.std.specs.Prelude.{ℕ, ◌==◌, List, map, if◌then◌else◌}
use Rattle.std.specs.List.{flat_map}
use Rattle.cept_codes.specs.declared.attribute.Flash.{Flash}
use Rattle.cept_codes.specs.declared.attribute.Flash.TheVariants as flashes
use Rattle.cept_codes.specs.declared.glyph.SetId.{SetId}
use Rattle.cept_codes.specs.declared.glyph.SetId.TheVariants as sets
use Rattle.cept_codes.specs.declared.item.Reason.{Reason}
use Rattle.cept_codes.specs.declared.item.Reason.TheVariants as reasons
use Rattle.cept_codes.specs.declared.look.Look.{Look}
use Rattle.cept_codes.specs.declared.look.Paint.{Paint}
use Rattle.cept_codes.specs.declared.look.Paint.TheVariants as paints
use Rattle.cept_codes.specs.declared.look.Shape.{Shape}
use Rattle.cept_codes.specs.declared.look.Shape.TheVariants as shapes
use Rattle.cept_live.specs.declared.notice.Colour.{Colour}
use Rattle.cept_live.specs.declared.notice.Notice.{Notice}
use Rattle.cept_live.specs.declared.notice.Pixels.{Pixels}
use Rattle.cept_live.specs.declared.notice.Sign.{Sign}
use Rattle.cept_live.specs.Lines.{line_of}
use Rattle.cept_live.specs.Notices.{Saying, Change, Refusal}

-- ---- the numbers of tamligub.h

abbrev pub set_in : ℕ → SetId
set_in number =
    if number == 0 then sets.P else if number == 1 then sets.S else if number == 2 then sets.M else
    if number == 3 then sets.N else sets.D

abbrev pub flash_in : ℕ → Flash
flash_in number =
    if number == 0 then flashes.Steady else if number == 1 then flashes.Plain else if number == 2 then flashes.Inverted else
    if number == 3 then flashes.Reduced else if number == 4 then flashes.Fast1 else if number == 5 then flashes.Fast2 else
    flashes.Fast3

abbrev pub reason_in : ℕ → Reason
reason_in number =
    if number == 1 then reasons.UnassignedControl else if number == 2 then reasons.UnknownEscape else
    if number == 3 then reasons.UnknownCsi else if number == 4 then reasons.UnknownUnit else
    if number == 5 then reasons.BadParameter else if number == 6 then reasons.Interrupted else reasons.Truncated

-- ---- records

abbrev pub paint_in : Colour → Paint
paint_in colour = if colour.behind == 1 then paints.Video else paints.Ink (record { r = colour.red; g = colour.green; b = colour.blue })

abbrev pub shape_in : Sign → Pixels → Shape
shape_in sign pixels =
    if sign.kind == 0 then shapes.Space else
    if sign.kind == 1 then shapes.Char (record { set = set_in sign.set; code = sign.code; accent = sign.accent }) else
    shapes.Drcs (record { w = pixels.w; h = pixels.h; planes = pixels.planes; bits = pixels.bits })
    (record { count = pixels.inks; paints = map paint_in pixels.colours })

abbrev pub look_in : Notice → Look
look_in notice = record {
  shape = shape_in notice.sign notice.pattern;
  dy = notice.dy;
  dx = notice.dx;
  w = notice.w;
  h = notice.h;
  fore = paint_in notice.fore;
  back = paint_in notice.back;
  flash = flash_in notice.flash;
  conceal = notice.conceal == 1;
  lined = notice.lined == 1;
  boxed = notice.boxed == 1;
}

-- what a notice says
abbrev pub saying_in : Notice → Saying
saying_in notice =
    if notice.kind == 1 then Change notice.at (record { row = notice.row; column = notice.column }) (look_in notice) else
    Refusal notice.at notice.length (reason_in notice.reason)

-- ---- lines

-- the line of a notice in a report
abbrev pub line_in : Notice → List ℕ
line_in notice = line_of (saying_in notice)

-- the lines of notices
abbrev pub lines_in : List Notice → List ℕ
lines_in notices = flat_map line_in notices
