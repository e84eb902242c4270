-- Where a decoder stands (this project's own): the record of its control, and of the bytes fed.
use Rattle.std.specs.Prelude.{ℕ, Bool, length}
use Rattle.cept_codes.specs.declared.attribute.Pen.{Pen}
use Rattle.cept_control.specs.Numbers.{area_numbers, bit, c1_number, flag_or_unset, flash_or_unset, number_or, set_numbers}
use Rattle.cept_control.specs.Numbers.{size_or_unset}
use Rattle.cept_profile.specs.Control.{ControlState}
use Rattle.cept_live.specs.declared.state.DecoderState.{DecoderState}
use Rattle.cept_live.specs.declared.state.PenRecord.{PenRecord}
use Rattle.cept_live.specs.Live.{LiveState}

-- a pen, 255 for what isn't set
abbrev pub pen_record : Pen → PenRecord
pen_record pen = record {
  fore = number_or 255 pen.fore;
  back = number_or 255 pen.back;
  flash = flash_or_unset pen.flash;
  conceal = flag_or_unset pen.conceal;
  lined = flag_or_unset pen.lined;
  boxed = flag_or_unset pen.boxed;
  size = size_or_unset pen.size;
  invert = flag_or_unset pen.invert;
}

-- ---- the record

-- so many bytes were fed, so many of them are pending, the page has ended or not, and control is this
abbrev pub control_record : ℕ → ℕ → Bool → ControlState → DecoderState
control_record fed pending ended control = record {
  fed = fed;
  pending = pending;
  ended = bit ended;
  row = control.working.row;
  column = control.working.column;
  rows = control.rows;
  wrap = bit control.wrap;
  first = (area_numbers control.area).0;
  last = (area_numbers control.area).1;
  implicit = bit control.implicit;
  revision = control.revision;
  c1 = c1_number control.working.c1;
  g = set_numbers control.working.sets;
  left = control.working.sets.left;
  right = control.working.sets.right;
  single = number_or 0 control.working.sets.single;
  accent = number_or 0 control.working.accent;
  table = control.working.table;
  protect = bit control.working.protect;
  pen = pen_record control.working.pen;
}

-- the record of a decoder
abbrev pub state_record : LiveState → DecoderState
state_record live =
    control_record live.parser.place (length live.parser.pending) live.parser.finished live.screen.control
