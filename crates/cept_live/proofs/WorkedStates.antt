-- Worked cases: where a decoder stands, by computing.
use Rattle.std.proofs.Common.{◌≡◌, true, false, Some, None, [], ◌∷◌, refl}
use Rattle.cept_codes.specs.declared.attribute.Flash.TheVariants as flashes
use Rattle.cept_codes.specs.declared.attribute.Pen.{Pen}
use Rattle.cept_codes.specs.declared.attribute.Size.TheVariants as sizes
use Rattle.cept_codes.specs.declared.command.C1Set.TheVariants as c1sets
use Rattle.cept_codes.specs.declared.glyph.SetId.TheVariants as sets
use Rattle.cept_codes.specs.Attribute.{unset_pen}
use Rattle.cept_control.specs.Numbers.{c1_number, size_number}
use Rattle.cept_profile.specs.Control.{ControlState, initial_control}
use Rattle.cept_live.specs.declared.state.PenRecord.{PenRecord}
use Rattle.cept_live.specs.States.{control_record, pen_record}

serial_set_is_0 : c1_number c1sets.Serial ≡ 0
serial_set_is_0 = refl

parallel_set_is_1 : c1_number c1sets.Parallel ≡ 1
parallel_set_is_1 = refl

normal_is_0 : size_number sizes.Normal ≡ 0
normal_is_0 = refl

high_is_1 : size_number sizes.High ≡ 1
high_is_1 = refl

wide_is_2 : size_number sizes.Wide ≡ 2
wide_is_2 = refl

both_is_3 : size_number sizes.Both ≡ 3
both_is_3 = refl

-- ---- pens

abbrev unset_record : PenRecord
unset_record =
    record { fore = 255; back = 255; flash = 255; conceal = 255; lined = 255; boxed = 255; size = 255; invert = 255 }

unset_is_255 : pen_record unset_pen ≡ unset_record
unset_is_255 = refl

-- an attribute of each class
abbrev full_pen : Pen
full_pen = record {
  fore = Some 31;
  back = Some 8;
  flash = Some flashes.Reduced;
  conceal = Some true;
  lined = Some false;
  boxed = Some true;
  size = Some sizes.Wide;
  invert = Some false;
}

full_is_told : pen_record full_pen
    ≡ record { fore = 31; back = 8; flash = 3; conceal = 1; lined = 0; boxed = 1; size = 2; invert = 0 }
full_is_told = refl

-- ---- decoders

-- at the start P, M, S and N are designated, and G0 and G2 in use
start_is_told : control_record 0 0 false initial_control ≡ record {
  fed = 0;
  pending = 0;
  ended = 0;
  row = 1;
  column = 1;
  rows = 24;
  wrap = 1;
  first = 0;
  last = 0;
  implicit = 0;
  revision = 1;
  c1 = 1;
  g = 0 ∷ 2 ∷ 1 ∷ 3 ∷ [];
  left = 0;
  right = 2;
  single = 0;
  accent = 0;
  table = 0;
  protect = 0;
  pen = unset_record;
}
start_is_told = refl

-- everything otherwise
abbrev busy : ControlState
busy = record {
  working = record {
    row = 19;
    column = 40;
    c1 = c1sets.Serial;
    sets = record { g0 = sets.D; g1 = sets.P; g2 = sets.M; g3 = sets.S; left = 1; right = 3; single = Some 2 };
    accent = Some 0x48;
    last = None;
    pen = full_pen;
    fast = 0;
    run = true;
    step = 2;
    table = 3;
    protect = true;
  };
  rows = 20;
  wrap = false;
  area = Some (5, 12);
  implicit = true;
  revision = 2;
  kept = None;
}

busy_is_told : control_record 376 7 true busy ≡ record {
  fed = 376;
  pending = 7;
  ended = 1;
  row = 19;
  column = 40;
  rows = 20;
  wrap = 0;
  first = 5;
  last = 12;
  implicit = 1;
  revision = 2;
  c1 = 0;
  g = 4 ∷ 0 ∷ 2 ∷ 1 ∷ [];
  left = 1;
  right = 3;
  single = 2;
  accent = 72;
  table = 3;
  protect = 1;
  pen = record { fore = 31; back = 8; flash = 3; conceal = 1; lined = 0; boxed = 1; size = 2; invert = 0 };
}
busy_is_told = refl
