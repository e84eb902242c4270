-- Worked cases: the state of control as bytes, by computing.
use Rattle.std.proofs.Common.{◌≡◌, true, false, Some, [], ◌∷◌, refl}
use Rattle.cept_codes.specs.declared.attribute.Flash.TheVariants as flashes
use Rattle.cept_codes.specs.declared.attribute.Size.TheVariants as sizes
use Rattle.cept_codes.specs.declared.command.C1Set.TheVariants as c1sets
use Rattle.cept_codes.specs.declared.glyph.SetId.TheVariants as sets
use Rattle.cept_profile.specs.Control.{ControlState, Working, initial_control, initial_working}
use Rattle.cept_control.specs.Bytes.{control_bytes, working_bytes}

-- ---- working states

-- the place; the parallel set; P, M, S and N; the shifts; no accent; no sign; no attribute; no run, and steps of one column
initial_working_told : working_bytes initial_working
    ≡ 1 ∷ 1 ∷ 1 ∷ 0 ∷ 2 ∷ 1 ∷ 3 ∷ 0 ∷ 2 ∷ 0 ∷ 0 ∷ 255 ∷ 0 ∷ 0 ∷ 255 ∷ 255 ∷ 255 ∷ 255 ∷ 255 ∷ 255 ∷ 255 ∷ 255 ∷ 0 ∷ 0 ∷ 1
    ∷ 0 ∷ 0 ∷ []
initial_working_told = refl

-- everything otherwise
abbrev busy : Working
busy = record {
  row = 19;
  column = 40;
  c1 = c1sets.Serial;
  sets = record { g0 = sets.D; g1 = sets.P; g2 = sets.M; g3 = sets.S; left = 1; right = 3; single = Some 2 };
  accent = Some 0x48;
  last = Some (record { set = sets.N; code = 0x5A; accent = 0 });
  pen = record {
    fore = Some 31;
    back = Some 8;
    flash = Some flashes.Fast3;
    conceal = Some true;
    lined = Some false;
    boxed = Some true;
    size = Some sizes.Wide;
    invert = Some false;
  };
  fast = 3;
  run = true;
  step = 2;
  table = 3;
  protect = true;
}

busy_told : working_bytes busy
    ≡ 19 ∷ 40 ∷ 0 ∷ 4 ∷ 0 ∷ 2 ∷ 1 ∷ 1 ∷ 3 ∷ 2 ∷ 72 ∷ 3 ∷ 90 ∷ 0 ∷ 31 ∷ 8 ∷ 6 ∷ 1 ∷ 0 ∷ 1 ∷ 2 ∷ 0 ∷ 3 ∷ 1 ∷ 2 ∷ 3 ∷ 1 ∷ []
busy_told = refl

abbrev apart : Working
apart = record busy {
  pen = record busy.pen { conceal = Some true; lined = Some true; boxed = Some false; invert = Some false };
  fast = 1;
  run = true;
  table = 2;
  protect = false;
}

-- each field at its own place
apart_told : working_bytes apart
    ≡ 19 ∷ 40 ∷ 0 ∷ 4 ∷ 0 ∷ 2 ∷ 1 ∷ 1 ∷ 3 ∷ 2 ∷ 72 ∷ 3 ∷ 90 ∷ 0 ∷ 31 ∷ 8 ∷ 6 ∷ 1 ∷ 1 ∷ 0 ∷ 2 ∷ 0 ∷ 1 ∷ 1 ∷ 2 ∷ 2 ∷ 0 ∷ []
apart_told = refl

-- ---- whole states

-- 24 rows with wrap, no area, no implicit scrolling, the first revision, and nothing kept
start_told : control_bytes initial_control
    ≡ 1 ∷ 1 ∷ 1 ∷ 0 ∷ 2 ∷ 1 ∷ 3 ∷ 0 ∷ 2 ∷ 0 ∷ 0 ∷ 255 ∷ 0 ∷ 0 ∷ 255 ∷ 255 ∷ 255 ∷ 255 ∷ 255 ∷ 255 ∷ 255 ∷ 255 ∷ 0 ∷ 0 ∷ 1
    ∷ 0 ∷ 0 ∷ 24 ∷ 1 ∷ 0 ∷ 0 ∷ 0 ∷ 1 ∷ 0 ∷ []
start_told = refl

-- a service that broke in at the start keeps what was before it
abbrev broken_in : ControlState
broken_in = record {
  working = initial_working;
  rows = 20;
  wrap = false;
  area = Some (5, 12);
  implicit = true;
  revision = 2;
  kept = Some busy;
}

kept_told : control_bytes broken_in
    ≡ 1 ∷ 1 ∷ 1 ∷ 0 ∷ 2 ∷ 1 ∷ 3 ∷ 0 ∷ 2 ∷ 0 ∷ 0 ∷ 255 ∷ 0 ∷ 0 ∷ 255 ∷ 255 ∷ 255 ∷ 255 ∷ 255 ∷ 255 ∷ 255 ∷ 255 ∷ 0 ∷ 0 ∷ 1
    ∷ 0 ∷ 0 ∷ 20 ∷ 0 ∷ 5 ∷ 12 ∷ 1 ∷ 2 ∷ 1 ∷ 19 ∷ 40 ∷ 0 ∷ 4 ∷ 0 ∷ 2 ∷ 1 ∷ 1 ∷ 3 ∷ 2 ∷ 72 ∷ 3 ∷ 90 ∷ 0 ∷ 31 ∷ 8 ∷ 6 ∷ 1 ∷ 0
    ∷ 1 ∷ 2 ∷ 0 ∷ 3 ∷ 1 ∷ 2 ∷ 3 ∷ 1 ∷ []
kept_told = refl
