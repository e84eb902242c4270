-- What a notice says is what it was made of.
use Rattle.std.proofs.Common.{◌≡◌, ℕ, ◌==◌, Bool, true, false, List, [], ◌∷◌, map, refl, ap, ◌∙◌}
use Rattle.cept_codes.specs.declared.attribute.Flash.{Flash}
use Rattle.cept_codes.specs.declared.attribute.Flash.TheVariants as flashes
use Rattle.cept_codes.specs.declared.glyph.SetId.{SetId}
use Rattle.cept_codes.specs.declared.glyph.SetId.TheVariants as sets
use Rattle.cept_codes.specs.declared.item.Reason.{Reason}
use Rattle.cept_codes.specs.declared.item.Reason.TheVariants as reasons
use Rattle.cept_codes.specs.declared.look.Look.{Look}
use Rattle.cept_codes.specs.declared.look.Paint.{Paint}
use Rattle.cept_codes.specs.declared.look.Paint.TheVariants as paints
use Rattle.cept_codes.specs.declared.look.Shape.{Shape}
use Rattle.cept_codes.specs.declared.look.Shape.TheVariants as shapes
use Rattle.cept_codes.specs.Place.{Place}
use Rattle.cept_control.specs.Numbers.{bit, flash_number, set_number}
use Rattle.cept_live.specs.Notices.{Saying, Change, Refusal, change_notice, colour_of, colours_of, notice_of, pixels_of}
use Rattle.cept_live.specs.Notices.{sign_of}
use Rattle.cept_report.specs.Text.{named_reason}
use Rattle.tamligub.specs.Told.{flash_in, look_in, paint_in, reason_in, saying_in, set_in, shape_in}

set_read : (set : SetId) → set_in (set_number set) ≡ set
set_read sets.P = refl
set_read sets.S = refl
set_read sets.M = refl
set_read sets.N = refl
set_read sets.D = refl

flash_read : (flash : Flash) → flash_in (flash_number flash) ≡ flash
flash_read flashes.Steady = refl
flash_read flashes.Plain = refl
flash_read flashes.Inverted = refl
flash_read flashes.Reduced = refl
flash_read flashes.Fast1 = refl
flash_read flashes.Fast2 = refl
flash_read flashes.Fast3 = refl

reason_read : (reason : Reason) → reason_in (named_reason reason).0 ≡ reason
unfolding named_reason
reason_read reasons.UnassignedControl = refl
reason_read reasons.UnknownEscape = refl
reason_read reasons.UnknownCsi = refl
reason_read reasons.UnknownUnit = refl
reason_read reasons.BadParameter = refl
reason_read reasons.Interrupted = refl
reason_read reasons.Truncated = refl

bit_read : (flag : Bool) → (bit flag == 1) ≡ flag
bit_read true = refl
bit_read false = refl

paint_read : (paint : Paint) → paint_in (colour_of paint) ≡ paint
paint_read (paints.Ink rgb) = refl
paint_read paints.Video = refl

paints_read : (list : List Paint) → map paint_in (colours_of list) ≡ list
paints_read [] = refl
paints_read (p ∷ ps) = ap (λ (q : Paint). q ∷ map paint_in (colours_of ps)) (paint_read p) ∙ ap (λ (l : List Paint). p ∷ l) (paints_read ps)

shape_read : (shape : Shape) → shape_in (sign_of shape) (pixels_of shape) ≡ shape
shape_read shapes.Space = refl
shape_read (shapes.Char glyph) =
    ap (λ (set : SetId). shapes.Char (record { set = set; code = glyph.code; accent = glyph.accent })) (set_read glyph.set)
shape_read (shapes.Drcs pattern inks) =
    ap (λ (l : List Paint). shapes.Drcs pattern (record { count = inks.count; paints = l })) (paints_read inks.paints)

look_read : (at : ℕ) (place : Place) (look : Look) → look_in (change_notice at place look) ≡ look
look_read at place look i = record {
  shape = shape_read look.shape i;
  dy = look.dy;
  dx = look.dx;
  w = look.w;
  h = look.h;
  fore = paint_read look.fore i;
  back = paint_read look.back i;
  flash = flash_read look.flash i;
  conceal = bit_read look.conceal i;
  lined = bit_read look.lined i;
  boxed = bit_read look.boxed i;
}

pub saying_read : (saying : Saying) → saying_in (notice_of saying) ≡ saying
saying_read (Change at place look) = ap (Change at place) (look_read at place look)
saying_read (Refusal at length reason) = ap (Refusal at length) (reason_read reason)
