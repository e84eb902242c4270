-- Looks in little space (own): a look in fields of one byte, of a pattern only that it is one; the pattern with its
-- inks beside it; and the look that both stand for.
use Rattle.std.specs.Prelude.{◌≡◌, Bool, true, false, replicate, if◌then◌else◌}
use Rattle.cept_codes.specs.declared.glyph.SetId.TheVariants as sets
use Rattle.cept_codes.specs.declared.look.Look.{Look}
use Rattle.cept_codes.specs.declared.look.Paint.{Paint}
use Rattle.cept_codes.specs.declared.look.Paint.TheVariants as paints
use Rattle.cept_codes.specs.declared.look.Shape.{Shape}
use Rattle.cept_codes.specs.declared.look.Shape.TheVariants as shapes
use Rattle.cept_codes.specs.Look.{IsValidLook, black_paint, blank_look}
use Rattle.cept_rows.specs.declared.drawing.Drawing.{Drawing}
use Rattle.cept_rows.specs.declared.small_look.Kind.{Kind}
use Rattle.cept_rows.specs.declared.small_look.Kind.TheVariants as kinds
use Rattle.cept_rows.specs.declared.small_look.Sign.{Sign}
use Rattle.cept_rows.specs.declared.small_look.SmallLook.{SmallLook}
use Rattle.cept_rows.specs.declared.small_look.Tint.{Tint}

-- nothing is drawn
abbrev pub nothing : Sign
nothing = record { kind = kinds.Space; set = sets.P; code = 0; accent = 0 }

-- a pattern is drawn, whichever it is
abbrev pub some_pattern : Sign
some_pattern = record { kind = kinds.Drcs; set = sets.P; code = 0; accent = 0 }

-- what is kept of a shape: of a pattern only that it is one
abbrev pub sign_of : Shape → Sign
sign_of shapes.Space = nothing
sign_of (shapes.Char g) = record { kind = kinds.Char; set = g.set; code = g.code; accent = g.accent }
sign_of (shapes.Drcs pattern inks) = some_pattern

-- no pattern and no inks
abbrev pub no_drawing : Drawing
no_drawing = record {
  pattern = record { w = 0; h = 0; planes = 0; bits = replicate 9 0 };
  inks = record { count = 0; paints = replicate 16 black_paint };
}

-- a paint as it is kept
abbrev pub tint_of : Paint → Tint
tint_of (paints.Ink c) = record { video = false; r = c.r; g = c.g; b = c.b }
tint_of paints.Video = record { video = true; r = 0; g = 0; b = 0 }

-- a look as it is kept, without its drawing
abbrev pub small_of : Look → SmallLook
small_of l = record {
  sign = sign_of l.shape;
  part = record { dy = l.dy; dx = l.dx; w = l.w; h = l.h };
  fore = tint_of l.fore;
  back = tint_of l.back;
  style = record { flash = l.flash; conceal = l.conceal; lined = l.lined; boxed = l.boxed };
}

-- a blank look
abbrev pub blank_small : SmallLook
blank_small = small_of blank_look

-- the shape that is kept, by what is drawn at all
abbrev pub shape_by : Kind → Sign → Drawing → Shape
shape_by kinds.Space s d = shapes.Space
shape_by kinds.Char s d = shapes.Char (record { set = s.set; code = s.code; accent = s.accent })
shape_by kinds.Drcs s d = shapes.Drcs d.pattern d.inks

-- the shape that is kept
abbrev pub shape_kept : Sign → Drawing → Shape
shape_kept s d = shape_by s.kind s d

-- the paint that is kept
abbrev pub paint_kept : Tint → Paint
paint_kept t = if t.video then paints.Video else paints.Ink (record { r = t.r; g = t.g; b = t.b })

-- the look that is kept; the drawing counts for a pattern alone
abbrev pub look_kept : SmallLook → Drawing → Look
look_kept s d = record {
  shape = shape_kept s.sign d;
  dy = s.part.dy;
  dx = s.part.dx;
  w = s.part.w;
  h = s.part.h;
  fore = paint_kept s.fore;
  back = paint_kept s.back;
  flash = s.style.flash;
  conceal = s.style.conceal;
  lined = s.style.lined;
  boxed = s.style.boxed;
}

-- a pattern is drawn
abbrev pub is_drcs : Kind → Bool
is_drcs kinds.Drcs = true
is_drcs _ = false

-- the same of a look
abbrev pub has_pattern : SmallLook → Bool
has_pattern s = is_drcs s.sign.kind

-- together a valid look, and no field holds what it doesn't show
pub record IsSmallLook (s : SmallLook) (d : Drawing) : Type 0 where
  pub valid : IsValidLook (look_kept s d)
  pub shown : small_of (look_kept s d) ≡ s
