-- What items say (this project's own): a saying for each place that a command changes and for each refusal, and the record of
-- each.
use Rattle.std.specs.Prelude.{ℕ, List, [], ◌∷◌, ◌++◌, map, replicate}
use Rattle.cept_codes.specs.declared.command.Command.{Command}
use Rattle.cept_codes.specs.declared.item.Item.{Item}
use Rattle.cept_codes.specs.declared.item.Reason.{Reason}
use Rattle.cept_codes.specs.declared.item.Said.{Said}
use Rattle.cept_codes.specs.declared.item.Said.TheVariants as said
use Rattle.cept_codes.specs.declared.look.Look.{Look}
use Rattle.cept_codes.specs.declared.look.Paint.{Paint}
use Rattle.cept_codes.specs.declared.look.Paint.TheVariants as paints
use Rattle.cept_codes.specs.declared.look.Shape.{Shape}
use Rattle.cept_codes.specs.declared.look.Shape.TheVariants as shapes
use Rattle.cept_codes.specs.Place.{Place}
use Rattle.cept_control.specs.Numbers.{bit, flash_number, set_number}
use Rattle.cept_parser.specs.Items.{commands_of}
use Rattle.cept_profile.specs.Changes.{changes}
use Rattle.cept_report.specs.Text.{named_reason}
use Rattle.cept_live.specs.declared.notice.Colour.{Colour}
use Rattle.cept_live.specs.declared.notice.Notice.{Notice}
use Rattle.cept_live.specs.declared.notice.Pixels.{Pixels}
use Rattle.cept_live.specs.declared.notice.Sign.{Sign}

-- ---- what items say

-- at an item with so many bytes before it a place has a new look, or so many bytes are refused
pub data Saying : Type 0 where
  Change : ℕ → Place → Look → Saying
  Refusal : ℕ → ℕ → Reason → Saying

-- places that have new looks at an item
abbrev pub change_sayings : ℕ → List (Place × Look) → List Saying
change_sayings at list = map (λ change. Change at change.0 change.1) list

-- what an item says after these commands
abbrev pub said_sayings : Item → List Command → Said → List Saying
said_sayings item before (said.Command command) = change_sayings item.at (changes before command)
said_sayings item before (said.Refused reason) = Refusal item.at item.len reason ∷ []

-- what an item says after these items
abbrev pub item_sayings : List Item → Item → List Saying
item_sayings earlier item = said_sayings item (commands_of earlier) item.what

-- what items say after these: each after those before it
unfoldable pub sayings_after : List Item → List Item → List Saying
sayings_after earlier [] = []
sayings_after earlier (item ∷ more) = item_sayings earlier item ++ sayings_after (earlier ++ item ∷ []) more

-- ---- what is drawn

-- a paint: its colour, or what lies behind
abbrev pub colour_of : Paint → Colour
colour_of (paints.Ink rgb) = record { red = rgb.r; green = rgb.g; blue = rgb.b; behind = 0 }
colour_of paints.Video = record { red = 0; green = 0; blue = 0; behind = 1 }

abbrev pub colours_of : List Paint → List Colour
colours_of list = map colour_of list

abbrev pub no_colour : Colour
no_colour = record { red = 0; green = 0; blue = 0; behind = 0 }

-- nothing, a sign, or a downloaded pattern
abbrev pub sign_of : Shape → Sign
sign_of shapes.Space = record { kind = 0; set = 0; code = 0; accent = 0 }
sign_of (shapes.Char glyph) = record { kind = 1; set = set_number glyph.set; code = glyph.code; accent = glyph.accent }
sign_of (shapes.Drcs pattern inks) = record { kind = 2; set = 0; code = 0; accent = 0 }

abbrev pub no_pixels : Pixels
no_pixels = record { bits = replicate 9 0; w = 0; h = 0; planes = 0; inks = 0; colours = replicate 16 no_colour }

-- the pixels of a pattern, and its inks
abbrev pub pixels_of : Shape → Pixels
pixels_of shapes.Space = no_pixels
pixels_of (shapes.Char glyph) = no_pixels
pixels_of (shapes.Drcs pattern inks) = record {
  bits = pattern.bits;
  w = pattern.w;
  h = pattern.h;
  planes = pattern.planes;
  inks = inks.count;
  colours = colours_of inks.paints;
}

-- ---- records

-- a place that changed at the item with so many bytes before it, with its new look
abbrev pub change_notice : ℕ → Place → Look → Notice
change_notice at place look = record {
  at = at;
  kind = 1;
  length = 0;
  reason = 0;
  row = place.row;
  column = place.column;
  sign = sign_of look.shape;
  dy = look.dy;
  dx = look.dx;
  w = look.w;
  h = look.h;
  fore = colour_of look.fore;
  back = colour_of look.back;
  flash = flash_number look.flash;
  conceal = bit look.conceal;
  lined = bit look.lined;
  boxed = bit look.boxed;
  pattern = pixels_of look.shape;
}

-- so many refused bytes, with so many bytes before them
abbrev pub refusal_notice : ℕ → ℕ → Reason → Notice
refusal_notice at length reason = record {
  at = at;
  kind = 2;
  length = length;
  reason = (named_reason reason).0;
  row = 0;
  column = 0;
  sign = record { kind = 0; set = 0; code = 0; accent = 0 };
  dy = 0;
  dx = 0;
  w = 0;
  h = 0;
  fore = no_colour;
  back = no_colour;
  flash = 0;
  conceal = 0;
  lined = 0;
  boxed = 0;
  pattern = no_pixels;
}

-- the record of a saying
abbrev pub notice_of : Saying → Notice
notice_of (Change at place look) = change_notice at place look
notice_of (Refusal at length reason) = refusal_notice at length reason
