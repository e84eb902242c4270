-- Worked tables: from where each class of attributes comes, by computing.
use Rattle.std.proofs.Common.{◌≡◌, List, [], ◌∷◌, map, Some, true, false, refl}
use Rattle.cept_codes.specs.declared.attribute.Flash.TheVariants.{Steady, Plain, Inverted, Reduced, Fast1}
use Rattle.cept_codes.specs.declared.attribute.Full.{Full}
use Rattle.cept_codes.specs.declared.attribute.Pen.{Pen}
use Rattle.cept_codes.specs.declared.attribute.Size.TheVariants.{Normal, High, Wide, Both}
use Rattle.cept_codes.specs.Attribute.{unset_pen}
use Rattle.cept_profile.specs.Attributes.{cascade}

-- three pens that differ in each class; of two that follow one another one is on and one is off
abbrev pub of_sign : Pen
of_sign = record {
  fore = Some 1;
  back = Some 2;
  flash = Some Inverted;
  conceal = Some false;
  lined = Some false;
  boxed = Some false;
  size = Some Wide;
  invert = Some false;
}

abbrev pub of_row : Pen
of_row = record {
  fore = Some 3;
  back = Some 4;
  flash = Some Reduced;
  conceal = Some true;
  lined = Some true;
  boxed = Some true;
  size = Some High;
  invert = Some true;
}

abbrev pub of_screen : Pen
of_screen = record {
  fore = Some 5;
  back = Some 6;
  flash = Some Fast1;
  conceal = Some false;
  lined = Some false;
  boxed = Some false;
  size = Some Both;
  invert = Some false;
}

-- the sign's come first
pub sign_first : cascade of_sign of_row of_screen
    ≡ record {
      fore = 1;
      back = 2;
      flash = Inverted;
      conceal = false;
      lined = false;
      boxed = false;
      size = Wide;
      invert = false;
    }
sign_first = refl

pub row_first : cascade of_row of_sign of_screen
    ≡ record {
      fore = 3;
      back = 4;
      flash = Reduced;
      conceal = true;
      lined = true;
      boxed = true;
      size = High;
      invert = true;
    }
row_first = refl

-- then the row's
pub row_next : cascade unset_pen of_row of_screen
    ≡ record {
      fore = 3;
      back = 4;
      flash = Reduced;
      conceal = true;
      lined = true;
      boxed = true;
      size = High;
      invert = true;
    }
row_next = refl

pub screen_next : cascade unset_pen of_screen of_row
    ≡ record {
      fore = 5;
      back = 6;
      flash = Fast1;
      conceal = false;
      lined = false;
      boxed = false;
      size = Both;
      invert = false;
    }
screen_next = refl

-- then the screen's
pub screen_last : cascade unset_pen unset_pen of_row
    ≡ record {
      fore = 3;
      back = 4;
      flash = Reduced;
      conceal = true;
      lined = true;
      boxed = true;
      size = High;
      invert = true;
    }
screen_last = refl

-- and else the defaults: white on black, steady, of single size, with nothing else
abbrev pub defaults : Full
defaults = record {
  fore = 7;
  back = 0;
  flash = Steady;
  conceal = false;
  lined = false;
  boxed = false;
  size = Normal;
  invert = false;
}

pub none_set : cascade unset_pen unset_pen unset_pen ≡ defaults
none_set = refl

-- ---- one class at a time

-- each class alone
abbrev pub alone : List Pen
alone =
    record unset_pen { fore = Some 1 } ∷ record unset_pen { back = Some 2 } ∷ record unset_pen { flash = Some Plain }
    ∷ record unset_pen { conceal = Some true }
    ∷ record unset_pen { lined = Some true } ∷ record unset_pen { boxed = Some true } ∷ record unset_pen {
      size =
          Some Both;
    }
    ∷ record unset_pen { invert = Some true } ∷ []

-- each class alone over the defaults
abbrev pub alone_seen : List Full
alone_seen =
    record defaults { fore = 1 } ∷ record defaults { back = 2 } ∷ record defaults { flash = Plain }
    ∷ record defaults { conceal = true }
    ∷ record defaults { lined = true } ∷ record defaults { boxed = true } ∷ record defaults { size = Both }
    ∷ record defaults { invert = true } ∷ []

pub each_of_the_sign : map (λ (pen : Pen). cascade pen unset_pen unset_pen) alone ≡ alone_seen
each_of_the_sign = refl

pub each_of_the_row : map (λ (pen : Pen). cascade unset_pen pen unset_pen) alone ≡ alone_seen
each_of_the_row = refl

pub each_of_the_screen : map (λ (pen : Pen). cascade unset_pen unset_pen pen) alone ≡ alone_seen
each_of_the_screen = refl
