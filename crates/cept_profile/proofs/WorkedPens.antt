-- Worked tables: what each C1 code and each flash mode makes of the pen under the parallel set, by computing.
use Rattle.std.proofs.Common.{◌≡◌, ℕ, ◌+◌, zero, suc, List, [], ◌∷◌, ◌++◌, map, option_map, Option, Some, None, true, false, refl}
use Rattle.std.specs.List.{range_with_len}
use Rattle.cept_codes.specs.declared.attribute.Attr.{Attr}
use Rattle.cept_codes.specs.declared.attribute.Attr.TheVariants as attrs
use Rattle.cept_codes.specs.declared.attribute.Flash.{Flash}
use Rattle.cept_codes.specs.declared.attribute.Flash.TheVariants.{Steady, Plain, Inverted, Reduced, Fast1, Fast2, Fast3}
use Rattle.cept_codes.specs.declared.attribute.Pen.{Pen}
use Rattle.cept_codes.specs.declared.attribute.Size.TheVariants.{Normal, High, Wide, Both}
use Rattle.cept_codes.specs.declared.command.Command.{Command}
use Rattle.cept_codes.specs.declared.command.Command.TheVariants.{C1, FlashMode, StopConceal}
use Rattle.cept_codes.specs.Attribute.{unset_pen}
use Rattle.cept_profile.specs.Control.{ControlState, initial_control, initial_working, control}
use Rattle.cept_profile.specs.Pens.{c1_function, pen_with}
use Rattle.cept_profile.proofs.Halves.{control_effect}

-- ---- C1 codes 8/0 to 9/15

-- the pen after a code that comes first
abbrev pub pen_of_code : ℕ → Pen
pen_of_code n = (control (C1 n ∷ [])).working.pen

abbrev pub fore : ℕ → Pen
fore entry = record unset_pen { fore = Some entry }

abbrev pub back : ℕ → Pen
back entry = record unset_pen { back = Some entry }

pub eight_foregrounds : map pen_of_code (range_with_len 0 8) ≡ fore 0 ∷ fore 1 ∷ fore 2 ∷ fore 3 ∷ fore 4
    ∷ fore 5 ∷ fore 6 ∷ fore 7 ∷ []
eight_foregrounds = refl

-- flash plain and steady, boxed off and on, single size, high, wide, and both
pub flash_box_and_sizes : map pen_of_code (range_with_len 8 8) ≡
    record unset_pen { flash = Some Plain } ∷ record unset_pen { flash = Some Steady }
    ∷ record unset_pen { boxed = Some false } ∷ record unset_pen { boxed = Some true }
    ∷ record unset_pen { size = Some Normal } ∷ record unset_pen { size = Some High }
    ∷ record unset_pen { size = Some Wide } ∷ record unset_pen { size = Some Both } ∷ []
flash_box_and_sizes = refl

pub eight_backgrounds : map pen_of_code (range_with_len 16 8) ≡ back 0 ∷ back 1 ∷ back 2 ∷ back 3 ∷ back 4
    ∷ back 5 ∷ back 6 ∷ back 7 ∷ []
eight_backgrounds = refl

-- conceal on, lined off and on, none, invert off and on, no background, conceal off
pub other_attributes : map pen_of_code (range_with_len 24 8) ≡
    record unset_pen { conceal = Some true } ∷ record unset_pen { lined = Some false }
    ∷ record unset_pen { lined = Some true } ∷ unset_pen
    ∷ record unset_pen { invert = Some false } ∷ record unset_pen { invert = Some true } ∷ unset_pen
    ∷ record unset_pen { conceal = Some false } ∷ []
other_attributes = refl

-- red and blue, in front and after, by each colour table
pub colours_of_tables : map (λ table. map (λ n. option_map (λ f. f.0) (c1_function table n)) (1 ∷ 4 ∷ 17 ∷ 20 ∷ []))
    (0 ∷ 1 ∷ 2 ∷ 3 ∷ []) ≡
    (Some (attrs.Fore 1) ∷ Some (attrs.Fore 4) ∷ Some (attrs.Back 1) ∷ Some (attrs.Back 4) ∷ [])
    ∷ (Some (attrs.Fore 9) ∷ Some (attrs.Fore 12) ∷ Some (attrs.Back 9) ∷ Some (attrs.Back 12) ∷ [])
    ∷ (Some (attrs.Fore 17) ∷ Some (attrs.Fore 20) ∷ Some (attrs.Back 17) ∷ Some (attrs.Back 20) ∷ [])
    ∷ (Some (attrs.Fore 25) ∷ Some (attrs.Fore 28) ∷ Some (attrs.Back 25) ∷ Some (attrs.Back 28) ∷ []) ∷ []
colours_of_tables = refl

-- a pen with every class set
abbrev pub full_pen : Pen
full_pen = record {
  fore = Some 1;
  back = Some 2;
  flash = Some Plain;
  conceal = Some true;
  lined = Some true;
  boxed = Some true;
  size = Some Wide;
  invert = Some true;
}

-- each attribute sets its own class and leaves the others
pub one_class_each : map (λ (attr : Attr). pen_with attr full_pen)
    (attrs.Fore 5 ∷ attrs.Back 6 ∷ attrs.NoBack ∷ attrs.Flash Fast2 ∷ attrs.Conceal false ∷ attrs.Lined false
    ∷ attrs.Boxed false ∷ attrs.Size Both ∷ attrs.Invert false ∷ []) ≡
    record full_pen { fore = Some 5 } ∷ record full_pen { back = Some 6 } ∷ record full_pen { back = None }
    ∷ record full_pen { flash = Some Fast2 } ∷ record full_pen { conceal = Some false }
    ∷ record full_pen { lined = Some false }
    ∷ record full_pen { boxed = Some false } ∷ record full_pen { size = Some Both }
    ∷ record full_pen { invert = Some false } ∷ []
one_class_each = refl

-- code 9/14 takes away the background alone, and StopConceal reveals alone
abbrev pub holding : Pen → ControlState
holding pen = record initial_control { working = record initial_working { pen = pen; fast = 2 } }

pub background_taken_away : control_effect (holding full_pen) (C1 30) ≡ holding (record full_pen { back = None })
background_taken_away = refl

pub revealed_alone : control_effect (holding full_pen) StopConceal ≡ holding (record full_pen { conceal = Some false })
revealed_alone = refl

-- ---- flash modes

-- the commands that bring a fast flash into force, and none for 0
abbrev pub bringing : ℕ → List Command
bringing zero = []
bringing (suc before) = FlashMode (before + 2) ∷ []

-- the flash and the fast flash after these commands
abbrev pub flash_after : List Command → Option Flash × ℕ
flash_after commands = ((control commands).working.pen.flash, (control commands).working.fast)

-- the seven modes from a fast flash in force
abbrev pub modes_from : ℕ → List (Option Flash × ℕ)
modes_from number = map (λ mode. flash_after (bringing number ++ FlashMode mode ∷ [])) (range_with_len 0 7)

-- inverted, reduced, the three fast ones, the next and the one before
pub modes_from_none : modes_from 0 ≡ (Some Inverted, 0) ∷ (Some Reduced, 0) ∷ (Some Fast1, 1) ∷ (Some Fast2, 2)
    ∷ (Some Fast3, 3) ∷ (Some Fast1, 1) ∷ (Some Fast3, 3) ∷ []
modes_from_none = refl

pub modes_from_first : modes_from 1 ≡ (Some Inverted, 0) ∷ (Some Reduced, 0) ∷ (Some Fast1, 1) ∷ (Some Fast2, 2)
    ∷ (Some Fast3, 3) ∷ (Some Fast2, 2) ∷ (Some Fast3, 3) ∷ []
modes_from_first = refl

pub modes_from_second : modes_from 2 ≡ (Some Inverted, 0) ∷ (Some Reduced, 0) ∷ (Some Fast1, 1) ∷ (Some Fast2, 2)
    ∷ (Some Fast3, 3) ∷ (Some Fast3, 3) ∷ (Some Fast1, 1) ∷ []
modes_from_second = refl

pub modes_from_third : modes_from 3 ≡ (Some Inverted, 0) ∷ (Some Reduced, 0) ∷ (Some Fast1, 1) ∷ (Some Fast2, 2)
    ∷ (Some Fast3, 3) ∷ (Some Fast1, 1) ∷ (Some Fast2, 2) ∷ []
modes_from_third = refl

-- of the C1 codes only 8/8 and 8/9 end a fast flash
pub codes_end_fast : map (λ n. (control (FlashMode 3 ∷ C1 n ∷ [])).working.fast) (range_with_len 0 32) ≡
    2 ∷ 2 ∷ 2 ∷ 2 ∷ 2 ∷ 2 ∷ 2 ∷ 2 ∷ 0 ∷ 0 ∷ 2 ∷ 2 ∷ 2 ∷ 2 ∷ 2 ∷ 2 ∷ 2 ∷ 2 ∷ 2 ∷ 2 ∷ 2 ∷ 2 ∷ 2 ∷ 2 ∷ 2 ∷ 2 ∷ 2
    ∷ 2 ∷ 2 ∷ 2 ∷ 2 ∷ 2 ∷ []
codes_end_fast = refl
