-- Worked cases of attributes of rows and of the screen by what was said of them last, by computing: the last stroke
-- first.
use Rattle.std.proofs.Common.{◌≡◌, List, [], ◌∷◌, map, Some, true, refl}
use Rattle.cept_codes.specs.declared.attribute.Attr.TheVariants.{Fore, Back, NoBack, Boxed}
use Rattle.cept_codes.specs.declared.attribute.Attr.TheVariants as attrs
use Rattle.cept_codes.specs.declared.attribute.Flash.TheVariants.{Plain}
use Rattle.cept_codes.specs.declared.attribute.Pen.{Pen}
use Rattle.cept_codes.specs.declared.command.Up.TheVariants.{Down, Up}
use Rattle.cept_codes.specs.declared.stroke.Stroke.{Stroke}
use Rattle.cept_codes.specs.declared.stroke.Stroke.TheVariants.{Carry, RowAttr, ScreenAttr, ScreenClear, Shift, Wipe}
use Rattle.cept_codes.specs.Attribute.{unset_pen}
use Rattle.cept_profile.specs.LastSaid.{row_attributes, screen_attributes}

-- the attributes of the rows 2, 3 and 4
abbrev pub rows_2_to_4 : List Stroke → List Pen
rows_2_to_4 strokes = map (row_attributes strokes) (2 ∷ 3 ∷ 4 ∷ [])

-- row 3 is red, then flashes
abbrev pub red_flashing : List Stroke
red_flashing = RowAttr 3 (attrs.Flash Plain) ∷ RowAttr 3 (Fore 1) ∷ []

-- its attributes
abbrev pub red : Pen
red = record unset_pen { fore = Some 1; flash = Some Plain }

pub both_are_kept : rows_2_to_4 red_flashing ≡ unset_pen ∷ red ∷ unset_pen ∷ []
both_are_kept = refl

pub last_colour_counts : row_attributes (RowAttr 3 (Fore 4) ∷ red_flashing) 3 ≡ record red { fore = Some 4 }
last_colour_counts = refl

pub background_is_taken_away : row_attributes (RowAttr 3 NoBack ∷ RowAttr 3 (Back 2) ∷ red_flashing) 3 ≡ red
background_is_taken_away = refl

pub carried_down : rows_2_to_4 (Carry 2 5 Down ∷ red_flashing) ≡ unset_pen ∷ unset_pen ∷ red ∷ []
carried_down = refl

-- what is said of the row after it was carried counts for where it is
pub said_after_it : rows_2_to_4 (RowAttr 4 (Boxed true) ∷ RowAttr 3 (Fore 2) ∷ Carry 2 5 Down ∷ red_flashing)
    ≡ unset_pen ∷ record unset_pen { fore = Some 2 } ∷ record red { boxed = Some true } ∷ []
said_after_it = refl

-- what goes off is gone
pub carried_off_and_back : rows_2_to_4 (Carry 3 5 Down ∷ Carry 3 5 Up ∷ red_flashing)
    ≡ unset_pen ∷ unset_pen ∷ unset_pen ∷ []
carried_off_and_back = refl

pub shifted_cells_leave_them : rows_2_to_4 (Shift 2 5 Down ∷ red_flashing) ≡ unset_pen ∷ red ∷ unset_pen ∷ []
shifted_cells_leave_them = refl

pub wipe_unsets_them : rows_2_to_4 (Wipe ∷ Carry 2 5 Down ∷ red_flashing) ≡ unset_pen ∷ unset_pen ∷ unset_pen ∷ []
wipe_unsets_them = refl

-- of the screen a wipe says nothing, and no row takes part in it
pub screen_is_kept : screen_attributes (Wipe ∷ Carry 2 5 Down ∷ RowAttr 3 (Fore 2) ∷ ScreenAttr (Back 4) ∷ [])
    ≡ record unset_pen { back = Some 4 }
screen_is_kept = refl

pub screen_is_cleared : screen_attributes (ScreenAttr (Fore 2) ∷ ScreenClear ∷ ScreenAttr (Back 4) ∷ [])
    ≡ record unset_pen { fore = Some 2 }
screen_is_cleared = refl
