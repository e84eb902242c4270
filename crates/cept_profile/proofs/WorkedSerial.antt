-- Worked cases: rows of markers and signs, by computing.
use Rattle.cept_profile.proofs.WhatComputes.{computing}
use Rattle.std.proofs.Common.{◌≡◌, ℕ, ◌-◌, Bool, true, false, Option, Some, None, is_some, List, [], ◌∷◌, filter, map, refl}
use Rattle.std.proofs.Common.{slice_index_or}
use Rattle.std.specs.List.{enumerate_from, range_with_len}
use Rattle.cept_codes.specs.declared.attribute.Flash.{Flash}
use Rattle.cept_codes.specs.declared.attribute.Flash.TheVariants as flashes
use Rattle.cept_codes.specs.declared.attribute.Full.{Full}
use Rattle.cept_codes.specs.declared.attribute.Size.TheVariants as sizes
use Rattle.cept_codes.specs.declared.cell.Marker.{Marker}
use Rattle.cept_codes.specs.declared.cell.Marker.TheVariants as markers
use Rattle.cept_codes.specs.declared.cell.What.{What}
use Rattle.cept_codes.specs.declared.cell.What.TheVariants as whats
use Rattle.cept_codes.specs.declared.glyph.Glyph.{Glyph}
use Rattle.cept_codes.specs.declared.glyph.SetId.{SetId}
use Rattle.cept_codes.specs.declared.glyph.SetId.TheVariants as sets
use Rattle.cept_codes.specs.Attribute.{unset_pen}
use Rattle.cept_profile.specs.Serial.{acts_there, held_sign, hold_said, marker_pen, own_attributes, serial_attributes}

-- a row that begins with these, and is blank after them
abbrev pub beginning : List What → ℕ → What
beginning written c = slice_index_or written (c - 1) whats.Blank

abbrev pub glyph : SetId → ℕ → Glyph
glyph set code = record { set = set; code = code; accent = 0 }

abbrev pub sign : SetId → ℕ → What
sign set code = whats.Serial (glyph set code)

abbrev pub mark : Marker → What
mark m = whats.Marker m

abbrev pub nothing : What
nothing = whats.Blank

-- what is said of each of the columns 1 to n
abbrev pub columns : {X : Type 0} → ℕ → (ℕ → X) → List X
columns n f = map f (range_with_len 1 n)

-- the attributes of a cell where neither the row nor the screen has any of its own
abbrev pub own_at : List What → ℕ → Full
own_at row c = own_attributes (beginning row) unset_pen unset_pen c

abbrev pub fores : List What → ℕ → List ℕ
fores row n = columns n (λ c. (own_at row c).fore)

abbrev pub backs : List What → ℕ → List ℕ
backs row n = columns n (λ c. (own_at row c).back)

abbrev pub flashes_of : List What → ℕ → List Flash
flashes_of row n = columns n (λ c. (own_at row c).flash)

abbrev pub concealed : List What → ℕ → List Bool
concealed row n = columns n (λ c. (own_at row c).conceal)

-- the codes of the held signs, none where nothing is held
abbrev pub code_of : Option Glyph → Option ℕ
code_of None = None
code_of (Some g) = Some g.code

abbrev pub held_codes : List What → ℕ → List (Option ℕ)
held_codes row n = columns n (λ c. code_of (held_sign (beginning row) c))

-- ---- every kind of marker: its class, and whether it acts from its own cell

abbrev pub kinds : List Marker
kinds = markers.Alpha 1 ∷ markers.Mosaic 1 ∷ markers.BlackBack ∷ markers.NewBack ∷ markers.Hold ∷ markers.Release
    ∷ markers.Flash flashes.Steady ∷ markers.Flash flashes.Plain ∷ markers.Flash flashes.Inverted
    ∷ markers.Flash flashes.Reduced ∷ markers.Flash flashes.Fast1 ∷ markers.Flash flashes.Fast2
    ∷ markers.Flash flashes.Fast3 ∷ markers.Conceal false ∷ markers.Conceal true ∷ markers.Lined false
    ∷ markers.Lined true ∷ markers.Boxed false ∷ markers.Boxed true ∷ markers.Size sizes.Normal
    ∷ markers.Size sizes.High ∷ markers.Size sizes.Wide ∷ markers.Size sizes.Both ∷ []

-- foreground, background, hold, flash, concealing, lining, box, size and polarity
abbrev pub each_class : List (What → Bool)
each_class = (λ w. is_some (marker_pen 0 w).fore) ∷ (λ w. is_some (marker_pen 0 w).back) ∷ (λ w. is_some (hold_said w))
    ∷ (λ w. is_some (marker_pen 0 w).flash) ∷ (λ w. is_some (marker_pen 0 w).conceal)
    ∷ (λ w. is_some (marker_pen 0 w).lined) ∷ (λ w. is_some (marker_pen 0 w).boxed)
    ∷ (λ w. is_some (marker_pen 0 w).size) ∷ (λ w. is_some (marker_pen 0 w).invert) ∷ []

-- the classes of a marker, by their place in that list
abbrev pub classes_of : Marker → List ℕ
classes_of m = map (λ numbered. numbered.0) (filter (λ numbered. numbered.1 (mark m)) (enumerate_from 0 each_class))

pub classes : map classes_of kinds
    ≡ (0 ∷ []) ∷ (0 ∷ []) ∷ (1 ∷ []) ∷ (1 ∷ []) ∷ (2 ∷ []) ∷ (2 ∷ []) ∷ (3 ∷ []) ∷ (3 ∷ []) ∷ (3 ∷ []) ∷ (3 ∷ [])
    ∷ (3 ∷ []) ∷ (3 ∷ []) ∷ (3 ∷ []) ∷ (4 ∷ []) ∷ (4 ∷ []) ∷ (5 ∷ []) ∷ (5 ∷ []) ∷ (6 ∷ []) ∷ (6 ∷ []) ∷ (7 ∷ [])
    ∷ (7 ∷ []) ∷ (7 ∷ []) ∷ (7 ∷ []) ∷ []
classes = refl

pub at_once : map (λ m. acts_there (mark m)) kinds
    ≡ false ∷ false ∷ true ∷ true ∷ true ∷ false ∷ true ∷ false ∷ false ∷ false ∷ false ∷ false ∷ false ∷ false ∷ true
    ∷ false ∷ false ∷ false ∷ false ∷ true ∷ false ∷ false ∷ false ∷ []
at_once = refl

-- ---- what each kind says of its class, from the column after its own

abbrev pub after_each : Marker → Full
after_each m = own_at (mark m ∷ []) 2

pub fores_said : map (λ m. (after_each m).fore) (markers.Alpha 1 ∷ markers.Mosaic 2 ∷ markers.Hold ∷ [])
    ≡ 1 ∷ 2 ∷ 7 ∷ []
unfolding computing
fores_said = refl

pub flashes_said : map (λ m. (after_each m).flash) (markers.Flash flashes.Plain ∷ markers.Flash flashes.Inverted
    ∷ markers.Flash flashes.Fast3 ∷ markers.Alpha 1 ∷ [])
    ≡ flashes.Plain ∷ flashes.Inverted ∷ flashes.Fast3 ∷ flashes.Steady ∷ []
unfolding computing
flashes_said = refl

pub lines_said : map (λ m. (after_each m).lined) (markers.Lined true ∷ markers.Lined false ∷ markers.Alpha 1 ∷ [])
    ≡ true ∷ false ∷ false ∷ []
unfolding computing
lines_said = refl

pub boxes_said : map (λ m. (after_each m).boxed) (markers.Boxed true ∷ markers.Boxed false ∷ markers.Alpha 1 ∷ [])
    ≡ true ∷ false ∷ false ∷ []
unfolding computing
boxes_said = refl

pub sizes_said : map (λ m. (after_each m).size) (markers.Size sizes.High ∷ markers.Size sizes.Both ∷ markers.Alpha 1
    ∷ [])
    ≡ sizes.High ∷ sizes.Both ∷ sizes.Normal ∷ []
unfolding computing
sizes_said = refl

-- ---- attributes

-- `88 41 89 42`: flashing begins after its marker, steady in its own cell
pub flash : flashes_of (mark (markers.Flash flashes.Plain) ∷ sign sets.P 0x41 ∷ mark (markers.Flash flashes.Steady)
    ∷ sign sets.P 0x42 ∷ []) 4
    ≡ flashes.Steady ∷ flashes.Plain ∷ flashes.Steady ∷ flashes.Steady ∷ []
unfolding computing
flash = refl

-- `81 9D 82 41`: a new background takes the foreground at its own marker, though green is in force after it
abbrev pub new_back : List What
new_back = mark (markers.Alpha 1) ∷ mark markers.NewBack ∷ mark (markers.Alpha 2) ∷ sign sets.P 0x41 ∷ []

pub new_back_backs : backs new_back 5 ≡ 0 ∷ 1 ∷ 1 ∷ 1 ∷ 1 ∷ []
unfolding computing
new_back_backs = refl

pub new_back_fores : fores new_back 5 ≡ 7 ∷ 1 ∷ 1 ∷ 2 ∷ 2 ∷ []
unfolding computing
new_back_fores = refl

-- `81 9D 41 0D 82`: a new background changes with the foreground before it, though its marker stays
pub new_back_moved : backs (mark (markers.Alpha 2) ∷ mark markers.NewBack ∷ sign sets.P 0x41 ∷ []) 3 ≡ 0 ∷ 2 ∷ 2 ∷ []
unfolding computing
new_back_moved = refl

-- `81 9D 41 9C 42`: the black background begins in its own cell
pub black_back : backs (mark (markers.Alpha 1) ∷ mark markers.NewBack ∷ sign sets.P 0x41 ∷ mark markers.BlackBack
    ∷ sign sets.P 0x42 ∷ []) 5 ≡ 0 ∷ 1 ∷ 1 ∷ 0 ∷ 0 ∷ []
unfolding computing
black_back = refl

-- `98 41 81 42`: no colour ends concealing
pub conceal_colour : concealed (mark (markers.Conceal true) ∷ sign sets.P 0x41 ∷ mark (markers.Alpha 1)
    ∷ sign sets.P 0x42 ∷ []) 4 ≡ true ∷ true ∷ true ∷ true ∷ []
unfolding computing
conceal_colour = refl

-- `98 41 9B 42 42`: what stops concealing ends it after its own cell
pub conceal_stopped : concealed (mark (markers.Conceal true) ∷ sign sets.P 0x41 ∷ mark (markers.Conceal false)
    ∷ sign sets.P 0x42 ∷ []) 4 ≡ true ∷ true ∷ true ∷ false ∷ []
unfolding computing
conceal_stopped = refl

-- `81 1B 22 41 41 S 42`: a sign written in parallel has its own pen alone, the serial one after it the marker's colour
pub parallel : fores (mark (markers.Alpha 1) ∷ whats.Parallel (glyph sets.P 0x41) unset_pen ∷ sign sets.P 0x42 ∷ []) 3
    ≡ 7 ∷ 7 ∷ 1 ∷ []
unfolding computing
parallel = refl

-- `81 41 82 42`: the marker that stands last is in force; where it is erased, the one before it
pub last_marker : fores (mark (markers.Alpha 1) ∷ sign sets.P 0x41 ∷ mark (markers.Alpha 2) ∷ sign sets.P 0x42 ∷ []) 5
    ≡ 7 ∷ 1 ∷ 1 ∷ 2 ∷ 2 ∷ []
unfolding computing
last_marker = refl

pub marker_erased : fores (mark (markers.Alpha 1) ∷ sign sets.P 0x43 ∷ []) 5 ≡ 7 ∷ 1 ∷ 1 ∷ 1 ∷ 1 ∷ []
unfolding computing
marker_erased = refl

-- without a marker: the row's, else the screen's, else the default
pub row_first : (serial_attributes (beginning []) (record unset_pen { fore = Some 3 })
    (record unset_pen { fore = Some 4 }) 5).fore ≡ 3
unfolding computing
row_first = refl

pub screen_next : (serial_attributes (beginning []) unset_pen (record unset_pen { fore = Some 4 }) 5).fore ≡ 4
unfolding computing
screen_next = refl

pub marker_first : (serial_attributes (beginning (mark (markers.Alpha 1) ∷ [])) (record unset_pen { fore = Some 3 })
    (record unset_pen { fore = Some 4 }) 5).fore ≡ 1
unfolding computing
marker_first = refl

-- ---- held signs

-- `91 73 9E 9F 91`: hold begins in its own cell, release after its own
pub hold_and_release : held_codes (mark (markers.Mosaic 1) ∷ sign sets.M 0x73 ∷ mark markers.Hold ∷ mark markers.Release
    ∷ mark (markers.Mosaic 1) ∷ []) 5 ≡ None ∷ None ∷ Some 0x73 ∷ Some 0x73 ∷ None ∷ []
unfolding computing
hold_and_release = refl

-- `91 73 20 9E 92`: the nearest cell without a marker is the space, and no earlier mosaic is remembered
pub space_between : held_codes (mark (markers.Mosaic 1) ∷ sign sets.M 0x73 ∷ sign sets.P 0x20 ∷ mark markers.Hold
    ∷ mark (markers.Mosaic 2) ∷ []) 5 ≡ None ∷ None ∷ None ∷ None ∷ None ∷ []
unfolding computing
space_between = refl

-- `91 73 09 9E 92`: the same after a blank cell
pub blank_between : held_codes (mark (markers.Mosaic 1) ∷ sign sets.M 0x73 ∷ nothing ∷ mark markers.Hold
    ∷ mark (markers.Mosaic 2) ∷ []) 5 ≡ None ∷ None ∷ None ∷ None ∷ None ∷ []
unfolding computing
blank_between = refl

-- `91 73 9E 81 82`: an alpha colour doesn't drop the held sign
pub alpha_holds : held_codes (mark (markers.Mosaic 1) ∷ sign sets.M 0x73 ∷ mark markers.Hold ∷ mark (markers.Alpha 1)
    ∷ mark (markers.Alpha 2) ∷ []) 5 ≡ None ∷ None ∷ Some 0x73 ∷ Some 0x73 ∷ Some 0x73 ∷ []
unfolding computing
alpha_holds = refl

-- `0E 73 S 9E 91`: a mosaic that was written in parallel is not held
pub parallel_mosaic : held_codes (whats.Parallel (glyph sets.M 0x73) unset_pen ∷ mark markers.Hold
    ∷ mark (markers.Mosaic 1) ∷ []) 3 ≡ None ∷ None ∷ None ∷ []
unfolding computing
parallel_mosaic = refl

-- `1D 21 9E 91`: a sign of the second mosaic set is held
pub second_mosaic : held_codes (sign sets.N 0x21 ∷ mark markers.Hold ∷ mark (markers.Mosaic 1) ∷ []) 3
    ≡ None ∷ Some 0x21 ∷ Some 0x21 ∷ []
unfolding computing
second_mosaic = refl

-- `91 A1 9E 92`: one of the supplementary set is not
pub supplementary : held_codes (mark (markers.Mosaic 1) ∷ sign sets.S 0x21 ∷ mark markers.Hold ∷ mark (markers.Mosaic 2)
    ∷ []) 4 ≡ None ∷ None ∷ None ∷ None ∷ []
unfolding computing
supplementary = refl

-- `9E 91`: nothing but markers to the left
pub markers_alone : held_codes (mark markers.Hold ∷ mark (markers.Mosaic 1) ∷ []) 2 ≡ None ∷ None ∷ []
unfolding computing
markers_alone = refl

-- `91 73 9E 92 0D 41`: the markers still hold the sign, though its colour went with its marker
abbrev pub colour_gone : List What
colour_gone = sign sets.P 0x41 ∷ sign sets.M 0x73 ∷ mark markers.Hold ∷ mark (markers.Mosaic 2) ∷ []

pub colour_gone_held : held_codes colour_gone 4 ≡ None ∷ None ∷ Some 0x73 ∷ Some 0x73 ∷ []
unfolding computing
colour_gone_held = refl

pub colour_gone_fores : fores colour_gone 5 ≡ 7 ∷ 7 ∷ 7 ∷ 7 ∷ 2 ∷ []
unfolding computing
colour_gone_fores = refl

-- a size marker ends holding, also one that changes nothing, and a mosaic after it is held again
pub size_ends_hold : held_codes (sign sets.M 0x73 ∷ mark markers.Hold ∷ mark (markers.Size sizes.Normal)
    ∷ mark (markers.Mosaic 2) ∷ sign sets.M 0x71 ∷ mark (markers.Mosaic 3) ∷ []) 6
    ≡ None ∷ Some 0x73 ∷ None ∷ None ∷ None ∷ Some 0x71 ∷ []
unfolding computing
size_ends_hold = refl
