-- Motions: they change nothing but the place, and make one shift at the edge of an area that scrolls, and else no strokes.
use Rattle.std.proofs.Common.{◌≡◌, ℕ, ◌+◌, ◌-◌, ◌≤◌, cond, eqb, leb, Option, Some, None, List, [], length, refl, ap}
use Rattle.std.proofs.Common.{arith}
use Rattle.std.proofs.lemmas.Bool.{cond_both}
use Rattle.cept_codes.specs.declared.command.Up.{Up}
use Rattle.cept_codes.specs.declared.command.Up.TheVariants as ways
use Rattle.cept_codes.specs.declared.stroke.Stroke.{Stroke}
use Rattle.cept_profile.specs.Control.{Working, ControlState, working_at}
use Rattle.cept_profile.specs.Motions.{above, ahead, back, below, is_first_of, is_last_of}
use Rattle.cept_profile.specs.Motions.{scrolling_area, strokes_of_scroll}
use Rattle.cept_profile.proofs.Halves.{above_strokes, back_strokes, below_strokes, on_strokes, working_above, working_ahead}
use Rattle.cept_profile.proofs.Halves.{working_back, working_below}

-- ---- each motion by where it may go

-- a property of effects that holds at an edge of the area that scrolls, and at every place without strokes, holds of each motion
pub by_below : (P : Working × List Stroke → Type 0) (s : ControlState) (c : ℕ)
    → P (working_at s.working.row c s.working, strokes_of_scroll s ways.Up (scrolling_area s))
    → ((r : ℕ) → P (working_at r c s.working, [])) → P (below s c)
by_below P s c edge there =
    let r : ℕ = cond (eqb s.working.row s.rows) (cond s.wrap 1 s.working.row) (s.working.row + 1) in
    cond_both (is_last_of (scrolling_area s) s.working.row)
    (working_at s.working.row c s.working, strokes_of_scroll s ways.Up (scrolling_area s)) (working_at r c s.working, []) P
    (λ e. edge) (λ e. there r)

pub by_above : (P : Working × List Stroke → Type 0) (s : ControlState) (c : ℕ)
    → P (working_at s.working.row c s.working, strokes_of_scroll s ways.Down (scrolling_area s))
    → ((r : ℕ) → P (working_at r c s.working, [])) → P (above s c)
by_above P s c edge there =
    let r : ℕ = cond (eqb s.working.row 1) (cond s.wrap s.rows s.working.row) (s.working.row - 1) in
    cond_both (is_first_of (scrolling_area s) s.working.row)
    (working_at s.working.row c s.working, strokes_of_scroll s ways.Down (scrolling_area s)) (working_at r c s.working, []) P
    (λ e. edge) (λ e. there r)

pub by_ahead : (P : Working × List Stroke → Type 0) (s : ControlState) (n : ℕ)
    → P (working_at s.working.row 1 s.working, strokes_of_scroll s ways.Up (scrolling_area s))
    → ((r c : ℕ) → P (working_at r c s.working, [])) → P (ahead s n)
by_ahead P s n edge there =
    let w : Working = s.working in
    cond_both (leb (w.column + n) 40) (working_at w.row (w.column + n) w, [])
    (cond s.wrap (below s 1) (working_at w.row 40 w, [])) P (λ e. there w.row (w.column + n))
    (λ e. cond_both s.wrap (below s 1) (working_at w.row 40 w, []) P (λ e1. by_below P s 1 edge (λ r. there r 1))
    (λ e1. there w.row 40))

pub by_back : (P : Working × List Stroke → Type 0) (s : ControlState)
    → P (working_at s.working.row 40 s.working, strokes_of_scroll s ways.Down (scrolling_area s))
    → ((r c : ℕ) → P (working_at r c s.working, [])) → P (back s)
by_back P s edge there =
    let w : Working = s.working in
    cond_both (eqb w.column 1) (cond s.wrap (above s 40) (w, [])) (working_at w.row (w.column - 1) w, []) P
    (λ e. cond_both s.wrap (above s 40) (w, []) P (λ e1. by_above P s 40 edge (λ r. there r 40))
    (λ e1. there w.row w.column))
    (λ e. there w.row (w.column - 1))

-- a motion changes nothing of the working state but its place
pub below-at : (P : Working → Type 0) (s : ControlState) (c : ℕ) → ((r : ℕ) → P (working_at r c s.working))
    → P (working_below s c)
below-at P s c there = by_below (λ m. P m.0) s c (there s.working.row) there

pub above-at : (P : Working → Type 0) (s : ControlState) (c : ℕ) → ((r : ℕ) → P (working_at r c s.working))
    → P (working_above s c)
above-at P s c there = by_above (λ m. P m.0) s c (there s.working.row) there

pub ahead-at : (P : Working → Type 0) (s : ControlState) (n : ℕ) → ((r c : ℕ) → P (working_at r c s.working))
    → P (working_ahead s n)
ahead-at P s n there = by_ahead (λ m. P m.0) s n (there s.working.row 1) there

pub back-at : (P : Working → Type 0) (s : ControlState) → ((r c : ℕ) → P (working_at r c s.working))
    → P (working_back s)
back-at P s there = by_back (λ m. P m.0) s (there s.working.row 40) there

-- what holds of the shift of the area that scrolls, and where there are no strokes, holds of those of each motion
pub by_below_strokes : (P : List Stroke → Type 0) (s : ControlState) (c : ℕ) → P []
    → P (strokes_of_scroll s ways.Up (scrolling_area s)) → P (below_strokes s c)
by_below_strokes P s c none shift = by_below (λ m. P m.1) s c shift (λ r. none)

pub by_above_strokes : (P : List Stroke → Type 0) (s : ControlState) (c : ℕ) → P []
    → P (strokes_of_scroll s ways.Down (scrolling_area s)) → P (above_strokes s c)
by_above_strokes P s c none shift = by_above (λ m. P m.1) s c shift (λ r. none)

pub by_on_strokes : (P : List Stroke → Type 0) (s : ControlState) (n : ℕ) → P []
    → P (strokes_of_scroll s ways.Up (scrolling_area s)) → P (on_strokes s n)
by_on_strokes P s n none shift = by_ahead (λ m. P m.1) s n shift (λ r c. none)

pub by_back_strokes : (P : List Stroke → Type 0) (s : ControlState) → P []
    → P (strokes_of_scroll s ways.Down (scrolling_area s)) → P (back_strokes s)
by_back_strokes P s none shift = by_back (λ m. P m.1) s shift (λ r c. none)

-- ---- at most one

pub length-strokes_of_scroll : (s : ControlState) (way : Up) (area : Option (ℕ × ℕ)) → length (strokes_of_scroll s way area) ≤ 1
length-strokes_of_scroll s way None = omega arith
length-strokes_of_scroll s way (Some area) = omega arith

abbrev pub IsShort : List Stroke → Type 0
IsShort strokes = length strokes ≤ 1

pub length-below_strokes : (s : ControlState) (c : ℕ) → length (below_strokes s c) ≤ 1
length-below_strokes s c =
    by_below_strokes IsShort s c (omega arith) (length-strokes_of_scroll s ways.Up (scrolling_area s))

pub length-above_strokes : (s : ControlState) (c : ℕ) → length (above_strokes s c) ≤ 1
length-above_strokes s c =
    by_above_strokes IsShort s c (omega arith) (length-strokes_of_scroll s ways.Down (scrolling_area s))

pub length-on_strokes : (s : ControlState) (n : ℕ) → length (on_strokes s n) ≤ 1
length-on_strokes s n =
    by_on_strokes IsShort s n (omega arith) (length-strokes_of_scroll s ways.Up (scrolling_area s))

pub length-back_strokes : (s : ControlState) → length (back_strokes s) ≤ 1
length-back_strokes s =
    by_back_strokes IsShort s (omega arith) (length-strokes_of_scroll s ways.Down (scrolling_area s))

-- ---- none where no area scrolls

pub on_strokes-none : (s : ControlState) (n : ℕ) → scrolling_area s ≡ None → on_strokes s n ≡ []
on_strokes-none s n none =
    by_on_strokes (λ (strokes : List Stroke). strokes ≡ []) s n refl (ap (strokes_of_scroll s ways.Up) none)
