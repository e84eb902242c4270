-- Motions: with wrap the places of a format follow one another in a circle.
use Rattle.std.proofs.Common.{◌≡◌, ℕ, ◌+◌, ◌-◌, ◌*◌, ◌%◌, ◌≤◌, ◌<◌, ◌⊎◌, true, cond, eqb, leb, inl, inr, refl, sym}
use Rattle.std.proofs.Common.{Option, None, List, [], subst, arith}
use Rattle.std.proofs.lemmas.Bool.{cond-true, cond_both, eqb-true, eqb-false, leb-true, leb-false}
use Rattle.cept_codes.specs.declared.command.Command.TheVariants as commands
use Rattle.cept_codes.specs.declared.command.Up.TheVariants as ways
use Rattle.cept_codes.specs.declared.stroke.Stroke.{Stroke}
use Rattle.cept_codes.specs.Place.{OnScreen, number}
use Rattle.cept_profile.specs.Control.{Working, ControlState, working_at, state_for_effect, control_after}
use Rattle.cept_profile.specs.Motions.{above, below, is_first_of, is_last_of, place_number, scrolling_area, strokes_of_scroll}
use Rattle.cept_profile.specs.Valid.{IsValidControl}
use Rattle.cept_profile.proofs.Halves.{working_above, working_ahead, working_back, working_below}
use Rattle.cept_profile.proofs.ValidControl.{IsValidControl-state_for_effect}

-- a number of the page, or one that is a whole page too high
round : (rows n m : ℕ) → (rows ≡ 24) ⊎ (rows ≡ 20) → m < 40 * rows → (n ≡ m) ⊎ (n ≡ m + 40 * rows) → n % (40 * rows) ≡ m
round rows n m format below at = elim format [
  | inl e ↦ subst (λ k. m < 40 * k → (n ≡ m) ⊎ (n ≡ m + 40 * k) → n % (40 * k) ≡ m) (sym e)
      (λ low cases. omega (arith, low, cases)) below at
  | inr e ↦ subst (λ k. m < 40 * k → (n ≡ m) ⊎ (n ≡ m + 40 * k) → n % (40 * k) ≡ m) (sym e)
      (λ low cases. omega (arith, low, cases)) below at
]

number-within : (rows r c : ℕ) → 1 ≤ r → r ≤ rows → 1 ≤ c → c ≤ 40 → number r c < 40 * rows
number-within rows r c top bottom left right = omega (arith, top, bottom, left, right)

-- where no area scrolls, a motion down and one up go round the circle of rows
goes_below : (s : ControlState) (c : ℕ) → scrolling_area s ≡ None → (P : Working → Type 0)
    → P (working_at (cond (eqb s.working.row s.rows) (cond s.wrap 1 s.working.row) (s.working.row + 1)) c s.working)
    → P (working_below s c)
goes_below s c still P there =
    let r : ℕ = s.working.row in
    subst (λ (area : Option (ℕ × ℕ)). P (cond {A = Working × List Stroke} (is_last_of area r)
    (working_at r c s.working, strokes_of_scroll s ways.Up area)
    (working_at (cond (eqb r s.rows) (cond s.wrap 1 r) (r + 1)) c s.working, [])).0) (sym still) there

goes_above : (s : ControlState) (c : ℕ) → scrolling_area s ≡ None → (P : Working → Type 0)
    → P (working_at (cond (eqb s.working.row 1) (cond s.wrap s.rows s.working.row) (s.working.row - 1)) c s.working)
    → P (working_above s c)
goes_above s c still P there =
    let r : ℕ = s.working.row in
    subst (λ (area : Option (ℕ × ℕ)). P (cond {A = Working × List Stroke} (is_first_of area r)
    (working_at r c s.working, strokes_of_scroll s ways.Down area)
    (working_at (cond (eqb r 1) (cond s.wrap s.rows r) (r - 1)) c s.working, [])).0) (sym still) there

-- one place on
on-next : (s : ControlState) → IsValidControl s → scrolling_area s ≡ None → s.wrap ≡ true
    → (let m = working_ahead s 1 in (number s.working.row s.working.column + 1) % (40 * s.rows)
    ≡ number m.row m.column)
on-next s is still wrap =
    let w : Working = s.working in
    let on : OnScreen w.row w.column = is.working.place in
    cond_both (leb (w.column + 1) 40) (working_at w.row (w.column + 1) w, [])
    (cond s.wrap (below s 1) (working_at w.row 40 w, []))
    (λ (m : Working × List Stroke). (number w.row w.column + 1) % (40 * s.rows) ≡ number m.0.row m.0.column)
    (λ e. let fits = leb-true (w.column + 1) 40 e in
    round s.rows (number w.row w.column + 1) (number w.row (w.column + 1)) is.rows
    (number-within s.rows w.row (w.column + 1) on.from_top is.within (omega arith) fits)
    (inl (omega (arith, on))))
    (λ e. let past = leb-false (w.column + 1) 40 e in
    subst (λ (m : Working × List Stroke). (number w.row w.column + 1) % (40 * s.rows) ≡ number m.0.row m.0.column)
    (sym (cond-true s.wrap (below s 1) (working_at w.row 40 w, []) wrap))
    (goes_below s 1 still (λ (m : Working). (number w.row w.column + 1) % (40 * s.rows) ≡ number m.row m.column)
    (cond_both (eqb w.row s.rows) (cond s.wrap 1 w.row) (w.row + 1)
    (λ r. (number w.row w.column + 1) % (40 * s.rows) ≡ number r 1)
    (λ last. subst (λ r. (number w.row w.column + 1) % (40 * s.rows) ≡ number r 1) (sym (cond-true s.wrap 1 w.row wrap))
    (let at = eqb-true w.row s.rows last in round s.rows (number w.row w.column + 1) 0 is.rows (omega (arith, on, at))
    (inr (omega (arith, on, at, past)))))
    (λ other. let not_last = eqb-false w.row s.rows other in
    let row = is.within in
    round s.rows (number w.row w.column + 1) (number (w.row + 1) 1) is.rows
    (number-within s.rows (w.row + 1) 1 (omega arith) (omega arith) (omega arith) (omega arith))
    (inl (omega (arith, on, past)))))))

-- one place back, and on again
back-next : (s : ControlState) → IsValidControl s → scrolling_area s ≡ None → s.wrap ≡ true
    → (let m = working_back s in (number m.row m.column + 1) % (40 * s.rows)
    ≡ number s.working.row s.working.column)
back-next s is still wrap =
    let w : Working = s.working in
    let on : OnScreen w.row w.column = is.working.place in
    let inside = number-within s.rows w.row w.column on.from_top is.within on.from_left on.to_right in
    cond_both (eqb w.column 1) (cond s.wrap (above s 40) (w, [])) (working_at w.row (w.column - 1) w, [])
    (λ (m : Working × List Stroke). (number m.0.row m.0.column + 1) % (40 * s.rows) ≡ number w.row w.column)
    (λ e. let first = eqb-true w.column 1 e in
    subst (λ (m : Working × List Stroke). (number m.0.row m.0.column + 1) % (40 * s.rows) ≡ number w.row w.column)
    (sym (cond-true s.wrap (above s 40) (w, []) wrap))
    (goes_above s 40 still (λ (m : Working). (number m.row m.column + 1) % (40 * s.rows) ≡ number w.row w.column)
    (cond_both (eqb w.row 1) (cond s.wrap s.rows w.row) (w.row - 1)
    (λ r. (number r 40 + 1) % (40 * s.rows) ≡ number w.row w.column)
    (λ top. subst (λ r. (number r 40 + 1) % (40 * s.rows) ≡ number w.row w.column)
    (sym (cond-true s.wrap s.rows w.row wrap))
    (let at = eqb-true w.row 1 top in let row = is.within in round s.rows (number s.rows 40 + 1)
    (number w.row w.column) is.rows inside (inr (omega (arith, on, at, first, row)))))
    (λ other. let below = eqb-false w.row 1 other in
    round s.rows (number (w.row - 1) 40 + 1) (number w.row w.column) is.rows inside
    (inl (omega (arith, on, below, first)))))))
    (λ e. let right = eqb-false w.column 1 e in
    round s.rows (number w.row (w.column - 1) + 1) (number w.row w.column) is.rows inside
    (inl (omega (arith, on, right))))

-- a row down
down-row : (s : ControlState) → IsValidControl s → scrolling_area s ≡ None → s.wrap ≡ true
    → (let m = working_below s s.working.column in (number s.working.row s.working.column + 40) % (40 * s.rows)
    ≡ number m.row m.column)
down-row s is still wrap =
    let w : Working = s.working in
    let on : OnScreen w.row w.column = is.working.place in
    let row = is.within in
    goes_below s w.column still
    (λ (m : Working). (number w.row w.column + 40) % (40 * s.rows) ≡ number m.row m.column)
    (cond_both (eqb w.row s.rows) (cond s.wrap 1 w.row) (w.row + 1)
    (λ r. (number w.row w.column + 40) % (40 * s.rows) ≡ number r w.column)
    (λ last. subst (λ r. (number w.row w.column + 40) % (40 * s.rows) ≡ number r w.column)
    (sym (cond-true s.wrap 1 w.row wrap))
    (let at = eqb-true w.row s.rows last in round s.rows (number w.row w.column + 40) (number 1 w.column) is.rows
    (omega (arith, on, at)) (inr (omega (arith, on, at)))))
    (λ other. let not_last = eqb-false w.row s.rows other in
    round s.rows (number w.row w.column + 40) (number (w.row + 1) w.column) is.rows
    (number-within s.rows (w.row + 1) w.column (omega arith) (omega arith) on.from_left on.to_right)
    (inl (omega (arith, on)))))

-- a row up, and down again
up-row : (s : ControlState) → IsValidControl s → scrolling_area s ≡ None → s.wrap ≡ true
    → (let m = working_above s s.working.column in (number m.row m.column + 40) % (40 * s.rows)
    ≡ number s.working.row s.working.column)
up-row s is still wrap =
    let w : Working = s.working in
    let on : OnScreen w.row w.column = is.working.place in
    let row = is.within in
    let inside = number-within s.rows w.row w.column on.from_top row on.from_left on.to_right in
    goes_above s w.column still
    (λ (m : Working). (number m.row m.column + 40) % (40 * s.rows) ≡ number w.row w.column)
    (cond_both (eqb w.row 1) (cond s.wrap s.rows w.row) (w.row - 1)
    (λ r. (number r w.column + 40) % (40 * s.rows) ≡ number w.row w.column)
    (λ top. subst (λ r. (number r w.column + 40) % (40 * s.rows) ≡ number w.row w.column)
    (sym (cond-true s.wrap s.rows w.row wrap))
    (let at = eqb-true w.row 1 top in let row = is.within in round s.rows (number s.rows w.column + 40)
    (number w.row w.column) is.rows inside (inr (omega (arith, on, at, row)))))
    (λ other. let below = eqb-false w.row 1 other in
    round s.rows (number (w.row - 1) w.column + 40) (number w.row w.column) is.rows inside
    (inl (omega (arith, on, below)))))

pub circle-forward : (s : ControlState) → IsValidControl s → scrolling_area s ≡ None → s.wrap ≡ true → (place_number s + 1) % (40 * s.rows)
    ≡ place_number (control_after s commands.Forward)
circle-forward s is still wrap =
    on-next (state_for_effect s commands.Forward) (IsValidControl-state_for_effect s commands.Forward is) still wrap

pub circle-back : (s : ControlState) → IsValidControl s → scrolling_area s ≡ None → s.wrap ≡ true
    → (place_number (control_after s commands.Back) + 1) % (40 * s.rows) ≡ place_number s
circle-back s is still wrap =
    back-next (state_for_effect s commands.Back) (IsValidControl-state_for_effect s commands.Back is) still wrap

pub circle-down : (s : ControlState) → IsValidControl s → scrolling_area s ≡ None → s.wrap ≡ true → (place_number s + 40) % (40 * s.rows)
    ≡ place_number (control_after s commands.Down)
circle-down s is still wrap =
    down-row (state_for_effect s commands.Down) (IsValidControl-state_for_effect s commands.Down is) still wrap

pub circle-up : (s : ControlState) → IsValidControl s → scrolling_area s ≡ None → s.wrap ≡ true
    → (place_number (control_after s commands.Up) + 40) % (40 * s.rows) ≡ place_number s
circle-up s is still wrap =
    up-row (state_for_effect s commands.Up) (IsValidControl-state_for_effect s commands.Up is) still wrap

pub place-home : (s : ControlState) → place_number (control_after s commands.Home) ≡ 0
place-home s = refl

pub place-returned : (s : ControlState) → place_number (control_after s commands.Return) ≡ number s.working.row 1
place-returned s = refl

pub place-named : (s : ControlState) (r c : ℕ) → r ≤ s.rows
    → place_number (control_after s (commands.Position r c)) ≡ number r c
place-named s r c within = omega (arith, within)
