-- Valid control: the initial state is valid, and every valid command keeps it valid.
use Rattle.std.proofs.Common.{◌≡◌, ◌⊎◌, ℕ, ◌+◌, ◌-◌, ◌≤◌, ◌&&◌, ◌||◌, zero, suc, Bool, false, min, cond, eqb, leb}
use Rattle.std.proofs.Common.{rules, Option, Some, None, List, [], unwrap_or, inl, inr, refl, arith}
use Rattle.std.specs.Prelude.{IfSome}
use Rattle.std.proofs.lemmas.Bool.{cond_both, eqb-false, leb-true}
use Rattle.std.proofs.lemmas.Bool.Decides.{nat_tests}
use Rattle.cept_codes.specs.declared.attribute.Attr.{Attr}
use Rattle.cept_codes.specs.declared.attribute.Attr.TheVariants as attrs
use Rattle.cept_codes.specs.declared.attribute.Pen.{Pen}
use Rattle.cept_codes.specs.declared.attribute.Size.{Size}
use Rattle.cept_codes.specs.declared.attribute.Size.TheVariants as sizes
use Rattle.cept_codes.specs.declared.cell.Marker.{Marker}
use Rattle.cept_codes.specs.declared.cell.Marker.TheVariants as markers
use Rattle.cept_codes.specs.declared.command.C1Set.{C1Set}
use Rattle.cept_codes.specs.declared.command.C1Set.TheVariants as c1sets
use Rattle.cept_codes.specs.declared.command.Command.{Command}
use Rattle.cept_codes.specs.declared.command.Command.TheVariants as commands
use Rattle.cept_codes.specs.declared.glyph.Glyph.{Glyph}
use Rattle.cept_codes.specs.declared.glyph.Read.{Read}
use Rattle.cept_codes.specs.declared.glyph.Read.TheVariants as reads
use Rattle.cept_codes.specs.declared.glyph.SetId.{SetId}
use Rattle.cept_codes.specs.declared.glyph.SetId.TheVariants as sets
use Rattle.cept_codes.specs.Attribute.{IsValidAttr, IsValidPen, unset_pen}
use Rattle.cept_codes.specs.Command.{IsArea, IsGraphic, IsValidCommand}
use Rattle.cept_codes.specs.Glyph.{IsCodeOf, IsValidGlyph}
use Rattle.cept_codes.specs.declared.stroke.Stroke.{Stroke}
use Rattle.cept_codes.specs.declared.command.Up.TheVariants as ways
use Rattle.cept_codes.specs.Place.{OnScreen}
use Rattle.cept_profile.specs.Control.{Working, ControlState, initial_control, initial_sets, initial_working}
use Rattle.cept_profile.specs.Control.{control_with, working_afresh, working_at, finds_accent}
use Rattle.cept_profile.specs.Control.{working_by_default}
use Rattle.cept_profile.specs.Control.{state_for_effect, control_after}
use Rattle.cept_profile.specs.Markers.{run_after, step_after}
use Rattle.cept_profile.specs.Motions.{above, below, is_first_of, is_last_of, scrolling_area, strokes_of_scroll}
use Rattle.cept_profile.specs.Pens.{c1_function, fast_after, flash_of, pen_with}
use Rattle.cept_profile.specs.Sets.{Sets, IsAccent, IsValidRead, code_of, set_of, sets_with}
use Rattle.cept_profile.specs.Tiling.{columns_of_size}
use Rattle.cept_profile.specs.Valid.{AreValidSets, IsValidWorking, IsValidControl}
use Rattle.cept_profile.specs.Writing.{control_after_shift, effect_of_copies, graphic_read, sign_with_accent}
use Rattle.cept_profile.proofs.Halves.{area_without, control_after_service}
use Rattle.cept_profile.proofs.Halves.{columns_of_sign, control_after_copies, control_effect, flashing, revealing, working_after_function}
use Rattle.cept_profile.proofs.Halves.{working_after_marker, working_after_read, working_after_repeat}
use Rattle.cept_profile.proofs.Halves.{working_above, working_after_sign, working_ahead, working_back, working_below}
use Rattle.cept_profile.proofs.CodesRead.{IsCode-code_of, IsValidRead-read_as}
use Rattle.cept_profile.proofs.ValidAttributes.{HasValidAttr-c1_function}

pub IsValidPen-unset_pen : IsValidPen unset_pen
IsValidPen-unset_pen = record { fore = tt; back = tt }

AreValidSets-initial_control : AreValidSets initial_sets
AreValidSets-initial_control = record { left = omega arith; right = (omega arith, omega arith); single = tt }

pub IsValidWorking-initial_control : IsValidWorking initial_working
IsValidWorking-initial_control = search rules

pub IsValidControl-initial_control : IsValidControl initial_control
IsValidControl-initial_control = record
    { working = IsValidWorking-initial_control; rows = inl refl; within = omega arith; area = tt; revision = inl refl; kept = tt }

-- ---- the working state of a format of so many rows

pub record IsWithin (rows : ℕ) (w : Working) : Type 0 where
  pub valid : IsValidWorking w
  pub row : w.row ≤ rows

pub IsWithin-control : (s : ControlState) → IsValidControl s → IsWithin s.rows s.working
IsWithin-control s is = record { valid = is.working; row = is.within }

pub IsWithin-working_at : (rows r c : ℕ) (w : Working) → IsWithin rows w → OnScreen r c → r ≤ rows
    → IsWithin rows (working_at r c w)
IsWithin-working_at rows r c w is on row = assumption

-- with no run
pub IsWithin-without_run : (rows : ℕ) (w : Working) → IsWithin rows w → IsWithin rows (record w { run = false; step = 1 })
IsWithin-without_run rows w is = search rules

-- at another place, with no run and no pen
pub IsWithin-working_afresh : (rows r c : ℕ) (w : Working) → IsWithin rows w → OnScreen r c → r ≤ rows
    → IsWithin rows (working_afresh r c w)
IsWithin-working_afresh rows r c w is on row = search rules

pub rows-bounds : (s : ControlState) → IsValidControl s → (20 ≤ s.rows) × (s.rows ≤ 24)
rows-bounds s is = (omega (arith, is.rows), omega (arith, is.rows))

-- a row of the format, in a column
IsWithin-row : (s : ControlState) (r c : ℕ) → IsValidControl s → 1 ≤ r → r ≤ s.rows → 1 ≤ c → c ≤ 40
    → IsWithin s.rows (working_at r c s.working)
IsWithin-row s r c is top within left right =
    let bounds = rows-bounds s is in
    IsWithin-working_at s.rows r c s.working (IsWithin-control s is)
    (record { from_top = top; to_bottom = omega arith; from_left = left; to_right = right }) within

-- the row below is a row of the format
IsWithin-next : (s : ControlState) (c : ℕ) → IsValidControl s → 1 ≤ c → c ≤ 40 → IsWithin s.rows
    (working_at (cond (eqb s.working.row s.rows) (cond s.wrap 1 s.working.row) (s.working.row + 1)) c s.working)
IsWithin-next s c is left right =
    let r : ℕ = s.working.row in
    let top : 1 ≤ r = is.working.place.from_top in
    let bounds = rows-bounds s is in
    cond_both (eqb r s.rows) (cond s.wrap 1 r) (r + 1) (λ k. IsWithin s.rows (working_at k c s.working))
    (λ e. cond_both s.wrap 1 r (λ k. IsWithin s.rows (working_at k c s.working))
    (λ w. IsWithin-row s 1 c is (omega arith) (omega arith) left right)
    (λ w. IsWithin-row s r c is top is.within left right))
    (λ e. let other = eqb-false r s.rows e in let within = is.within in
    IsWithin-row s (r + 1) c is (omega arith) (omega arith) left right)

IsWithin-working_below : (s : ControlState) (c : ℕ) → IsValidControl s → 1 ≤ c → c ≤ 40
    → IsWithin s.rows (working_below s c)
IsWithin-working_below s c is left right =
    let r : ℕ = s.working.row in
    let next : ℕ = cond (eqb r s.rows) (cond s.wrap 1 r) (r + 1) in
    cond_both (is_last_of (scrolling_area s) r)
    (working_at r c s.working, strokes_of_scroll s ways.Up (scrolling_area s)) (working_at next c s.working, [])
    (λ (m : Working × List Stroke). IsWithin s.rows m.0)
    (λ e. IsWithin-row s r c is is.working.place.from_top is.within left right)
    (λ e. IsWithin-next s c is left right)

pub IsWithin-working_ahead : (s : ControlState) (n : ℕ) → IsValidControl s → IsWithin s.rows (working_ahead s n)
IsWithin-working_ahead s n is =
    let w : Working = s.working in
    let on : OnScreen w.row w.column = is.working.place in
    cond_both (leb (w.column + n) 40) (working_at w.row (w.column + n) w, [])
    (cond s.wrap (below s 1) (working_at w.row 40 w, [])) (λ (m : Working × List Stroke). IsWithin s.rows m.0)
    (λ e. let within = leb-true (w.column + n) 40 e in
    IsWithin-row s w.row (w.column + n) is on.from_top is.within (omega arith) within)
    (λ e. cond_both s.wrap (below s 1) (working_at w.row 40 w, []) (λ (m : Working × List Stroke). IsWithin s.rows m.0)
    (λ wraps. IsWithin-working_below s 1 is (omega arith) (omega arith))
    (λ stays. IsWithin-row s w.row 40 is on.from_top is.within (omega arith) (omega arith)))

-- the row above is a row of the format
IsWithin-before : (s : ControlState) (c : ℕ) → IsValidControl s → 1 ≤ c → c ≤ 40 → IsWithin s.rows
    (working_at (cond (eqb s.working.row 1) (cond s.wrap s.rows s.working.row) (s.working.row - 1)) c s.working)
IsWithin-before s c is left right =
    let r : ℕ = s.working.row in
    let top : 1 ≤ r = is.working.place.from_top in
    let bounds = rows-bounds s is in
    cond_both (eqb r 1) (cond s.wrap s.rows r) (r - 1) (λ k. IsWithin s.rows (working_at k c s.working))
    (λ e. cond_both s.wrap s.rows r (λ k. IsWithin s.rows (working_at k c s.working))
    (λ w. IsWithin-row s s.rows c is (omega arith) (omega arith) left right)
    (λ w. IsWithin-row s r c is top is.within left right))
    (λ e. let other = eqb-false r 1 e in let within = is.within in
    IsWithin-row s (r - 1) c is (omega arith) (omega arith) left right)

IsWithin-working_above : (s : ControlState) (c : ℕ) → IsValidControl s → 1 ≤ c → c ≤ 40
    → IsWithin s.rows (working_above s c)
IsWithin-working_above s c is left right =
    let r : ℕ = s.working.row in
    let before : ℕ = cond (eqb r 1) (cond s.wrap s.rows r) (r - 1) in
    cond_both (is_first_of (scrolling_area s) r)
    (working_at r c s.working, strokes_of_scroll s ways.Down (scrolling_area s)) (working_at before c s.working, [])
    (λ (m : Working × List Stroke). IsWithin s.rows m.0)
    (λ e. IsWithin-row s r c is is.working.place.from_top is.within left right)
    (λ e. IsWithin-before s c is left right)

pub IsWithin-working_back : (s : ControlState) → IsValidControl s → IsWithin s.rows (working_back s)
IsWithin-working_back s is =
    let w : Working = s.working in
    let on : OnScreen w.row w.column = is.working.place in
    cond_both (eqb w.column 1) (cond s.wrap (above s 40) (w, [])) (working_at w.row (w.column - 1) w, [])
    (λ (m : Working × List Stroke). IsWithin s.rows m.0)
    (λ e. cond_both s.wrap (above s 40) (w, []) (λ (m : Working × List Stroke). IsWithin s.rows m.0)
    (λ wraps. IsWithin-working_above s 40 is (omega arith) (omega arith)) (λ stays. IsWithin-control s is))
    (λ e. let other = eqb-false w.column 1 e in IsWithin-row s w.row (w.column - 1) is on.from_top is.within
    (omega arith) (omega arith))

-- ---- sets

pub AreValidSets-sets_with : (s : Sets) (g : ℕ) (set : SetId) → AreValidSets s → AreValidSets (sets_with s g set)
AreValidSets-sets_with s g set is =
    cond_both (eqb g 0) (record s { g0 = set })
    (cond (eqb g 1) (record s { g1 = set })
    (cond (eqb g 2) (record s { g2 = set }) (record s { g3 = set }))) AreValidSets
    (λ e. record { left = is.left; right = is.right; single = is.single })
    (λ e. cond_both (eqb g 1) (record s { g1 = set })
    (cond (eqb g 2) (record s { g2 = set }) (record s { g3 = set })) AreValidSets
    (λ e'. record { left = is.left; right = is.right; single = is.single })
    (λ e'. cond_both (eqb g 2) (record s { g2 = set }) (record s { g3 = set }) AreValidSets
    (λ e''. record { left = is.left; right = is.right; single = is.single })
    (λ e''. record { left = is.left; right = is.right; single = is.single })))

IsWithin-sets : (rows : ℕ) (sets : Sets) (w : Working) → IsWithin rows w → AreValidSets sets
    → IsWithin rows (record w { sets = sets })
IsWithin-sets rows sets w is valid = assumption

-- ---- pens

pub IsWithin-pen : (rows : ℕ) (pen : Pen) (fast : ℕ) (w : Working) → IsWithin rows w → IsValidPen pen → fast ≤ 3
    → IsWithin rows (record w { pen = pen; fast = fast })
IsWithin-pen rows pen fast w is valid_pen valid_fast = assumption

pub IsValidPen-pen_with : (attribute : Attr) (p : Pen) → IsValidAttr attribute → IsValidPen p
    → IsValidPen (pen_with attribute p)
IsValidPen-pen_with (attrs.Fore e) p valid is = record { fore = valid; back = is.back }
IsValidPen-pen_with (attrs.Back e) p valid is = record { fore = is.fore; back = valid }
IsValidPen-pen_with attrs.NoBack p valid is = record { fore = is.fore; back = tt }
IsValidPen-pen_with (attrs.Flash f) p valid is = record { fore = is.fore; back = is.back }
IsValidPen-pen_with (attrs.Conceal b) p valid is = record { fore = is.fore; back = is.back }
IsValidPen-pen_with (attrs.Lined b) p valid is = record { fore = is.fore; back = is.back }
IsValidPen-pen_with (attrs.Boxed b) p valid is = record { fore = is.fore; back = is.back }
IsValidPen-pen_with (attrs.Size s) p valid is = record { fore = is.fore; back = is.back }
IsValidPen-pen_with (attrs.Invert b) p valid is = record { fore = is.fore; back = is.back }

pub fast_after-in_range : (mode fast : ℕ) → fast ≤ 3 → fast_after mode fast ≤ 3
fast_after-in_range mode fast low = grind (arith, nat_tests)

-- the fast flash after a code of flash or another
fast_after_code-in_range : (n fast : ℕ) → fast ≤ 3 → cond (eqb n 8 || eqb n 9) 0 fast ≤ 3
fast_after_code-in_range n fast low = cond_both (eqb n 8 || eqb n 9) 0 fast (λ k. k ≤ 3) (λ e. omega arith) (λ e. low)

-- a sign takes one column or two
columns_of_size-in_range : (size : Size) → (columns_of_size size ≡ 1) ⊎ (columns_of_size size ≡ 2)
columns_of_size-in_range sizes.Normal = inl refl
columns_of_size-in_range sizes.High = inl refl
columns_of_size-in_range sizes.Wide = inr refl
columns_of_size-in_range sizes.Both = inr refl

-- and so far signs move on after a marker
step_after-in_range : (m : Marker) (step : ℕ) → (step ≡ 1) ⊎ (step ≡ 2)
    → (step_after m step ≡ 1) ⊎ (step_after m step ≡ 2)
step_after-in_range (markers.Size size) step is = columns_of_size-in_range size
step_after-in_range _ step is = is

-- another run and step, and another fast flash
IsWithin-run : (rows : ℕ) (run : Bool) (step : ℕ) (w : Working) → IsWithin rows w → (step ≡ 1) ⊎ (step ≡ 2)
    → IsWithin rows (record w { run = run; step = step })
IsWithin-run rows run step w is valid_step = assumption

IsWithin-fast : (rows : ℕ) (fast : ℕ) (w : Working) → IsWithin rows w → fast ≤ 3
    → IsWithin rows (record w { fast = fast })
IsWithin-fast rows fast w is valid_fast = IsWithin-pen rows w.pen fast w is is.valid.pen valid_fast

-- a marker moves the position on
IsWithin-marker : (s : ControlState) (m : Marker) → IsValidControl s → IsWithin s.rows (working_after_marker s m)
IsWithin-marker s m is =
    IsWithin-run s.rows (run_after m s.working.run) (step_after m s.working.step) (working_ahead s 1)
    (IsWithin-working_ahead s 1 is) (step_after-in_range m s.working.step is.working.step)

IsWithin-working_after_function : (c1 : C1Set) (function : Option (Attr × Marker)) (fast : ℕ) (s : ControlState)
    → IsValidControl s → IfSome function (λ f. IsValidAttr f.0) → fast ≤ 3
    → IsWithin s.rows (working_after_function c1 function fast s)
IsWithin-working_after_function c1sets.Parallel None fast s is valid low =
    IsWithin-fast s.rows fast s.working (IsWithin-control s is) low
IsWithin-working_after_function c1sets.Parallel (Some function) fast s is valid low =
    IsWithin-pen s.rows (pen_with function.0 s.working.pen) fast s.working (IsWithin-control s is)
    (IsValidPen-pen_with function.0 s.working.pen valid is.working.pen) low
IsWithin-working_after_function c1sets.Serial None fast s is valid low =
    IsWithin-fast s.rows fast s.working (IsWithin-control s is) low
IsWithin-working_after_function c1sets.Serial (Some function) fast s is valid low =
    IsWithin-fast s.rows fast (working_after_marker s function.1) (IsWithin-marker s function.1 is) low

-- under another C1 set
IsWithin-c1 : (rows : ℕ) (set : C1Set) (w : Working) → IsWithin rows w → IsWithin rows (record w { c1 = set })
IsWithin-c1 rows set w is = assumption

-- with another colour table
IsWithin-with_table : (rows k : ℕ) (w : Working) → IsWithin rows w → k ≤ 3 → IsWithin rows (record w { table = k })
IsWithin-with_table rows k w is low = assumption

-- ---- signs and accents

pub IsValidControl-control_with : (s : ControlState) (w : Working) → IsValidControl s → IsWithin s.rows w
    → IsValidControl (control_with s w)
IsValidControl-control_with s w is within = assumption

IsWithin-accent : (rows : ℕ) (accent : Option ℕ) (w : Working) → IsWithin rows w → IfSome accent IsAccent
    → IsWithin rows (record w { accent = accent })
IsWithin-accent rows accent w is valid = assumption

pub IsWithin-working_after_sign : (s : ControlState) (g : Glyph) → IsValidControl s → IsValidGlyph g
    → IsWithin s.rows (working_after_sign s g)
IsWithin-working_after_sign s g is valid =
    let moved = IsWithin-working_ahead s (columns_of_sign s) is in
    assumption

-- a sign with the accent that waits is a sign
pub IsValidGlyph-sign_with_accent : (set : SetId) (code : ℕ) (accent : Option ℕ) → IsCodeOf set code
    → IfSome accent IsAccent
    → IsValidGlyph (sign_with_accent set code accent)
IsValidGlyph-sign_with_accent sets.P code None is valid = record { code = is; accent = inl refl }
IsValidGlyph-sign_with_accent sets.P code (Some accent) is valid = record { code = is; accent = inr valid }
IsValidGlyph-sign_with_accent sets.S code None is valid = record { code = is; accent = refl }
IsValidGlyph-sign_with_accent sets.S code (Some accent) is valid = record { code = is; accent = refl }
IsValidGlyph-sign_with_accent sets.M code None is valid = record { code = is; accent = refl }
IsValidGlyph-sign_with_accent sets.M code (Some accent) is valid = record { code = is; accent = refl }
IsValidGlyph-sign_with_accent sets.N code None is valid = record { code = is; accent = refl }
IsValidGlyph-sign_with_accent sets.N code (Some accent) is valid = record { code = is; accent = refl }
IsValidGlyph-sign_with_accent sets.D code None is valid = record { code = is; accent = refl }
IsValidGlyph-sign_with_accent sets.D code (Some accent) is valid = record { code = is; accent = refl }

IsWithin-working_after_read : (s : ControlState) (read : Read) → IsValidControl s → IsValidRead read
    → IsWithin s.rows (working_after_read s read)
IsWithin-working_after_read s (reads.Accent code) is valid =
    IsWithin-accent s.rows (Some code) s.working (IsWithin-control s is) valid
IsWithin-working_after_read s (reads.Glyph g) is valid =
    IsWithin-working_after_sign s (sign_with_accent g.set g.code s.working.accent) is
    (IsValidGlyph-sign_with_accent g.set g.code s.working.accent valid.code is.working.accent)

-- what a graphic byte gives is valid, and so are the sets after it
pub IsValidRead-graphic_read : (s : ControlState) (byte : ℕ) → IsGraphic byte → IsValidRead (graphic_read s byte)
IsValidRead-graphic_read s byte graphic =
    IsValidRead-read_as (set_of s.working.sets byte s.working.run) (code_of byte) (IsCode-code_of byte graphic)

pub IsValidControl-control_after_shift : (s : ControlState) → IsValidControl s
    → IsValidControl (control_after_shift s)
IsValidControl-control_after_shift s is =
    let sets : Sets = record s.working.sets { single = None } in
    let valid : AreValidSets sets = assumption in
    IsValidControl-control_with s (record s.working { sets = sets }) is
    (IsWithin-sets s.rows sets s.working (IsWithin-control s is) valid)

-- copies keep control valid
pub IsValidControl-control_after_copies : (n : ℕ) (s : ControlState) (g : Glyph) → IsValidControl s → IsValidGlyph g
    → IsValidControl (control_after_copies n s g)
unfolding effect_of_copies
IsValidControl-control_after_copies zero s g is valid = is
IsValidControl-control_after_copies (suc n) s g is valid =
    let earlier = IsValidControl-control_after_copies n s g is valid in
    IsValidControl-control_with (control_after_copies n s g) (working_after_sign (control_after_copies n s g) g) earlier
    (IsWithin-working_after_sign (control_after_copies n s g) g earlier valid)

IsWithin-working_after_repeat : (n : ℕ) (s : ControlState) (last : Option Glyph) → IsValidControl s
    → IfSome last IsValidGlyph
    → IsWithin s.rows (working_after_repeat n s last)
IsWithin-working_after_repeat n s None is valid = IsWithin-control s is
IsWithin-working_after_repeat n s (Some g) is valid =
    IsWithin-control (control_after_copies n s g) (IsValidControl-control_after_copies n s g is valid)

-- ---- commands

-- at the first place, with no run and no pen
IsWithin-home : (s : ControlState) → IsValidControl s → IsWithin s.rows (working_afresh 1 1 s.working)
IsWithin-home s is =
    let bounds = rows-bounds s is in
    let on : OnScreen 1 1 = record
    { from_top = omega arith; to_bottom = omega arith; from_left = omega arith; to_right = omega arith } in
    IsWithin-working_afresh s.rows 1 1 s.working (IsWithin-control s is) on (omega arith)

-- ---- the whole state

-- the state with another working state
IsValidControl-working : (s : ControlState) {w : Working} → IsValidControl s → IsWithin s.rows w
    → IsValidControl (control_with s w)
IsValidControl-working s {w} is within = IsValidControl-control_with s w is within

IsWithin-position : (s : ControlState) (r c : ℕ) → IsValidControl s → OnScreen r c
    → IsWithin s.rows (working_afresh (min r s.rows) c s.working)
IsWithin-position s r c is valid =
    let bounds = rows-bounds s is in
    let on : OnScreen (min r s.rows) c = search rules in
    IsWithin-working_afresh s.rows (min r s.rows) c s.working (IsWithin-control s is) on (omega arith)

-- the state with other sets
IsValidControl-sets : (s : ControlState) (sets : Sets) → IsValidControl s → AreValidSets sets
    → IsValidControl (control_with s (record s.working { sets = sets }))
IsValidControl-sets s sets is valid =
    IsValidControl-control_with s (record s.working { sets = sets }) is
    (IsWithin-sets s.rows sets s.working (IsWithin-control s is) valid)

-- the state without an accent that waits
IsValidControl-without_accent : (s : ControlState) → IsValidControl s
    → IsValidControl (control_with s (record s.working { accent = None }))
IsValidControl-without_accent s is =
    IsValidControl-control_with s (record s.working { accent = None }) is
    (IsWithin-accent s.rows None s.working (IsWithin-control s is) tt)

-- an area that stays is one
IsArea-without : (first last : ℕ) (area : Option (ℕ × ℕ)) → IfSome area (λ a. IsArea a.0 a.1)
    → IfSome (area_without first last area) (λ a. IsArea a.0 a.1)
IsArea-without first last None is = tt
IsArea-without first last (Some area) is =
    cond_both (eqb area.0 first && eqb area.1 last) None (Some area)
    (λ (kept : Option (ℕ × ℕ)). IfSome kept (λ a. IsArea a.0 a.1)) (λ e. tt) (λ e. is)

IsWithin-with_protect : (rows : ℕ) (on : Bool) (w : Working) → IsWithin rows w → IsWithin rows (record w { protect = on })
IsWithin-with_protect rows on w is = assumption

-- defaults at a place of the format
IsWithin-by_default : (rows : ℕ) (set : C1Set) (w : Working) → IsWithin rows w → IsWithin rows (working_by_default set w)
IsWithin-by_default rows set w is = search rules

-- what a service keeps
IsValidWorking-kept_first : (kept : Option Working) (w : Working) → IfSome kept IsValidWorking → IsValidWorking w
    → IfSome (Some (unwrap_or kept w)) IsValidWorking
IsValidWorking-kept_first None w was is = is
IsValidWorking-kept_first (Some k) w was is = was

IsValidControl-after_service : (s : ControlState) (kept : Option Working) → IsValidControl s
    → IfSome kept IsValidWorking → IsValidControl (control_after_service s kept)
IsValidControl-after_service s None is was = is
IsValidControl-after_service s (Some w) is was = search rules

pub IsValidControl-control_effect : (s : ControlState) (command : Command) → IsValidControl s → IsValidCommand command
    → IsValidControl (control_effect s command)
IsValidControl-control_effect s commands.Back is valid =
    IsValidControl-working s is (IsWithin-without_run s.rows (working_back s) (IsWithin-working_back s is))
IsValidControl-control_effect s commands.Forward is valid =
    IsValidControl-working s is (IsWithin-without_run s.rows (working_ahead s 1) (IsWithin-working_ahead s 1 is))
IsValidControl-control_effect s commands.Down is valid =
    IsValidControl-working s is (IsWithin-without_run s.rows (working_below s s.working.column)
    (IsWithin-working_below s s.working.column is is.working.place.from_left is.working.place.to_right))
IsValidControl-control_effect s commands.Up is valid =
    IsValidControl-working s is (IsWithin-without_run s.rows (working_above s s.working.column)
    (IsWithin-working_above s s.working.column is is.working.place.from_left is.working.place.to_right))
IsValidControl-control_effect s commands.Return is valid =
    IsValidControl-working s is (IsWithin-without_run s.rows (working_at s.working.row 1 s.working)
    (IsWithin-row s s.working.row 1 is is.working.place.from_top is.within (omega arith) (omega arith)))
IsValidControl-control_effect s commands.Home is valid = IsValidControl-working s is (IsWithin-home s is)
IsValidControl-control_effect s commands.Clear is valid = IsValidControl-working s is (IsWithin-home s is)
IsValidControl-control_effect s (commands.Position r c) is valid =
    IsValidControl-working s is (IsWithin-position s r c is valid)
IsValidControl-control_effect s (commands.LockLeft g) is valid =
    IsValidControl-sets s (record s.working.sets { left = g }) is
    (record { left = valid; right = is.working.sets.right; single = is.working.sets.single })
IsValidControl-control_effect s (commands.LockRight g) is valid =
    IsValidControl-sets s (record s.working.sets { right = g }) is
    (record { left = is.working.sets.left; right = valid; single = is.working.sets.single })
IsValidControl-control_effect s (commands.Single g) is valid =
    IsValidControl-sets s (record s.working.sets { single = Some g }) is
    (record { left = is.working.sets.left; right = is.working.sets.right; single = valid })
IsValidControl-control_effect s (commands.Designate g set) is valid =
    IsValidControl-sets s (sets_with s.working.sets g set) is
    (AreValidSets-sets_with s.working.sets g set is.working.sets)
IsValidControl-control_effect s (commands.Graphic byte) is valid =
    IsValidControl-working s is (IsWithin-working_after_read (control_after_shift s) (graphic_read s byte)
    (IsValidControl-control_after_shift s is) (IsValidRead-graphic_read s byte valid))
IsValidControl-control_effect s (commands.Repeat n) is valid =
    IsValidControl-working s is (IsWithin-working_after_repeat n s s.working.last is is.working.last)
IsValidControl-control_effect s (commands.C1 n) is valid =
    IsValidControl-working s is
    (IsWithin-working_after_function s.working.c1 (c1_function s.working.table n)
    (cond (eqb n 8 || eqb n 9) 0 s.working.fast) s is (HasValidAttr-c1_function s.working.table n is.working.table)
    (fast_after_code-in_range n s.working.fast is.working.fast))
IsValidControl-control_effect s (commands.DesignateC1 set) is valid =
    IsValidControl-working s is
    (IsWithin-without_run s.rows (record s.working { c1 = set })
    (IsWithin-c1 s.rows set s.working (IsWithin-control s is)))
IsValidControl-control_effect s (commands.FlashMode k) is valid =
    IsValidControl-working s is
    (IsWithin-working_after_function s.working.c1 (flashing (flash_of k s.working.fast)) (fast_after k s.working.fast) s is tt
    (fast_after-in_range k s.working.fast is.working.fast))
IsValidControl-control_effect s commands.StopConceal is valid =
    IsValidControl-working s is
    (IsWithin-working_after_function s.working.c1 revealing s.working.fast s is tt is.working.fast)
IsValidControl-control_effect s (commands.Table k) is valid =
    IsValidControl-working s is (IsWithin-with_table s.rows k s.working (IsWithin-control s is) valid)
IsValidControl-control_effect s (commands.Format rows wrap) is valid = search rules
IsValidControl-control_effect s (commands.ControlDefaults set) is valid =
    IsValidControl-working s is (IsWithin-by_default s.rows set s.working (IsWithin-control s is))
IsValidControl-control_effect s (commands.FullDefaults set) is valid = search rules
IsValidControl-control_effect s (commands.ServiceBreak row) is valid =
    let bounds = rows-bounds s is in
    let there = IsWithin-working_at s.rows (min row s.rows) 1 (working_by_default c1sets.Parallel s.working)
    (IsWithin-by_default s.rows c1sets.Parallel s.working (IsWithin-control s is))
    (search rules) (omega arith) in
    assumption (IsValidWorking-kept_first s.kept s.working is.kept is.working)
IsValidControl-control_effect s commands.ServiceEnd is valid = IsValidControl-after_service s s.kept is is.kept
IsValidControl-control_effect s (commands.Protect on) is valid =
    IsValidControl-working s is (IsWithin-with_protect s.rows on s.working (IsWithin-control s is))
IsValidControl-control_effect s (commands.Implicit on) is valid =
    record { working = is.working; rows = is.rows; within = is.within; area = is.area; revision = is.revision; kept = is.kept }
IsValidControl-control_effect s (commands.AreaCreate first last) is valid =
    record { working = is.working; rows = is.rows; within = is.within; area = valid; revision = is.revision; kept = is.kept }
IsValidControl-control_effect s (commands.Revision revision) is valid =
    record { working = is.working; rows = is.rows; within = is.within; area = is.area; revision = valid; kept = is.kept }
IsValidControl-control_effect s (commands.AreaDelete first last) is valid = assumption (IsArea-without first last s.area is.area)
IsValidControl-control_effect s _ is valid = is

pub IsValidControl-state_for_effect : (s : ControlState) (command : Command) → IsValidControl s
    → IsValidControl (state_for_effect s command)
IsValidControl-state_for_effect s command is =
    cond_both (finds_accent command) s.working (record s.working { accent = None })
    (λ (w : Working). IsValidControl (control_with s w)) (λ e. is) (λ e. IsValidControl-without_accent s is)

pub IsValidControl-control_after : (s : ControlState) (command : Command) → IsValidControl s → IsValidCommand command
    → IsValidControl (control_after s command)
IsValidControl-control_after s command is valid =
    IsValidControl-control_effect (state_for_effect s command) command (IsValidControl-state_for_effect s command is)
    valid
