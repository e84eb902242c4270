-- Rows go down by one at most under a command: its strokes move rows up, or one stroke alone moves them.
use Rattle.std.proofs.Common.{option_to_list, map}
use Rattle.std.proofs.Common.{◌≡◌, ℕ, ◌+◌, ◌-◌, ◌≤◌, ◌==◌, ◌||◌, ◌&&◌, cond, Bool, true, false, List, [], ◌∷◌, ◌++◌}
use Rattle.std.proofs.Common.{Option, Some, None, inl, inr, zero, suc, refl, sym, ap, ◌∙◌, arith}
use Rattle.std.specs.List.{list_any}
use Rattle.std.specs.Prelude.{nat_le, option_and_then}
use Rattle.std.proofs.lemmas.Bool.{cases_Bool, or_left, or_parts, true≢false}
use Rattle.cept_codes.specs.declared.attribute.Attr.{Attr}
use Rattle.cept_codes.specs.declared.cell.Marker.{Marker}
use Rattle.cept_codes.specs.declared.cell.Marker.TheVariants as markers
use Rattle.cept_codes.specs.declared.command.C1Set.{C1Set}
use Rattle.cept_codes.specs.declared.command.C1Set.TheVariants as c1sets
use Rattle.cept_codes.specs.declared.command.Command.{Command}
use Rattle.cept_codes.specs.declared.command.Command.TheVariants as commands
use Rattle.cept_codes.specs.declared.command.Up.{Up}
use Rattle.cept_codes.specs.declared.command.Up.TheVariants as ways
use Rattle.cept_codes.specs.declared.glyph.Glyph.{Glyph}
use Rattle.cept_codes.specs.declared.glyph.Read.{Read}
use Rattle.cept_codes.specs.declared.glyph.Read.TheVariants as reads
use Rattle.cept_codes.specs.declared.stroke.Stroke.{Stroke}
use Rattle.cept_codes.specs.declared.stroke.Stroke.TheVariants as strokes
use Rattle.cept_profile.specs.Control.{ControlState, Working, state_for_effect}
use Rattle.cept_profile.specs.Motions.{area_in_force, strokes_of_scroll}
use Rattle.cept_profile.specs.Motions.{scrolling_area}
use Rattle.cept_profile.specs.MovedRows.{MovedRows, moved_rows, row_before, row_before_move, row_within}
use Rattle.cept_profile.specs.Pens.{c1_function, flash_of}
use Rattle.cept_profile.specs.Strokes.{strokes_of}
use Rattle.cept_profile.specs.Writing.{control_after_shift, graphic_read, sign_with_accent}
use Rattle.cept_profile.proofs.Laws.{above_strokes, back_strokes, below_strokes, by_above_strokes, by_back_strokes}
use Rattle.cept_profile.proofs.Laws.{by_below_strokes, by_on_strokes, control_after_copies, flashing, on_strokes, revealing}
use Rattle.cept_profile.proofs.Laws.{strokes_of_copies, strokes_of_function, strokes_of_marker, strokes_of_read}
use Rattle.cept_profile.proofs.Laws.{strokes_of_repeat, strokes_of_sign, strokes_when}
use Rattle.cept_profile.proofs.Laws.{effect_of_copies-more, effect_of_copies-none}

-- ---- one stroke

-- the way is down
abbrev is_way : Up → Bool
is_way ways.Up = false
is_way ways.Down = true

-- these rows move down
abbrev is_down : Option MovedRows → Bool
is_down None = false
is_down (Some moved) = is_way moved.way

-- the stroke moves rows down
abbrev goes_down : Stroke → Bool
goes_down x = is_down (moved_rows x)

-- where rows go up each came of itself or of one below it
up_within : (b : Bool) (first last r q : ℕ) → cond b (row_within ways.Up first last r) (Some r) ≡ Some q → r ≤ q
up_within false first last r q e = let here : r ≡ q = cc in omega (arith, here)
up_within true first last r q e = up (r == last) e
  where
    up : (b : Bool) → cond b None (Some (r + 1)) ≡ Some q → r ≤ q
    up true so = absurd (cc)
    up false so = let here : r + 1 ≡ q = cc in omega (arith, here)

-- where they go down, of itself or of the one above it
down_within : (b : Bool) (first last r q : ℕ) → cond b (row_within ways.Down first last r) (Some r) ≡ Some q → r ≤ q + 1
down_within false first last r q e = let here : r ≡ q = cc in omega (arith, here)
down_within true first last r q e = down (r == first) e
  where
    down : (b : Bool) → cond b None (Some (r - 1)) ≡ Some q → r ≤ q + 1
    down true so = absurd (cc)
    down false so = let here : r - 1 ≡ q = cc in omega (arith, here)

up_move : (moved : Option MovedRows) (r q : ℕ) → is_down moved ≡ false → row_before_move moved r ≡ Some q → r ≤ q
up_move None r q up e = let here : r ≡ q = cc in omega (arith, here)
up_move (Some moved) r q up e = by_way moved.way up e
  where
    by_way : (way : Up) → is_down (Some (record { first = moved.first; last = moved.last; way = way })) ≡ false
        → row_before_move (Some (record { first = moved.first; last = moved.last; way = way })) r ≡ Some q → r ≤ q
    by_way ways.Up none so = up_within (nat_le moved.first r && nat_le r moved.last) moved.first moved.last r q so
    by_way ways.Down none so = absurd (true≢false none)

low_move : (moved : Option MovedRows) (r q : ℕ) → row_before_move moved r ≡ Some q → r ≤ q + 1
low_move None r q e = let here : r ≡ q = cc in omega (arith, here)
low_move (Some moved) r q e = by_way moved.way e
  where
    by_way : (way : Up)
        → row_before_move (Some (record { first = moved.first; last = moved.last; way = way })) r ≡ Some q → r ≤ q + 1
    by_way ways.Up so =
        let up : r ≤ q = up_within (nat_le moved.first r && nat_le r moved.last) moved.first moved.last r q so in
        omega (arith, up)
    by_way ways.Down so = down_within (nat_le moved.first r && nat_le r moved.last) moved.first moved.last r q so

-- ---- strokes that move no row down

abbrev GoesUp : List Stroke → Type 0
GoesUp xs = list_any goes_down xs ≡ false

up-append : (xs ys : List Stroke) → GoesUp xs → GoesUp ys → GoesUp (xs ++ ys)
up-append [] ys none more = more
up-append (x ∷ xs) ys none more =
    elim (cases_Bool (goes_down x)) [
      | inl so ↦ absurd (true≢false (sym (or_left (goes_down x) (list_any goes_down xs) so) ∙ none))
      | inr not_so ↦
          let rest : GoesUp xs = ap (λ b. b || list_any goes_down xs) (sym not_so) ∙ none in
          ap (λ b. b || list_any goes_down (xs ++ ys)) not_so ∙ up-append xs ys rest more
    ]

up-cond : (b : Bool) (xs ys : List Stroke) → GoesUp xs → GoesUp ys → GoesUp (cond b xs ys)
up-cond true xs ys first second = first
up-cond false xs ys first second = second

up-one : (b : Bool) (x y : Stroke) → goes_down x ≡ false → goes_down y ≡ false → GoesUp (cond b x y ∷ [])
up-one true x y first second = ap (λ b. b || false) first
up-one false x y first second = ap (λ b. b || false) second

up-scroll : (s : ControlState) (area : Option (ℕ × ℕ)) → GoesUp (strokes_of_scroll s ways.Up area)
up-scroll s None = refl
up-scroll s (Some area) =
    up-one (s.revision == 2) (strokes.Carry area.0 area.1 ways.Up) (strokes.Shift area.0 area.1 ways.Up) refl refl

up-below : (s : ControlState) (c : ℕ) → GoesUp (below_strokes s c)
up-below s c = by_below_strokes GoesUp s c refl (up-scroll s (scrolling_area s))

up-on : (s : ControlState) (n : ℕ) → GoesUp (on_strokes s n)
up-on s n = by_on_strokes GoesUp s n refl (up-scroll s (scrolling_area s))

up-sign : (s : ControlState) (g : Glyph) → GoesUp (strokes_of_sign s g)
up-sign s g = up-on s _

up-read : (s : ControlState) (read : Read) → GoesUp (strokes_of_read s read)
up-read s (reads.Accent code) = refl
up-read s (reads.Glyph g) = up-sign s (sign_with_accent g.set g.code s.working.accent)

up-copies : (n : ℕ) (s : ControlState) (g : Glyph) → GoesUp (strokes_of_copies n s g)
up-copies zero s g = ap (λ (made : Working × List Stroke). list_any goes_down made.1) (effect_of_copies-none s g)
up-copies (suc n) s g =
    let next : n + 1 ≡ suc n = omega arith in
    ap (λ m. list_any goes_down (strokes_of_copies m s g)) (sym next)
    ∙ ap (λ (made : Working × List Stroke). list_any goes_down made.1) (effect_of_copies-more n s g)
    ∙ up-append (strokes_of_copies n s g) (strokes_of_sign (control_after_copies n s g) g) (up-copies n s g)
    (up-sign (control_after_copies n s g) g)

up-repeat : (n : ℕ) (s : ControlState) (last : Option Glyph) → GoesUp (strokes_of_repeat n s last)
up-repeat n s None = refl
up-repeat n s (Some g) = up-copies n s g

up-marker : (s : ControlState) (m : Marker) → GoesUp (strokes_of_marker s m)
up-marker s m = up-on s 1

up-function : (c1 : C1Set) (function : Option (Attr × Marker)) (fast : ℕ) (s : ControlState)
    → GoesUp (strokes_of_function c1 function fast s)
up-function c1sets.Parallel None fast s = refl
up-function c1sets.Parallel (Some function) fast s = refl
up-function c1sets.Serial None fast s = refl
up-function c1sets.Serial (Some function) fast s = up-marker s function.1

up-screen : (function : Option (Attr × Marker))
    → GoesUp (map (λ f. strokes.ScreenAttr f.0) (option_to_list function))
up-screen None = refl
up-screen (Some function) = refl

up-row : (r : ℕ) (function : Option (Attr × Marker))
    → GoesUp (map (λ f. strokes.RowAttr r f.0) (option_to_list function))
up-row r None = refl
up-row r (Some function) = refl

-- ---- rows that go down by one at most

abbrev GoesLow : List Stroke → Type 0
GoesLow xs = (r q : ℕ) → row_before xs r ≡ Some q → r ≤ q + 1

up_before : (xs : List Stroke) → GoesUp xs → (r q : ℕ) → row_before xs r ≡ Some q → r ≤ q
unfolding row_before
up_before [] up r q e = let same : Some r ≡ Some q = e in let here : r ≡ q = cc in omega (arith, here)
up_before (x ∷ xs) up r q e =
    let parts = or_parts (goes_down x) (list_any goes_down xs) up in
    by_row parts.0 (row_before xs r) (λ p is. up_before xs parts.1 r p is) e
  where
    by_row : goes_down x ≡ false → (found : Option ℕ) → ((p : ℕ) → found ≡ Some p → r ≤ p)
        → option_and_then (row_before_move (moved_rows x)) found ≡ Some q → r ≤ q
    by_row none None first so = absurd (cc)
    by_row none (Some p) first so =
        let more : p ≤ q = up_move (moved_rows x) p q none so in
        omega (arith, first p refl, more)

low-up : (xs : List Stroke) → GoesUp xs → GoesLow xs
low-up xs up r q e = let above : r ≤ q = up_before xs up r q e in omega (arith, above)

low-one : (x : Stroke) → GoesLow (x ∷ [])
unfolding row_before
low-one x r q e = low_move (moved_rows x) r q e

low-cond : (b : Bool) (xs ys : List Stroke) → GoesLow xs → GoesLow ys → GoesLow (cond b xs ys)
low-cond true xs ys first second = first
low-cond false xs ys first second = second

low-scroll : (s : ControlState) (way : Up) (area : Option (ℕ × ℕ)) → GoesLow (strokes_of_scroll s way area)
low-scroll s way None = low-up [] refl
low-scroll s way (Some area) =
    low-one (cond (s.revision == 2) (strokes.Carry area.0 area.1 way) (strokes.Shift area.0 area.1 way))

low-above : (s : ControlState) (c : ℕ) → GoesLow (above_strokes s c)
low-above s c = by_above_strokes GoesLow s c (low-up [] refl) (low-scroll s ways.Down (scrolling_area s))

low-back : (s : ControlState) → GoesLow (back_strokes s)
low-back s = by_back_strokes GoesLow s (low-up [] refl) (low-scroll s ways.Down (scrolling_area s))

low : (s : ControlState) (command : Command) → GoesLow (strokes_when s command)
low s commands.Back = low-back s
low s commands.Forward = low-up _ (up-on s 1)
low s commands.Down = low-up _ (up-below s s.working.column)
low s commands.Up = low-above s s.working.column
low s commands.Clear = low-up _ refl
low s (commands.Graphic byte) = low-up _ (up-read (control_after_shift s) (graphic_read s byte))
low s (commands.Repeat n) = low-up _ (up-repeat n s s.working.last)
low s commands.Cancel = low-up _ refl
low s (commands.C1 n) = low-up _ (up-function s.working.c1 (c1_function s.working.table n) _ s)
low s (commands.FlashMode k) =
    low-up _ (up-function s.working.c1 (flashing (flash_of k s.working.fast)) _ s)
low s commands.StopConceal = low-up _ (up-function s.working.c1 revealing _ s)
low s (commands.FullScreen n) = low-up _ (up-screen (c1_function s.working.table n))
low s (commands.FullRow n) = low-up _ (up-row s.working.row (c1_function s.working.table n))
low s commands.ColourDefaults = low-up _ refl
low s (commands.Entry i colour) = low-up _ refl
low s (commands.Dclut i entry) = low-up _ refl
low s (commands.DrcsHeader true form) = low-up _ refl
low s (commands.DrcsHeader false form) = low-up _ refl
low s (commands.DrcsPattern code pattern) = low-up _ refl
low s commands.ScrollUp = low-scroll s ways.Up (area_in_force s)
low s commands.ScrollDown = low-scroll s ways.Down (area_in_force s)
low s (commands.Format rows wrap) = low-up _ refl
low s (commands.FullDefaults set) = low-up _ refl
low s commands.Nul = low-up _ refl
low s commands.Skipped = low-up _ refl
low s commands.Return = low-up _ refl
low s commands.Home = low-up _ refl
low s commands.CursorOn = low-up _ refl
low s commands.CursorOff = low-up _ refl
low s (commands.LockLeft g) = low-up _ refl
low s (commands.LockRight g) = low-up _ refl
low s (commands.Single g) = low-up _ refl
low s (commands.Position r c) = low-up _ refl
low s (commands.DesignateC1 set) = low-up _ refl
low s (commands.Designate g set) = low-up _ refl
low s (commands.Table k) = low-up _ refl
low s (commands.Implicit on) = low-up _ refl
low s (commands.Protect on) = low-up _ refl
low s (commands.Marked on) = low-up _ refl
low s (commands.AreaCreate first last) = low-up _ refl
low s (commands.AreaDelete first last) = low-up _ refl
low s (commands.ColourHeader dclut) = low-up _ refl
low s (commands.ColourStart i) = low-up _ refl
low s (commands.DrcsStart code) = low-up _ refl
low s (commands.ServiceBreak row) = low-up _ refl
low s commands.ServiceEnd = low-up _ refl
low s (commands.ControlDefaults set) = low-up _ refl
low s (commands.Revision revision) = low-up _ refl

-- the strokes of a command move no row down by more than one
pub low-strokes_of : (s : ControlState) (command : Command) (r q : ℕ) → row_before (strokes_of s command) r ≡ Some q
    → r ≤ q + 1
low-strokes_of s command = low (state_for_effect s command) command
